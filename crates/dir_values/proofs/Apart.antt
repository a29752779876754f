-- What ranges that are apart keep, the first and the others.
use Rattle.std.proofs.{Common.{◌≡◌, ℕ, ◌+◌, ◌≤◌, true, List, ◌∷◌}, lemmas.Bool.{and_from, and_parts, leb-true, le-leb}}
use Rattle.std.specs.Prelude.{nat_le, ◌&&◌}
use Rattle.dir_values.specs.{declared.port_range.PortRange.PortRange, Ports.{last_port, are_apart}}

pub record FirstApart (next : ℕ) (range : PortRange) (rest : List PortRange) : Type 0 where
  pub from : next ≤ range.low
  pub up : range.low ≤ range.high
  pub last : range.high ≤ last_port
  pub later : are_apart (range.high + 2) rest ≡ true

pub first_apart : (next : ℕ) (range : PortRange) (rest : List PortRange) → are_apart next (range ∷ rest) ≡ true
    → FirstApart next range rest
first_apart next range rest apart =
    let more = are_apart (range.high + 2) rest in
    let later = nat_le range.low range.high && (nat_le range.high last_port && more) in
    let a = and_parts (nat_le next range.low) later apart in
    let b = and_parts (nat_le range.low range.high) (nat_le range.high last_port && more) a.1 in
    let c = and_parts (nat_le range.high last_port) more b.1 in
    record {
      from = leb-true next range.low a.0;
      up = leb-true range.low range.high b.0;
      last = leb-true range.high last_port c.0;
      later = c.1;
    }

-- and they are apart where that holds
pub apart_first : (next : ℕ) (range : PortRange) (rest : List PortRange) → FirstApart next range rest
    → are_apart next (range ∷ rest) ≡ true
apart_first next range rest is =
    let from = le-leb next range.low is.from in
    let up = le-leb range.low range.high is.up in
    let last = le-leb range.high last_port is.last in
    and_from _ _ from (and_from _ _ up (and_from _ _ last is.later))
