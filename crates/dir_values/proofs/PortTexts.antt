-- What a list of ranges spells, range by range.
use Rattle.std.proofs.Common.{◌≡◌, ℕ, suc, ◌+◌, ◌≤◌, Bool, true, false, List, [], ◌∷◌, ◌++◌, length, map, refl, sym, ap}
use Rattle.std.proofs.{Common.{◌∙◌, subst, arith, Some, None, Option, append_assoc}, lemmas.Bool.{and_from, le-leb}}
use Rattle.std.proofs.lemmas.{Bool.Decides.nat_tests, List.{append-nil, length-map, Splits.length-slice_split}}
use Rattle.std.specs.{Prelude.{nat_le, ◌&&◌, IsTrue, option_and_then, if◌then◌else◌}, Option.option_map, List.list_any}
use Rattle.std.specs.{List.{before_first, after_first, slice_split}, Str.Parse.digits_value}
use Rattle.dir_bytes.specs.Fields.{is_numeral, number}
use Rattle.dir_values.specs.{declared.port_range.PortRange.PortRange, Lending.from_port, Ports.{is_comma, is_hyphen}}
use Rattle.dir_values.specs.Ports.{last_port, are_apart, are_ranges, if_apart, unless_zero, listed_port, range_between}
use Rattle.dir_values.{specs.Ports.{range_of, all_of, range_list}, proofs.PortParts.{ranges_after, more_after}}

-- ---- what a part spells

-- a port is at most 65535
port_small : (text : List ℕ) (port : ℕ) → listed_port text ≡ Some port → port ≤ 65535
unfolding listed_port number
port_small text port is =
    let value = digits_value 10 text in
    let by : (b : Bool) → (is_numeral text && nat_le value 65535) ≡ b
    → option_and_then unless_zero (if b then Some value else None) ≡ Some port → port ≤ 65535 =
    λ b. elim b as (λ b. (is_numeral text && nat_le value 65535) ≡ b
    → option_and_then unless_zero (if b then Some value else None) ≡ Some port → port ≤ 65535) [
      | true ↦ λ fits. grind (arith, nat_tests)
      | false ↦ λ fits. grind arith
    ] in
    by (is_numeral text && nat_le value 65535) refl is

-- What the range between two ports is.
record IsBetween (low high : Option ℕ) (range : PortRange) : Type 0 where
  first : low ≡ Some range.low
  last : high ≡ Some range.high
  up : nat_le range.low range.high ≡ true

between : (low high : Option ℕ) (range : PortRange) → range_between low high ≡ Some range → IsBetween low high range
between None high range is = absurd cc
between (Some low) None range is = absurd cc
between (Some low) (Some high) range is =
    let one : PortRange = record { low = low; high = high } in
    let by : (b : Bool) → nat_le low high ≡ b → (if b then Some one else None) ≡ Some range
    → IsBetween (Some low) (Some high) range =
    λ b. elim b as (λ b. nat_le low high ≡ b → (if b then Some one else None) ≡ Some range
    → IsBetween (Some low) (Some high) range) [
      | true ↦ λ up same. record { first = cc; last = cc; up = cc }
      | false ↦ λ down same. absurd cc
    ] in
    by (nat_le low high) refl is

-- What a range of ports is.
record IsOrdered (range : PortRange) : Type 0 where
  up : nat_le range.low range.high ≡ true
  small : nat_le range.high last_port ≡ true

-- a range that is spelled is one of ports
range_ordered : (text : List ℕ) (range : PortRange) → range_of text ≡ Some range → IsOrdered range
unfolding range_of
range_ordered text range is =
    let front = before_first is_hyphen text in
    let back = after_first is_hyphen text in
    let by : (b : Bool)
    → (if b then range_between (listed_port front) (listed_port back)
    else range_between (listed_port text) (listed_port text)) ≡ Some range
    → IsOrdered range =
    λ b. elim b as (λ b.
    (if b then range_between (listed_port front) (listed_port back)
    else range_between (listed_port text) (listed_port text)) ≡ Some range
    → IsOrdered range) [
      | true ↦ λ two.
          let parts = between (listed_port front) (listed_port back) range two in
          let small = port_small back range.high parts.last in
          record { up = parts.up; small = le-leb range.high 65535 small }
      | false ↦ λ one.
          let parts = between (listed_port text) (listed_port text) range one in
          let small = port_small text range.high parts.last in
          record { up = parts.up; small = le-leb range.high 65535 small }
    ] in
    by (list_any is_hyphen text) is

-- ---- the whole list

-- ranges behind others, if they stand from a port on and are apart
abbrev ranges_behind_others : ℕ → List PortRange → List PortRange → Option (List PortRange)
ranges_behind_others next before ranges = if are_apart next ranges then Some (before ++ ranges) else None

-- the same of those that come later than a range
abbrev behind_range : List PortRange → Option (List PortRange) → PortRange → Option (List PortRange)
behind_range before later range = option_and_then (ranges_behind_others (range.high + 2) (before ++ range ∷ [])) later

-- a range in front of those that come later
one_first : (next : ℕ) (before : List PortRange) (range : PortRange) (later : Option (List PortRange))
    → IsOrdered range
    → option_and_then (behind_range before later) (from_port next (Some range))
    ≡ option_and_then (ranges_behind_others next before) (option_map (λ ranges. range ∷ ranges) later)
one_first next before range None is =
    elim (nat_le next range.low)
    as (λ b. option_and_then (behind_range before None) (if b then Some range else None) ≡ None) [
      | true ↦ refl
      | false ↦ refl
    ]
one_first next before range (Some ranges) is =
    let rest = are_apart (range.high + 2) ranges in
    let up = is.up in
    let small = is.small in
    elim (nat_le next range.low)
    as (λ b. option_and_then (behind_range before (Some ranges)) (if b then Some range else None)
    ≡ (if b && (nat_le range.low range.high && (nat_le range.high last_port && rest))
    then Some (before ++ range ∷ ranges) else None)) [
      | true ↦ rw (up, small) (elim rest
          as (λ b. (if b then Some ((before ++ range ∷ []) ++ ranges) else None)
          ≡ (if b then Some (before ++ range ∷ ranges) else None)) [
            | true ↦ ap (λ (l : List PortRange). Some l) (append_assoc before (range ∷ []) ranges)
            | false ↦ refl
          ])
      | false ↦ refl
    ]

-- the ranges that texts spell one after the other are those that each of them spells, if they are apart
after_all : (next : ℕ) (before : List PortRange) (texts : List (List ℕ))
    → ranges_after next before texts ≡ option_and_then (ranges_behind_others next before) (all_of (map range_of texts))
after_all next before [] = ap (λ (l : List PortRange). Some l) (sym (append-nil before))
after_all next before (text ∷ texts) =
    let each = all_of (map range_of texts) in
    let by : (o : Option PortRange) → range_of text ≡ o
    → option_and_then (more_after before texts) (from_port next o)
    ≡ option_and_then (ranges_behind_others next before) (all_of (o ∷ map range_of texts)) =
    λ o. elim o as (λ o. range_of text ≡ o
    → option_and_then (more_after before texts) (from_port next o)
    ≡ option_and_then (ranges_behind_others next before) (all_of (o ∷ map range_of texts))) [
      | None ↦ λ is. refl
      | Some range ↦ λ is.
          let later = after_all (range.high + 2) (before ++ range ∷ []) texts in
          let first : option_and_then (more_after before texts) (from_port next (Some range))
          ≡ option_and_then (behind_range before each) (from_port next (Some range)) =
          elim (nat_le next range.low)
          as (λ b. option_and_then (more_after before texts) (if b then Some range else None)
          ≡ option_and_then (behind_range before each) (if b then Some range else None)) [
            | true ↦ later
            | false ↦ refl
          ] in
          first ∙ one_first next before range each (range_ordered text range is)
    ] in
    by (range_of text) refl

pub list_after : (text : List ℕ) → range_list text ≡ ranges_after 1 [] (slice_split is_comma text)
list_after text = sym (after_all 1 [] (slice_split is_comma text))

-- there are as many ranges as texts
length-all_of : (found : List (Option PortRange)) (ranges : List PortRange) → all_of found ≡ Some ranges
    → length ranges ≡ length found
length-all_of [] ranges is = let none : ranges ≡ [] = cc in ap (λ (l : List PortRange). length l) none
length-all_of (None ∷ found) ranges is = absurd cc
length-all_of (Some range ∷ found) ranges is =
    let by : (o : Option (List PortRange)) → all_of found ≡ o → option_map (λ rest. range ∷ rest) o ≡ Some ranges
    → length ranges ≡ suc (length found) =
    λ o. elim o as (λ o. all_of found ≡ o → option_map (λ rest. range ∷ rest) o ≡ Some ranges
    → length ranges ≡ suc (length found)) [
      | None ↦ λ later none. absurd cc
      | Some rest ↦ λ later some.
          let whole : ranges ≡ range ∷ rest = cc in
          let count = length-all_of found rest later in
          omega (arith, count, ap (λ (l : List PortRange). length l) whole)
    ] in
    by (all_of found) refl is

-- ranges that are kept if they are apart are apart
kept_apart : (all ranges : List PortRange) → 1 ≤ length all → if_apart all ≡ Some ranges → are_ranges ranges ≡ true
kept_apart all ranges some is =
    let one : nat_le 1 (length all) ≡ true = le-leb 1 (length all) some in
    let by : (b : Bool) → are_apart 1 all ≡ b → (if b then Some all else None) ≡ Some ranges
    → are_ranges ranges ≡ true =
    λ b. elim b as (λ b. are_apart 1 all ≡ b → (if b then Some all else None) ≡ Some ranges
    → are_ranges ranges ≡ true) [
      | true ↦ λ apart same.
          let whole : all ≡ ranges = cc in
          let are = and_from (nat_le 1 (length all)) (are_apart 1 all) one apart in
          subst (λ (l : List PortRange). are_ranges l ≡ true) whole are
      | false ↦ λ apart same. absurd cc
    ] in
    by (are_apart 1 all) refl is

-- the ranges that a text spells are apart, and there is one
pub spelled_apart : (text : List ℕ) (ranges : List PortRange) → range_list text ≡ Some ranges
    → IsTrue (are_ranges ranges)
spelled_apart text ranges is =
    let parts = slice_split is_comma text in
    let some : 1 ≤ length parts = let count = length-slice_split is_comma text in omega (arith, count) in
    let by : (o : Option (List PortRange)) → all_of (map range_of parts) ≡ o → option_and_then if_apart o ≡ Some ranges
    → are_ranges ranges ≡ true =
    λ o. elim o as (λ o. all_of (map range_of parts) ≡ o → option_and_then if_apart o ≡ Some ranges
    → are_ranges ranges ≡ true) [
      | None ↦ λ each none. absurd cc
      | Some all ↦ λ each same.
          let count : length all ≡ length parts =
          length-all_of (map range_of parts) all each ∙ length-map parts range_of in
          kept_apart all ranges (omega (arith, some, count)) same
    ] in
    by (all_of (map range_of parts)) refl is
