-- A summary that is cut has as many ranges as there is room for.
use Rattle.std.proofs.Common.{◌≡◌, ℕ, zero, suc, ◌-◌, ◌≤◌, Bool, true, false, List, [], ◌∷◌, length, take, refl, sym}
use Rattle.std.proofs.{Common.{ap, subst, arith, length-append}, lemmas.Bool.{leb-false, ltb-true}}
use Rattle.std.specs.Prelude.{nat_le, min, if◌then◌else◌}
use Rattle.dir_values.specs.{declared.port_range.PortRange.PortRange, Ports.{Ports, range_text, entries_text}}
use Rattle.item_terms.specs.Bytes.{space, comma}
use Rattle.exit_summary.specs.Summaries.{accepted_ranges, rejected_ranges, accepted_ports, rejected_ports, most_bytes}
use Rattle.exit_summary.specs.Summaries.{most_behind_word, size_of, ranges_fitting, cut_summary, are_long, of_ranges}
use Rattle.exit_summary.{specs.Summaries.{IsLongestFront, CutsAreLongest}, proofs.Fitting.taken_by}

-- the ranges that fit stand in front
front : (room : ℕ) (ranges : List PortRange) → ranges_fitting room ranges ≡ take (length (ranges_fitting room ranges)) ranges
front room [] = refl
front room (range ∷ rest) =
    let left = room - taken_by range in
    elim (nat_le (taken_by range) room)
    as (λ b. (if b then range ∷ ranges_fitting left rest else [])
    ≡ take (length (if b then range ∷ ranges_fitting left rest else [])) (range ∷ rest)) [
      | true ↦ ap (λ (l : List PortRange). range ∷ l) (front left rest)
      | false ↦ refl
    ]

-- no longer front has a text that fits
longest : (room separator : ℕ) (ranges : List PortRange) (count : ℕ) → count ≤ length ranges
    → length (entries_text separator (take count ranges)) ≤ room → count ≤ length (ranges_fitting room ranges)
longest room separator ranges zero within fits = omega arith
longest room separator [] (suc count) within fits = absurd (omega arith)
longest room separator (range ∷ rest) (suc count) within fits =
    let left = room - taken_by range in
    let later = entries_text comma (take count rest) in
    let size = length-append (range_text range) later in
    let by : (b : Bool) → nat_le (taken_by range) room ≡ b
    → suc count ≤ length (if b then range ∷ ranges_fitting left rest else []) =
    λ b. elim b as (λ b. nat_le (taken_by range) room ≡ b
    → suc count ≤ length (if b then range ∷ ranges_fitting left rest else [])) [
      | true ↦ λ is.
          let more = longest left comma rest count (omega (arith, within)) (omega (arith, fits, size)) in
          omega (arith, more)
      | false ↦ λ is.
          let lt = leb-false (taken_by range) room is in
          absurd (omega (arith, lt, fits, size))
    ] in
    by (nat_le (taken_by range) room) refl

-- where both texts are too long, there are ranges of both, and the accepted ones are cut
taken_cut : (first second : List PortRange) → are_long (accepted_ports first) (rejected_ports second) ≡ true
    → of_ranges first second ≡ cut_summary first
taken_cut [] second long =
    let lt = ltb-true most_bytes (min (size_of (accepted_ports [])) (size_of (rejected_ports second))) long in
    absurd (omega (arith, lt))
taken_cut (range ∷ more) [] long =
    let lt = ltb-true most_bytes (min (size_of (accepted_ports (range ∷ more))) (size_of (rejected_ports []))) long in
    absurd (omega (arith, lt))
taken_cut (range ∷ more) (other ∷ others) long =
    let first = accepted_ports (range ∷ more) in
    let second = rejected_ports (other ∷ others) in
    let shorter_one = if nat_le (size_of first) (size_of second) then first else second in
    ap (λ (b : Bool). if b then cut_summary first.ranges else shorter_one) long

longest_front : (ranges : List PortRange) → IsLongestFront ranges (cut_summary ranges)
longest_front ranges = record {
  accepts = refl;
  first = front most_behind_word ranges;
  longest = λ count within fits. longest most_behind_word space ranges count within (omega (arith, fits));
}

pub cuts : CutsAreLongest
cuts items long =
    let is = taken_cut (accepted_ranges items) (rejected_ranges items) long in
    subst (λ (p : Ports). IsLongestFront (accepted_ranges items) p) (sym is) (longest_front (accepted_ranges items))
