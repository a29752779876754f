-- The ranges that fit.
use Rattle.std.proofs.Common.{◌≡◌, ℕ, ◌+◌, ◌-◌, ◌≤◌, true, false, List, [], ◌∷◌, ◌++◌, length, refl, ap, arith}
use Rattle.std.proofs.{Common.length-append, lemmas.{Bool.{and_from, and_parts, le-leb}, Fmt.length-decimal-le}}
use Rattle.std.specs.{Prelude.{nat_le, ◌==◌, if◌then◌else◌}, Fmt.decimal}
use Rattle.item_terms.specs.Bytes.{hyphen}
use Rattle.dir_values.specs.{declared.port_range.PortRange.PortRange, Ports.{last_port, are_apart, are_ranges}}
use Rattle.dir_values.{specs.Ports.range_text, proofs.Apart.{first_apart, apart_first}}
use Rattle.exit_summary.specs.Summaries.{most_behind_word, ranges_fitting}

-- how many bytes a range takes, with the byte before it
abbrev pub taken_by : PortRange → ℕ
taken_by range = 1 + length (range_text range)

-- ranges that fit are apart as they were
fitting_apart : (room next : ℕ) (ranges : List PortRange) → are_apart next ranges ≡ true
    → are_apart next (ranges_fitting room ranges) ≡ true
fitting_apart room next [] apart = refl
fitting_apart room next (range ∷ rest) apart =
    let is = first_apart next range rest apart in
    let left = room - taken_by range in
    let more = fitting_apart left (range.high + 2) rest is.later in
    elim (nat_le (taken_by range) room)
    as (λ b. are_apart next (if b then range ∷ ranges_fitting left rest else []) ≡ true) [
      | true ↦ apart_first next range (ranges_fitting left rest)
          (record { from = is.from; up = is.up; last = is.last; later = more })
      | false ↦ refl
    ]

-- a range has at most two numbers of five digits and a hyphen
pub range_short : (range : PortRange) → range.low ≤ last_port → range.high ≤ last_port
    → length (range_text range) ≤ 11
unfolding range_text
range_short range low high =
    let a = length-decimal-le 5 range.low (omega arith) (omega (arith, low)) (omega (arith, low)) in
    let b = length-decimal-le 5 range.high (omega arith) (omega (arith, high)) (omega (arith, high)) in
    elim (range.low == range.high)
    as (λ t. length (if t then decimal range.low else decimal range.low ++ hyphen ∷ decimal range.high) ≤ 11) [
      | true ↦ omega (arith, a)
      | false ↦ omega (arith, a, b, length-append (decimal range.low) (hyphen ∷ decimal range.high))
    ]

-- the first range fits
pub fitting_ranges : (ranges : List PortRange) → are_ranges ranges ≡ true
    → are_ranges (ranges_fitting most_behind_word ranges) ≡ true
fitting_ranges [] are = absurd cc
fitting_ranges (range ∷ rest) are =
    let apart = (and_parts (nat_le 1 (length (range ∷ rest))) (are_apart 1 (range ∷ rest)) are).1 in
    let is = first_apart 1 range rest apart in
    let up = is.up in
    let last = is.last in
    let short = range_short range (omega (arith, up, last)) last in
    let fits : nat_le (taken_by range) most_behind_word ≡ true =
    le-leb (taken_by range) most_behind_word (omega (arith, short)) in
    let some : ranges_fitting most_behind_word (range ∷ rest)
    ≡ range ∷ ranges_fitting (most_behind_word - taken_by range) rest = rw fits refl in
    let ranges = ranges_fitting most_behind_word (range ∷ rest) in
    let one = le-leb 1 (length ranges) (omega (arith, ap (λ (l : List PortRange). length l) some)) in
    and_from (nat_le 1 (length ranges)) (are_apart 1 ranges) one
    (fitting_apart most_behind_word 1 (range ∷ rest) apart)
