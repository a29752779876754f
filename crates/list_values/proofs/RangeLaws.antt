-- The ranges of some numbers have these numbers.
use Rattle.std.proofs.Common.{◌≡◌, ℕ, ◌+◌, ◌<◌, ◌≤◌, Bool, true, false, List, [], ◌∷◌, refl, sym, ap, ap₂, ◌∙◌, arith}
use Rattle.std.proofs.{Common.⊎_elim, lemmas.Bool.{eq-eqb, ne_eqb, eqb-true, le-leb, lt-leb, cases_order}}
use Rattle.std.{proofs.lemmas.List.Elements.{All-nil, All-cons, All-head, All-tail}, specs.Prelude.{All, ◌==◌, nat_le}}
use Rattle.std.specs.Prelude.{◌&&◌, ◌||◌, if◌then◌else◌}
use Rattle.list_values.specs.{declared.number_range.NumberRange.NumberRange, Laws.RangesHaveTheirNumbers}
use Rattle.list_values.specs.NumberSets.{in_range, in_ranges, with_number, ranges_of}

abbrev IsUp : NumberRange → Type 0
IsUp range = range.low ≤ range.high

abbrev span : ℕ → ℕ → NumberRange
span low high = record { low = low; high = high }

-- no range ends before it begins
with_up : (number : ℕ) (ranges : List NumberRange) → All IsUp ranges → All IsUp (with_number number ranges)
with_up number [] up = All-cons IsUp (span number number) [] (omega arith) up
with_up number (first ∷ rest) up =
    by (number + 1 == first.low) refl (All-head IsUp first rest up)
  where
    by : (b : Bool) → (number + 1 == first.low) ≡ b → first.low ≤ first.high
        → All IsUp (if b then span number first.high ∷ rest else span number number ∷ first ∷ rest)
    by true is le =
        let next = eqb-true (number + 1) first.low is in
        All-cons IsUp (span number first.high) rest (omega (arith, next, le)) (All-tail IsUp first rest up)
    by false is le = All-cons IsUp (span number number) (first ∷ rest) (omega arith) up

ranges_up : (numbers : List ℕ) → All IsUp (ranges_of numbers)
ranges_up [] = All-nil IsUp
ranges_up (number ∷ rest) = with_up number (ranges_of rest) (ranges_up rest)

-- a range grows by the number before it
grown : (low high n : ℕ) → low + 1 ≤ high → in_range (span low high) n ≡ ((low == n) || in_range (span (low + 1) high) n)
grown low high n up = ⊎_elim here (⊎_elim above below) (cases_order low n)
  where
    here : low ≡ n → in_range (span low high) n ≡ ((low == n) || in_range (span (low + 1) high) n)
    here is =
        ap₂ (λ (a b : Bool). a && b) (le-leb low n (omega (arith, is))) (le-leb n high (omega (arith, is, up)))
        ∙ sym (ap (λ (a : Bool). a || in_range (span (low + 1) high) n) (eq-eqb low n is))

    above : low < n → in_range (span low high) n ≡ ((low == n) || in_range (span (low + 1) high) n)
    above lt =
        ap (λ (a : Bool). a && nat_le n high) (le-leb low n (omega (arith, lt)) ∙ sym (le-leb (low + 1) n (omega (arith, lt))))
        ∙ sym (ap (λ (a : Bool). a || in_range (span (low + 1) high) n) (ne_eqb low n (λ is. absurd (omega (arith, is, lt)))))

    below : n < low → in_range (span low high) n ≡ ((low == n) || in_range (span (low + 1) high) n)
    below gt =
        ap (λ (a : Bool). a && nat_le n high) (lt-leb low n gt ∙ sym (lt-leb (low + 1) n (omega (arith, gt))))
        ∙ sym (ap (λ (a : Bool). a || in_range (span (low + 1) high) n) (ne_eqb low n (λ is. absurd (omega (arith, is, gt)))))

-- a range of one number has that number
single : (low n : ℕ) → in_range (span low low) n ≡ (low == n)
single low n = ⊎_elim here (⊎_elim above below) (cases_order low n)
  where
    here : low ≡ n → in_range (span low low) n ≡ (low == n)
    here is =
        ap₂ (λ (a b : Bool). a && b) (le-leb low n (omega (arith, is))) (le-leb n low (omega (arith, is))) ∙ sym (eq-eqb low n is)

    above : low < n → in_range (span low low) n ≡ (low == n)
    above lt =
        ap₂ (λ (a b : Bool). a && b) (le-leb low n (omega (arith, lt))) (lt-leb n low lt)
        ∙ sym (ne_eqb low n (λ is. absurd (omega (arith, is, lt))))

    below : n < low → in_range (span low low) n ≡ (low == n)
    below gt =
        ap (λ (a : Bool). a && nat_le n low) (lt-leb low n gt) ∙ sym (ne_eqb low n (λ is. absurd (omega (arith, is, gt))))

or_assoc : (a b c : Bool) → ((a || b) || c) ≡ (a || (b || c))
or_assoc true b c = refl
or_assoc false b c = refl

with_has : (number n : ℕ) (ranges : List NumberRange) → All IsUp ranges
    → in_ranges (with_number number ranges) n ≡ ((number == n) || in_ranges ranges n)
with_has number n [] up = ap (λ (a : Bool). a || false) (single number n)
with_has number n (first ∷ rest) up = by (number + 1 == first.low) refl (All-head IsUp first rest up)
  where
    by : (b : Bool) → (number + 1 == first.low) ≡ b → first.low ≤ first.high
        → in_ranges (if b then span number first.high ∷ rest else span number number ∷ first ∷ rest) n
        ≡ ((number == n) || (in_range first n || in_ranges rest n))
    by true is le =
        let next = eqb-true (number + 1) first.low is in
        ap (λ (a : Bool). a || in_ranges rest n) (grown number first.high n (omega (arith, next, le))
        ∙ ap (λ (low : ℕ). (number == n) || (nat_le low n && nat_le n first.high)) next)
        ∙ or_assoc (number == n) (in_range first n) (in_ranges rest n)
    by false is le = ap (λ (a : Bool). a || (in_range first n || in_ranges rest n)) (single number n)

pub ranges_have : RangesHaveTheirNumbers
ranges_have [] n = refl
ranges_have (number ∷ rest) n =
    with_has number n (ranges_of rest) (ranges_up rest) ∙ ap (λ (a : Bool). (number == n) || a) (ranges_have rest n)
