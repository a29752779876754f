-- The numbers of ranges, one range after the other.
use Rattle.std.proofs.Common.{◌≡◌, ℕ, ◌<◌, Bool, true, false, List, ◌∷◌, Some, None, Option, refl, sym, ap, ◌∙◌}
use Rattle.std.specs.{Prelude.{◌||◌, bit_or}, Option.option_map}
use Rattle.list_values.specs.{declared.number_range.NumberRange.NumberRange, Masks.is_set, NumberSets.in_range}
use Rattle.list_values.{specs.{NumberSets.{in_ranges, numbers_that}, Protocols.all_of}, proofs.Bits.set_either}
use Rattle.list_values.proofs.NumberLists.{same_numbers}

-- the numbers of a mask, and of ranges that are left
abbrev pub numbers_after : ℕ → List (Option NumberRange) → Option (List ℕ)
numbers_after mask left = option_map (λ ranges. numbers_that (λ n. is_set mask n || in_ranges ranges n)) (all_of left)

or_assoc : (a b c : Bool) → (a || (b || c)) ≡ ((a || b) || c)
or_assoc true b c = refl
or_assoc false b c = refl

-- once a range was taken
pub after_more : (mask more : ℕ) (range : NumberRange) (left : List (Option NumberRange))
    → ((n : ℕ) → n < 64 → is_set more n ≡ in_range range n)
    → numbers_after mask (Some range ∷ left) ≡ numbers_after (bit_or mask more) left
after_more mask more range left its = by (all_of left)
  where
    by : (o : Option (List NumberRange))
        → option_map (λ ranges. numbers_that (λ n. is_set mask n || in_ranges ranges n)) (option_map (λ ranges. range ∷ ranges) o)
        ≡ option_map (λ ranges. numbers_that (λ n. is_set (bit_or mask more) n || in_ranges ranges n)) o
    by None = refl
    by (Some ranges) = ap Some (same_numbers (λ n. is_set mask n || (in_range range n || in_ranges ranges n))
        (λ n. is_set (bit_or mask more) n || in_ranges ranges n)
        (λ n lt. or_assoc (is_set mask n) (in_range range n) (in_ranges ranges n)
        ∙ ap (λ (b : Bool). (is_set mask n || b) || in_ranges ranges n) (sym (its n lt))
        ∙ ap (λ (b : Bool). b || in_ranges ranges n) (sym (set_either mask more n))))
