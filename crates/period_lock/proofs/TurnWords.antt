-- The two words of a turn after one of them is set, and what fits at a seat.
use Rattle.std.proofs.Common.{◌≡◌, ℕ, ◌%◌, ◌^◌, ◌<◌, zero, suc, List, [], ◌∷◌, ◌++◌, length, set, Some, Option, Bool}
use Rattle.std.{proofs.{Common.{refl, sym, ap, ◌∙◌, arith}, Math.Nat.mod-eq_of_lt}, specs.Prelude.slice_index}
use mathlib.Core.Option.{some, some-ne-none}
use lib.ListN.{get_elem?}
use Rattle.period_lock.specs.{declared.rule.{View.View, Part.Part}, Turns.entry_by, Kept.{IsPartOf, Fits, seated_view}}
use Rattle.period_lock.{specs.Kept.{parts_of, times}, proofs.Entries.parts_apart}

pub some_is : {S : Type 0} (a b : S) → Some a ≡ Some b → a ≡ b
some_is a b e = cc

module _ {A : Type 0} where
  pub at_inside : (l : List A) (i : ℕ) (a : A) → get_elem? l i ≡ some a → i < length l
  at_inside [] i a e = absurd (some-ne-none a (sym e))
  at_inside (x ∷ xs) zero a e = omega arith
  at_inside (x ∷ xs) (suc i) a e = omega (arith, at_inside xs i a e)

pub first_set : (words : List ℕ) (n : ℕ) → length words ≡ 2 → slice_index (set words 0 n) 0 ≡ n
first_set (x ∷ xs) n two = refl
first_set [] n two = absurd (omega arith)

pub second_set : (words : List ℕ) (n : ℕ) → length words ≡ 2 → slice_index (set words 1 n) 1 ≡ n
second_set (x ∷ y ∷ ys) n two = refl
second_set (x ∷ []) n two = absurd (omega arith)
second_set [] n two = absurd (omega arith)

pub first_same : (words : List ℕ) (n : ℕ) → slice_index (set words 1 n) 0 ≡ slice_index words 0
first_same (x ∷ xs) n = refl
first_same [] n = refl

pub second_same : (words : List ℕ) (n : ℕ) → slice_index (set words 0 n) 1 ≡ slice_index words 1
second_same (x ∷ xs) n = refl
second_same [] n = refl

pub second_again : (words : List ℕ) → length words ≡ 2 → slice_index words 1 ≡ 1 → set words 1 1 ≡ words
second_again (x ∷ y ∷ ys) two one = ap (λ (n : ℕ). x ∷ n ∷ ys) (sym one)
second_again (x ∷ []) two one = absurd (omega arith)
second_again [] two one = absurd (omega arith)

pub small_word : (n m : ℕ) → n ≡ m → m < 2 ^ 64 → n % 2 ^ 64 ≡ m
small_word n m same below = mod-eq_of_lt (omega (arith, same, below)) ∙ same

module _ {S X : Type 0} (start : S) where
  pub fits_seated : (log : List (ℕ × X)) (count : ℕ) (holds : Bool) (own : Part X) → IsPartOf log count own
      → Fits start log count (seated_view start holds own)
  fits_seated log count holds own part = record
      { start_is = λ s e. sym (some_is start s e); parts = (part, tt); live = λ _. refl }

  pub fits_other : (log : List (ℕ × X)) (count n : ℕ) (e : Option X) (u : View S X) → times n u ≡ 0
      → Fits start log count u → Fits start (log ++ entry_by n e) count u
  fits_other log count n e u none_there fits = record {
    start_is = fits.start_is;
    parts = parts_apart count log n e (parts_of u) none_there fits.parts;
    live =
        fits.live;
  }
