-- Texts with a byte between each two: the first, and then each behind that byte.
use Rattle.std.proofs.Common.{◌≡◌, ℕ, suc, ◌+◌, ◌<◌, List, [], ◌∷◌, ◌++◌, length, map, get_or, drop, sym, ap, ◌∙◌}
use Rattle.std.{proofs.{Common.{arith, length-append, drop-cons}, lemmas.List.append-nil}, specs.List.join_with_byte}
use Rattle.list_values.specs.Lending.{behind_each}

pub join-cons : (separator : ℕ) (first : List ℕ) (rest : List (List ℕ))
    → join_with_byte separator (first ∷ rest) ≡ first ++ behind_each separator rest
join-cons separator first [] = sym (append-nil first)
join-cons separator first (next ∷ rest) = ap (λ (l : List ℕ). first ++ separator ∷ l) (join-cons separator next rest)

module _ {A : Type 0} (text : A → List ℕ) where
  -- what is left to write before a value is written
  pub behind-drop : (separator : ℕ) (values : List A) (i : ℕ) (value : A) → i < length values → value ≡ get_or values i value
      → behind_each separator (map text (drop i values))
      ≡ separator ∷ (text value ++ behind_each separator (map text (drop (i + 1) values)))
  behind-drop separator values i value lt is =
      let one : suc i ≡ i + 1 = omega arith in
      let left : ℕ → List ℕ = λ n. behind_each separator (map text (drop n values)) in
      ap (λ (l : List A). behind_each separator (map text l)) (drop-cons values i value lt)
      ∙ ap (λ (v : A). separator ∷ (text v ++ left (suc i))) (sym is)
      ∙ ap (λ (n : ℕ). separator ∷ (text value ++ left n)) one
