-- Numbers with single spaces between them, one by one.
use Rattle.std.{proofs.{Common.{◌≡◌, ℕ, List, [], ◌∷◌, ◌++◌, sym, ap}, lemmas.List.append-nil}, specs.Prelude.decimal}
use Rattle.item_terms.specs.Bytes.{space}
use Rattle.dir_values.specs.{Numbers.numbers_text, Lending.after_numbers}

-- the first number, and then each after a space
pub numbers_text-cons : (first : ℕ) (rest : List ℕ) → numbers_text (first ∷ rest) ≡ decimal first ++ after_numbers rest
numbers_text-cons first [] = sym (append-nil (decimal first))
numbers_text-cons first (next ∷ rest) = ap (λ (l : List ℕ). decimal first ++ space ∷ l) (numbers_text-cons next rest)
