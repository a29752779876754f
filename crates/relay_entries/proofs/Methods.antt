-- The text of methods, one after the other.
use Rattle.std.{proofs.Common.{◌≡◌, ℕ, List, [], ◌∷◌, ◌++◌, sym, ap, append-nil}, specs.Prelude.decimal}
use Rattle.std.specs.List.{flat_map}
use Rattle.item_terms.specs.Bytes.{comma}
use Rattle.relay_entries.specs.Texts.{methods_text}

-- methods, each after a comma
abbrev pub after_commas : List ℕ → List ℕ
after_commas methods = flat_map (λ (method : ℕ). comma ∷ decimal method) methods

-- the first one stands in front of the others
pub methods_text-cons : (first : ℕ) (others : List ℕ)
    → methods_text (first ∷ others) ≡ decimal first ++ after_commas others
methods_text-cons first [] = sym (append-nil (decimal first))
methods_text-cons first (next ∷ others) =
    ap (λ (l : List ℕ). decimal first ++ comma ∷ l) (methods_text-cons next others)
