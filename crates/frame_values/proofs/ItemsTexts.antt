-- The text of items is that of its parts, one after the other.
use Rattle.std.proofs.{Common.{◌≡◌, ◌∙◌, ℕ, List, [], ◌∷◌, ◌++◌, refl, sym, ap, append_assoc}, lemmas.List.append-nil}
use Rattle.dirdoc_grammar.specs.Writing.{NewItem, item_text, items_text}

pub sections : (front back : List NewItem) → items_text (front ++ back) ≡ items_text front ++ items_text back
sections [] back = refl
sections (item ∷ front) back =
    ap (λ (l : List ℕ). item_text item ++ l) (sections front back)
    ∙ sym (append_assoc (item_text item) (items_text front) (items_text back))

-- a text that was appended and what was appended after it
pub link : (o a p q rest : List ℕ) → p ≡ o ++ a → q ≡ p ++ rest → q ≡ o ++ (a ++ rest)
link o a p q rest first more = more ∙ ap (λ (l : List ℕ). l ++ rest) first ∙ append_assoc o a rest

-- the last text that was appended
pub last : (o a q : List ℕ) → q ≡ o ++ a → q ≡ o ++ (a ++ [])
last o a q is = is ∙ ap (λ (l : List ℕ). o ++ l) (sym (append-nil a))
