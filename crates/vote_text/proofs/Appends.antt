-- Items that are appended one after the other.
use Rattle.std.proofs.Common.{◌≡◌, ◌∙◌, ℕ, List, ◌++◌, sym, ap, append_assoc}
use Rattle.dirdoc_grammar.specs.Writing.{NewItem, items_text}
use Rattle.frame_values.proofs.ItemsTexts.{sections}

-- items that were appended, and more after them
pub and_then : (o p q : List ℕ) (a b : List NewItem) → p ≡ o ++ items_text a → q ≡ p ++ items_text b
    → q ≡ o ++ items_text (a ++ b)
and_then o p q a b first more =
    more ∙ ap (λ (l : List ℕ). l ++ items_text b) first ∙ append_assoc o (items_text a) (items_text b)
    ∙ ap (λ (l : List ℕ). o ++ l) (sym (sections a b))
