-- Groups of items that are appended one after the other.
use Rattle.std.proofs.Common.{◌≡◌, ◌∙◌, ℕ, List, ◌++◌, sym, ap}
use Rattle.dirdoc_grammar.specs.Writing.{NewItem, items_text}
use Rattle.frame_values.proofs.ItemsTexts.{link, sections}

-- items that were appended, and a group after them
pub group_and : (o p q : List ℕ) (items group : List NewItem) → p ≡ o ++ items_text items → q ≡ p ++ items_text group
    → q ≡ o ++ items_text (items ++ group)
group_and o p q items group first more =
    link o (items_text items) p q (items_text group) first more
    ∙ ap (λ (l : List ℕ). o ++ l) (sym (sections items group))
