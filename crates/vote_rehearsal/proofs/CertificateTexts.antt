-- The text of items that were appended in three parts.
use Rattle.std.proofs.Common.{◌≡◌, ℕ, List, [], ◌++◌, sym, ap, ◌∙◌}
use Rattle.dirdoc_grammar.specs.Writing.{NewItem, items_text}
use Rattle.frame_values.proofs.ItemsTexts.{sections}

pub in_three : (front middle back : List NewItem) (none one two three : List ℕ) → none ≡ []
    → one ≡ none ++ items_text front → two ≡ one ++ items_text middle → three ≡ two ++ items_text back
    → three ≡ items_text (front ++ middle ++ back)
in_three front middle back none one two three start first second third =
    third
    ∙ ap (λ (l : List ℕ). l ++ items_text back)
    (second ∙ ap (λ (l : List ℕ). l ++ items_text middle) (first ∙ ap (λ (l : List ℕ). l ++ items_text front) start)
    ∙ sym (sections front middle))
    ∙ sym (sections (front ++ middle) back)
