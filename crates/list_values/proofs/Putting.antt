-- Values on a page, each behind a byte.
use Rattle.std.proofs.Common.{◌≡◌, ℕ, ◌+◌, ◌<◌, ◌≤◌, List, [], ◌∷◌, ◌++◌, length, map, get_or, drop, Option, sym, ap}
use Rattle.std.proofs.{Common.◌∙◌, lemmas.List.drop_all}
use Rattle.text_page.{specs.Pages.{Sheet, with_text}, proofs.Pages.{with_text-joined, with_text-nothing}}
use Rattle.list_values.{specs.Lending.behind_each, proofs.Joining.behind-drop}

-- once one was put there
pub behind_more : {A : Type 0} (text : A → List ℕ) (separator : ℕ) (before after : Option Sheet) (values : List A) (i : ℕ) (value : A)
    → i < length values → value ≡ get_or values i value → after ≡ with_text (with_text before (separator ∷ [])) (text value)
    → with_text after (behind_each separator (map text (drop (i + 1) values))) ≡ with_text before (behind_each separator (map text (drop i values)))
behind_more {A} text separator before after values i value lt is put =
    let rest = behind_each separator (map text (drop (i + 1) values)) in
    ap (λ (page : Option Sheet). with_text page rest) put ∙ with_text-joined (with_text before (separator ∷ [])) (text value) rest
    ∙ with_text-joined before (separator ∷ []) (text value ++ rest)
    ∙ ap (λ (l : List ℕ). with_text before l) (sym (behind-drop text separator values i value lt is))

-- where none is left, nothing is put there
pub behind_none : {A : Type 0} (text : A → List ℕ) (separator : ℕ) (page : Option Sheet) (values : List A) (i : ℕ)
    → length values ≤ i → with_text page (behind_each separator (map text (drop i values))) ≡ page
behind_none {A} text separator page values i le =
    ap (λ (left : List A). with_text page (behind_each separator (map text left))) (drop_all i values le) ∙ with_text-nothing page
