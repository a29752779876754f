-- A worker more, and one less of what workers are made of.
use Rattle.std.proofs.Common.{◌≡◌, List, [], ◌∷◌, ◌++◌, length, map, sym, ap, ◌∙◌, append_assoc, append-nil, arith}
use Rattle.std.proofs.lemmas.List.{map-append}

-- what the workers have, and what is left, is all that there was
pub shift : {W A : Type 0} (f : W → A) (ws ws' : List W) (w : W) (x : A) (old rest all : List A)
    → map f ws ++ old ≡ all → old ≡ x ∷ rest → f w ≡ x → ws' ≡ ws ++ w ∷ [] → map f ws' ++ rest ≡ all
shift f ws ws' w x old rest all is first same more =
    ap (λ l. map f l ++ rest) more ∙ ap (λ l. l ++ rest) (map-append f ws (w ∷ []))
    ∙ append_assoc (map f ws) (f w ∷ []) rest ∙ ap (λ y. map f ws ++ y ∷ rest) same
    ∙ sym (ap (λ l. map f ws ++ l) first) ∙ is

-- where nothing is left, the workers have all that there was
pub all_hired : {W A : Type 0} (f : W → A) (ws : List W) (rest all : List A) → length rest ≡ 0
    → map f ws ++ rest ≡ all → map f ws ≡ all
all_hired f ws [] all none is = sym (append-nil (map f ws)) ∙ is
all_hired f ws (x ∷ rest) all none is = absurd (omega (arith, none))
