-- The text of a vote that was signed.
use Rattle.std.proofs.Common.{◌≡◌, ℕ, List, [], ◌∷◌, ◌++◌, sym, ap, ◌∙◌, append_assoc}
use Rattle.item_terms.specs.Bytes.{line_feed, space}

-- a line of two words and what follows it, one after the other
pub in_turn : (o a k rest : List ℕ)
    → ((((o ++ a) ++ space ∷ []) ++ k) ++ line_feed ∷ []) ++ rest ≡ o ++ ((a ++ space ∷ k) ++ line_feed ∷ rest)
in_turn o a k rest =
    append_assoc (((o ++ a) ++ space ∷ []) ++ k) (line_feed ∷ []) rest
    ∙ append_assoc ((o ++ a) ++ space ∷ []) k (line_feed ∷ rest)
    ∙ append_assoc (o ++ a) (space ∷ []) (k ++ line_feed ∷ rest)
    ∙ append_assoc o a (space ∷ (k ++ line_feed ∷ rest))
    ∙ ap (λ (l : List ℕ). o ++ l) (sym (append_assoc a (space ∷ k) (line_feed ∷ rest)))

-- a line of one word and a value
pub line_in_turn : (o a v : List ℕ)
    → (((o ++ a) ++ space ∷ []) ++ v) ++ line_feed ∷ [] ≡ o ++ ((a ++ space ∷ v) ++ line_feed ∷ [])
line_in_turn o a v =
    append_assoc ((o ++ a) ++ space ∷ []) v (line_feed ∷ [])
    ∙ append_assoc (o ++ a) (space ∷ []) (v ++ line_feed ∷ [])
    ∙ append_assoc o a (space ∷ (v ++ line_feed ∷ []))
    ∙ ap (λ (l : List ℕ). o ++ l) (sym (append_assoc a (space ∷ v) (line_feed ∷ [])))
