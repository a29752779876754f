-- The lines of a written text.
use Rattle.std.proofs.Common.{◌≡◌, ℕ, Bool, true, false, List, [], ◌∷◌, ◌++◌, refl, ap, ◌∙◌, append_assoc}
use Rattle.std.{proofs.lemmas.{Bool.{and_parts, not-true}, List.Elements.{All-head, All-tail}}, specs.Prelude.map}
use Rattle.std.specs.{Prelude.{All, not, ◌==◌, if◌then◌else◌}, List.{list_all, flat_map}}
use Rattle.item_terms.specs.Lines.{Line, lines, onto}
use Rattle.bandwidth_laws.{specs.Again.is_line_byte, proofs.Saying.whole}

-- a line, and then others
pub one_line : (text rest : List ℕ) → list_all is_line_byte text ≡ true
    → lines (text ++ 10 ∷ rest) ≡ whole text ∷ lines rest
one_line [] rest all = refl
one_line (b ∷ text) rest all =
    let parts = and_parts (is_line_byte b) (list_all is_line_byte text) all in
    let other : (b == 10) ≡ false = not-true (b == 10) (and_parts (not (b == 10)) (not (b == 0)) parts.0).0 in
    ap (λ (t : Bool). if t then whole [] ∷ lines (text ++ 10 ∷ rest) else onto b (lines (text ++ 10 ∷ rest))) other
    ∙ ap (onto b) (one_line text rest parts.1)

module _ {X : Type 0} (text_of : X → List ℕ) (line_of : X → List ℕ)
    (is : (x : X) → text_of x ≡ line_of x ++ 10 ∷ []) where
  abbrev Stands : X → Type 0
  Stands x = list_all is_line_byte (line_of x) ≡ true

  -- a line of each of some items, and then others
  pub line_each : (xs : List X) (rest : List ℕ) → All (λ x. list_all is_line_byte (line_of x) ≡ true) xs
      → lines (flat_map text_of xs ++ rest) ≡ map (λ x. whole (line_of x)) xs ++ lines rest
  line_each [] rest each = refl
  line_each (x ∷ xs) rest each =
      ap (λ (l : List ℕ). lines ((l ++ flat_map text_of xs) ++ rest)) (is x)
      ∙ ap lines (append_assoc (line_of x ++ 10 ∷ []) (flat_map text_of xs) rest)
      ∙ ap lines (append_assoc (line_of x) (10 ∷ []) (flat_map text_of xs ++ rest))
      ∙ one_line (line_of x) (flat_map text_of xs ++ rest) (All-head Stands x xs each)
      ∙ ap (λ (l : List Line). whole (line_of x) ∷ l) (line_each xs rest (All-tail Stands x xs each))
