-- The text of detached signatures is that of its parts, one after the other.
use Rattle.std.{proofs.Common.{◌≡◌, ℕ, List, [], ◌∷◌, ◌++◌, map, refl, ap, ◌∙◌}, specs.List.flat_map}
use Rattle.dirdoc_grammar.specs.Writing.{NewItem, item_text, items_text}
use Rattle.frame_values.proofs.ItemsTexts.{sections}
use Rattle.detached_doc.specs.declared.detached.{AdditionalDigest.AdditionalDigest, Detached.Detached}
use Rattle.detached_doc.specs.{declared.detached.DetachedLine.DetachedLine, Private.{additional_line_text, digest_text}}
use Rattle.detached_doc.specs.{Private.{head_text, parts, plain_line_text}, Texts.{additional_if, additional_items}}
use Rattle.detached_doc.specs.Texts.{digest_item, head_items, items_with, plain_if, plain_items}

of_each : {X : Type 0} (items : X → List NewItem) (xs : List X)
    → items_text (flat_map items xs) ≡ flat_map (λ (x : X). items_text (items x)) xs
of_each items [] = refl
of_each items (x ∷ xs) =
    sections (items x) (flat_map items xs) ∙ ap (λ (l : List ℕ). items_text (items x) ++ l) (of_each items xs)

of_one_each : {X : Type 0} (item : X → NewItem) (xs : List X)
    → items_text (map item xs) ≡ flat_map (λ (x : X). item_text (item x)) xs
of_one_each item [] = refl
of_one_each item (x ∷ xs) = ap (λ (l : List ℕ). item_text (item x) ++ l) (of_one_each item xs)

digests_text : (digests : List AdditionalDigest) → items_text (map digest_item digests) ≡ flat_map digest_text digests
unfolding digest_text
digests_text digests = of_one_each digest_item digests

additional_text : (lines : List DetachedLine) → items_text (additional_items lines) ≡ flat_map additional_line_text lines
unfolding additional_line_text
additional_text lines = of_each (λ (line : DetachedLine). additional_if line.flavour line.line) lines

plain_text : (lines : List DetachedLine) → items_text (plain_items lines) ≡ flat_map plain_line_text lines
unfolding plain_line_text
plain_text lines = of_each (λ (line : DetachedLine). plain_if line.flavour line.line) lines

first_text : (d : Detached) → items_text (head_items d) ≡ head_text d
unfolding head_text
first_text d = refl

joined : (a b c e : List NewItem) (p q r s : List ℕ) → items_text a ≡ p → items_text b ≡ q → items_text c ≡ r
    → items_text e ≡ s → items_text (a ++ (b ++ (c ++ e))) ≡ p ++ (q ++ (r ++ s))
joined a b c e p q r s f g h i =
    let last : items_text (c ++ e) ≡ r ++ s =
    sections c e ∙ ap (λ (l : List ℕ). l ++ items_text e) h ∙ ap (λ (l : List ℕ). r ++ l) i in
    let more : items_text (b ++ (c ++ e)) ≡ q ++ (r ++ s) =
    sections b (c ++ e) ∙ ap (λ (l : List ℕ). l ++ items_text (c ++ e)) g ∙ ap (λ (l : List ℕ). q ++ l) last in
    sections a (b ++ (c ++ e)) ∙ ap (λ (l : List ℕ). l ++ items_text (b ++ (c ++ e))) f
    ∙ ap (λ (l : List ℕ). p ++ l) more

-- with any signatures in any order
pub whole_text : (d : Detached) (lines : List DetachedLine) → items_text (items_with d lines) ≡ parts d lines
whole_text d lines =
    joined (head_items d) (map digest_item d.additional) (additional_items lines) (plain_items lines) (head_text d)
    (flat_map digest_text d.additional) (flat_map additional_line_text lines) (flat_map plain_line_text lines)
    (first_text d) (digests_text d.additional) (additional_text lines) (plain_text lines)
