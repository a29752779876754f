-- The texts and the objects of items that stand in place in a document's bytes.
use Rattle.std.proofs.Common.{◌≡◌, ℕ, ◌+◌, ◌-◌, ◌≤◌, List, [], ◌++◌, length, take, drop, Option, Some, None, refl, sym}
use Rattle.std.proofs.{Common.{ap, ◌∙◌, append_assoc, arith}, lemmas.List.{drop-drop, drop_at, take_at}}
use Rattle.std.{proofs.lemmas.List.take-append-drop, specs.Prelude.{IfSome, unwrap_or}}
use Rattle.base64.specs.GeneralPurpose.{IsBytes}
use Rattle.item_terms.specs.Items.{Item, Object}
use Rattle.dir_bytes.specs.Causes.{last_moment}
use Rattle.grammar_laws.proofs.WrittenBytes.{decoded-body_text}
use Rattle.dirdoc_grammar.specs.{Bodies.{body_text, decoded_bytes}, InPlace.InPlace}
use Rattle.frame_values.specs.{Fields.span, Parts.{bytes_in, moment_of, part}}

-- a text that stands at a place
pub at_span : (bytes text : List ℕ) (start : ℕ) → take (length text) (drop start bytes) ≡ text
    → part bytes (span start text) ≡ text
at_span bytes text start there =
    let count : start + length text - start ≡ length text = omega arith in
    ap (λ (k : ℕ). take k (drop start bytes)) count ∙ there

-- the front of a text that stands at a place stands there too
pub front_stands : (bytes front back : List ℕ) (start : ℕ)
    → take (length (front ++ back)) (drop start bytes) ≡ front ++ back
    → take (length front) (drop start bytes) ≡ front
front_stands bytes front back start there =
    let rest = drop start bytes in
    let behind = drop (length (front ++ back)) rest in
    let whole : rest ≡ front ++ (back ++ behind) =
    sym (take-append-drop (length (front ++ back)) rest) ∙ ap (λ (l : List ℕ). l ++ behind) there
    ∙ append_assoc front back behind in
    ap (λ (l : List ℕ). take (length front) l) whole ∙ take_at front (back ++ behind) (length front) refl

-- a text between two others stands behind the first
pub between_stands : (front text back : List ℕ)
    → take (length text) (drop (length front) (front ++ (text ++ back))) ≡ text
between_stands front text back =
    ap (λ (l : List ℕ). take (length text) l) (drop_at front (text ++ back) (length front) refl)
    ∙ take_at text back (length text) refl

-- the rest of a line
pub rest_part : {bytes : List ℕ} {item : Item} → InPlace bytes item
    → part bytes (span item.start item.arguments) ≡ item.arguments
rest_part {bytes} {item} there = at_span bytes item.arguments item.start there.arguments

-- the bytes that the lines of an object spell
spelled_if : (text bytes : List ℕ) (object : Option Object) → IsBytes bytes
    → IfSome object (λ o. take (length o.text) (drop o.start text) ≡ o.text)
    → IfSome object (λ o. o.text ≡ body_text bytes → bytes_in text (span o.start o.text) ≡ bytes)
spelled_if text bytes None are there = there
spelled_if text bytes (Some object) are there = λ body.
    ap (λ (l : List ℕ). unwrap_or (decoded_bytes l) []) (at_span text object.text object.start there ∙ body)
    ∙ ap (λ (o : Option (List ℕ)). unwrap_or o []) (decoded-body_text bytes are)

pub spelled : {text : List ℕ} {item : Item} (bytes : List ℕ) → IsBytes bytes → InPlace text item
    → IfSome item.object (λ o. o.text ≡ body_text bytes → bytes_in text (span o.start o.text) ≡ bytes)
spelled {text} {item} bytes are there = spelled_if text bytes item.object are there.object

-- a moment of the calendar, which is cut off twice
pub once : (moment : ℕ) → moment ≤ last_moment → moment_of (moment_of moment) ≡ moment
once moment within = omega (arith, within)

-- a part of a text that stands in a span
pub part_of_part : (bytes : List ℕ) (start : ℕ) (front text back : List ℕ)
    → part bytes (span start (front ++ text ++ back)) ≡ front ++ text ++ back
    → part bytes (span (start + length front) text) ≡ text
part_of_part bytes start front text back there =
    let all = front ++ text ++ back in
    let rest = drop start bytes in
    let count : start + length all - start ≡ length all = omega arith in
    let cut : take (length all) rest ≡ all = sym (ap (λ (n : ℕ). take n rest) count) ∙ there in
    let behind = drop (length all) rest in
    let shape : all ++ behind ≡ front ++ (text ++ (back ++ behind)) = simp append_assoc in
    let whole : rest ≡ front ++ (text ++ (back ++ behind)) =
    sym (take-append-drop (length all) rest) ∙ ap (λ (l : List ℕ). l ++ behind) cut ∙ shape in
    let inner : drop (start + length front) bytes ≡ text ++ (back ++ behind) =
    sym (drop-drop (length front) start bytes) ∙ ap (λ (l : List ℕ). drop (length front) l) whole
    ∙ drop_at front (text ++ (back ++ behind)) (length front) refl in
    let size : start + length front + length text - (start + length front) ≡ length text = omega arith in
    ap (λ (n : ℕ). take n (drop (start + length front) bytes)) size ∙ ap (λ (l : List ℕ). take (length text) l) inner
    ∙ take_at text (back ++ behind) (length text) refl
