-- No blank lines stand before the text of a descriptor.
use Rattle.std.proofs.Common.{◌≡◌, ℕ, ◌+◌, ◌-◌, ◌≤◌, Bool, true, false, List, [], ◌∷◌, ◌++◌, length, take, drop, Option}
use Rattle.std.proofs.Common.{Some, None, refl, sym, ap, subst, ◌∙◌, arith, append-nil, append_assoc, take-take}
use Rattle.std.{proofs.lemmas.List.{drop-take, take-append-drop, take_all}, specs.Prelude.{◌&&◌, unwrap_or}}
use Rattle.std.specs.Prelude.{if◌then◌else◌}
use Rattle.item_terms.specs.{Items.{Item, items_of}, Lines.{Line, lines, size}, Words.is_blank_line}
use Rattle.grammar_laws.specs.Blocks.{AreBlankLines, AreLinesOfItem, AreLinesOfItems, sizes}
use Rattle.grammar_laws.proofs.{BlockFronts.items_are_there, BlockLines.keyword_not_blank, LinesTogether.AllEnded}
use Rattle.grammar_laws.proofs.{LinesTogether.lines_both, SoundLines.has_end}
use Rattle.blank_lines.specs.Blanks.{after_blanks, first_other, is_blank}
use Rattle.descriptor_doc.{specs.Reading.{front_of, max_descriptor}, proofs.Fronts.is_first}

-- ---- the first line that is not blank is that of the first item

blank_is : (limit place : ℕ) (line : Line) → is_blank_line line.text ≡ true → line.ended ≡ true → is_blank line ≡ true
blank_is limit place line blank ended = (λ i. blank i && ended i)

keyword_is : (line : Line) → is_blank_line line.text ≡ false → is_blank line ≡ false
keyword_is line dark = ap (λ (t : Bool). t && line.ended) dark

first_stands : (limit place at_ : ℕ) (blanks own others : List Line) (item : Item) → AreBlankLines limit place blanks
    → AreLinesOfItem limit (place + sizes blanks) own item
    → first_other at_ (blanks ++ (own ++ others)) ≡ Some (at_ + sizes blanks)
unfolding first_other
first_stands limit place at_ [] own others item blank its =
    let dark = keyword_is its.first (keyword_not_blank its.first.text its.begins.keyword) in
    let here : at_ ≡ at_ + 0 = omega arith in
    ap (λ (l : List Line). first_other at_ (l ++ others)) its.lines
    ∙ ap (λ (t : Bool). if t then first_other (at_ + size its.first) (its.others ++ others) else Some at_) dark
    ∙ ap (λ (n : ℕ). Some n) here
first_stands limit place at_ (line ∷ blanks) own others item blank its =
    let is = blank_is limit place line blank.0.blank (has_end limit place line blank.0.sound) in
    let further : place + size line + sizes blanks ≡ place + (size line + sizes blanks) = omega arith in
    let there : at_ + size line + sizes blanks ≡ at_ + (size line + sizes blanks) = omega arith in
    ap (λ (t : Bool). if t then first_other (at_ + size line) (blanks ++ (own ++ others)) else Some at_) is
    ∙ first_stands limit (place + size line) (at_ + size line) blanks own others item blank.1
    (subst (λ (n : ℕ). AreLinesOfItem limit n own item) (sym further) its)
    ∙ ap (λ (n : ℕ). Some n) there

-- Where the first item of a text begins with it, or not, so does the first line that is not blank, whatever follows.
record BeginsAt (text : List ℕ) (item : Item) : Type 0 where
  stands : (at_ : ℕ) (more : List Line) → first_other at_ (lines text ++ more) ≡ Some (at_ + item.place)

begins : (text : List ℕ) (item : Item) (items : List Item) → (items_of max_descriptor text).items ≡ item ∷ items
    → (items_of max_descriptor text).fault ≡ None → BeginsAt text item
begins text item items come sound =
    let there =
    subst (λ (l : List Item). AreLinesOfItems 65536 0 (lines text) l) come (items_are_there 0 max_descriptor text sound) in
    record {
      stands = λ at_ more.
          let place : at_ + sizes there.blanks ≡ at_ + item.place = omega (arith, there.are_its.stands) in
          ap (λ (l : List Line). first_other at_ (l ++ more))
          (there.lines ∙ append_assoc there.blanks there.own there.others)
          ∙ ap (λ (l : List Line). first_other at_ l)
          (append_assoc there.blanks (there.own ++ there.others) more
          ∙ ap (λ (l : List Line). there.blanks ++ l) (append_assoc there.own there.others more))
          ∙ first_stands 65536 0 at_ there.blanks there.own (there.others ++ more) item there.are_blank there.are_its
          ∙ ap (λ (n : ℕ). Some n) place;
    }

-- ---- the text begins with its first item

-- the bytes within the limit, from the text on
parts : (n end : ℕ) (bytes : List ℕ) → n ≤ max_descriptor → end ≤ max_descriptor - n
    → drop n (take max_descriptor bytes)
    ≡ take end (drop n bytes) ++ drop end (take (max_descriptor - n) (drop n bytes))
parts n end bytes fits ends =
    let whole : max_descriptor ≡ n + (max_descriptor - n) = omega (arith, fits) in
    let rest = take (max_descriptor - n) (drop n bytes) in
    ap (λ (k : ℕ). drop n (take k bytes)) whole ∙ drop-take n (max_descriptor - n) bytes
    ∙ sym (take-append-drop end rest)
    ∙ ap (λ (l : List ℕ). l ++ drop end rest) (take-take end (max_descriptor - n) (drop n bytes) ends)

-- the first item stands at the first byte
pub first_place : (bytes : List ℕ) (end : ℕ) (item : Item) (items : List Item) → front_of bytes ≤ max_descriptor
    → end ≤ max_descriptor - front_of bytes
    → (items_of max_descriptor (take end (drop (front_of bytes) bytes))).items ≡ item ∷ items
    → (items_of max_descriptor (take end (drop (front_of bytes) bytes))).fault ≡ None
    → AllEnded (lines (take end (drop (front_of bytes) bytes))) → item.place ≡ 0
first_place bytes end item items = by (after_blanks 0 (take max_descriptor bytes)) refl
  where
    -- where the first line that is not blank is looked for from the text on
    there : (n : ℕ) → n ≤ max_descriptor → end ≤ max_descriptor - n
        → BeginsAt (take end (drop n bytes)) item → AllEnded (lines (take end (drop n bytes)))
        → after_blanks n (take max_descriptor bytes) ≡ Some (n + item.place)
    there n fits ends begins ended =
        let text = take end (drop n bytes) in
        let more = drop end (take (max_descriptor - n) (drop n bytes)) in
        ap (λ (l : List ℕ). first_other n (lines l)) (parts n end bytes fits ends)
        ∙ ap (λ (l : List Line). first_other n l) (lines_both text more ended) ∙ begins.stands n (lines more)

    by : (found : Option ℕ) → after_blanks 0 (take max_descriptor bytes) ≡ found → unwrap_or found 0 ≤ max_descriptor
        → end ≤ max_descriptor - unwrap_or found 0
        → (items_of max_descriptor (take end (drop (unwrap_or found 0) bytes))).items ≡ item ∷ items
        → (items_of max_descriptor (take end (drop (unwrap_or found 0) bytes))).fault ≡ None
        → AllEnded (lines (take end (drop (unwrap_or found 0) bytes))) → item.place ≡ 0
    by None e fits ends come sound ended =
        absurd (cc (sym e ∙ there 0 fits ends (begins (take end (drop 0 bytes)) item items come sound) ended))
    by (Some n) e fits ends come sound ended =
        let again = (is_first n (take max_descriptor bytes) e).again in
        let both : Some n ≡ Some (n + item.place) =
        sym again ∙ there n fits ends (begins (take end (drop n bytes)) item items come sound) ended in
        let same : n ≡ n + item.place = cc both in
        omega (arith, same)

-- so that no blank lines stand before it
pub no_front : (text : List ℕ) (item : Item) (items : List Item) → length text ≤ max_descriptor
    → (items_of max_descriptor text).items ≡ item ∷ items → (items_of max_descriptor text).fault ≡ None
    → item.place ≡ 0 → front_of text ≡ 0
no_front text item items short come sound first =
    let its = begins text item items come sound in
    let from : 0 + item.place ≡ 0 = omega (arith, first) in
    ap (λ (l : List ℕ). unwrap_or (first_other 0 (lines l)) 0) (take_all max_descriptor text short)
    ∙ ap (λ (l : List Line). unwrap_or (first_other 0 l) 0) (sym (append-nil (lines text)))
    ∙ ap (λ (o : Option ℕ). unwrap_or o 0) (its.stands 0 []) ∙ from
