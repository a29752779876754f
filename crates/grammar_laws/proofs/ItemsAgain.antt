-- Items that were written are read again, with their objects.
use Rattle.std.proofs.Common.{◌≡◌, ℕ, ◌+◌, ◌≤◌, Bool, true, false, List, [], ◌∷◌, ◌++◌, length, Option, Some, None}
use Rattle.std.proofs.{Common.{refl, ap, ◌∙◌, append_assoc, arith}, lemmas.{Bool.false≢true, List.length-append}}
use Rattle.std.specs.{Prelude.{◌==◌, ◌&&◌, not}, List.list_all}
use Rattle.item_terms.specs.{Words.{begins_dash, first_is, is_letter_or_digit, is_word_byte}, Faults.max_line}
use Rattle.item_terms.specs.{Steps.nothing, Items.{Contents, contents, also}}
use Rattle.dirdoc_grammar.specs.{Bodies.object_text, Writing.{AreWritable, IsKeyword, IsLineRest, IsWritable, NewItem}}
use Rattle.dirdoc_grammar.specs.Writing.{NewObject, all_written, in_front, is_open, item_text, items_text, lacks_object}
use Rattle.dirdoc_grammar.specs.Writing.{object_text_if, behind, written}
use Rattle.grammar_laws.proofs.{ObjectAgain.object_again, RoundTrip.{MayStand, line_again, whole_item, written_item}}
use Rattle.grammar_laws.proofs.WrittenBytes.{all_joined, avoids, differs}

-- ---- the keyword line

-- arguments have no byte of which a space is none, behind their space too
all_behind : (p : ℕ → Bool) (spaced : Bool) (args : List ℕ) → p 32 ≡ true → list_all p args ≡ true → list_all p (behind spaced args) ≡ true
all_behind p true args space all = ap (λ (t : Bool). t && list_all p args) space ∙ all
all_behind p false [] space all = refl
all_behind p false (b ∷ args) space all = ap (λ (t : Bool). t && list_all p (b ∷ args)) space ∙ all

line_stands : (limit place : ℕ) (word : List ℕ) (spaced : Bool) (args : List ℕ) → IsKeyword word → IsLineRest args → length (word ++ behind spaced args) + 1 ≤ max_line → place + (length (word ++ behind spaced args) + 1) ≤ limit → MayStand limit place (word ++ behind spaced args)
line_stands limit place word spaced args key rest fits within = record {
  no_nl = all_joined (λ b. not (b == 10)) word (behind spaced args) (avoids is_word_byte 10 word refl key.each) (all_behind (λ b. not (b == 10)) spaced args refl rest.no_nl);
  no_nul = all_joined (λ b. not (b == 0)) word (behind spaced args) (avoids is_word_byte 0 word refl key.each) (all_behind (λ b. not (b == 0)) spaced args refl rest.no_nul);
  fits = omega arith;
}

-- ---- one item

-- what is read of an item that was written, and then
record IsReadAgain (limit place : ℕ) (item : NewItem) (rest : List ℕ) : Type 0 where
  read : contents limit place nothing (item_text item ++ rest) ≡ also (Some (written place item)) (contents limit (place + length (item_text item)) nothing rest)

abbrev item_of : List ℕ → Bool → List ℕ → Option NewObject → NewItem
item_of word spaced args object = record { keyword = word; arguments = args; spaced = spaced; object = object }

-- without an object, before what begins with no '-'
line_alone : (limit place : ℕ) (word : List ℕ) (spaced : Bool) (args rest : List ℕ) → IsWritable limit place (item_of word spaced args None) → begins_dash rest ≡ false → IsReadAgain limit place (item_of word spaced args None) rest
line_alone limit place word spaced args rest h dash =
    let line = word ++ behind spaced args in
    let n : length (line ++ 10 ∷ []) ≡ length line + 1 = length-append line (10 ∷ []) in
    let stands = line_stands limit place word spaced args h.keyword h.arguments h.line_fits (omega (arith, n, h.within)) in
    let item = written_item place word spaced args in
    let after = place + (length line + 1) in
    let end : after ≡ place + length (line ++ 10 ∷ []) = omega (arith, n) in
    record {
      read = ap (λ (l : List ℕ). contents limit place nothing l) (append_assoc line (10 ∷ []) rest)
          ∙ line_again limit place word spaced args rest h.keyword h.arguments.trimmed stands
          ∙ whole_item limit after item rest dash
          ∙ ap (λ (k : ℕ). also (Some (record { keyword = item.keyword; separator = item.separator; arguments = item.arguments; start = item.start; line_end = item.line_end; object = None; place = place; after = k })) (contents limit k nothing rest)) end;
    }

-- with an object, whatever follows
line_with_object : (limit place : ℕ) (word : List ℕ) (spaced : Bool) (args : List ℕ) (object : NewObject) (rest : List ℕ) → IsWritable limit place (item_of word spaced args (Some object)) → IsReadAgain limit place (item_of word spaced args (Some object)) rest
line_with_object limit place word spaced args object rest h =
    let line = word ++ behind spaced args in
    let text = object_text object.words object.bytes in
    let n : length (line ++ 10 ∷ text) ≡ length line + 1 + length text = omega (arith, length-append line (10 ∷ text)) in
    let stands = line_stands limit place word spaced args h.keyword h.arguments h.line_fits (omega (arith, n, h.within)) in
    let item = written_item place word spaced args in
    let begin = place + (length line + 1) in
    let end : begin + length text ≡ place + length (line ++ 10 ∷ text) = omega (arith, n) in
    let whole = written place (item_of word spaced args (Some object)) in
    record {
      read = ap (λ (l : List ℕ). contents limit place nothing l) (append_assoc line (10 ∷ text) rest)
          ∙ line_again limit place word spaced args (text ++ rest) h.keyword h.arguments.trimmed stands
          ∙ object_again limit begin item object.words object.bytes rest h.object.words h.object.bytes h.object.fits (omega (arith, n, h.within))
          ∙ ap (λ (k : ℕ). also (Some (record { keyword = item.keyword; separator = item.separator; arguments = item.arguments; start = item.start; line_end = item.line_end; object = whole.object; place = place; after = k })) (contents limit k nothing rest)) end;
    }

by_object : (limit place : ℕ) (word : List ℕ) (spaced : Bool) (args : List ℕ) (object : Option NewObject) (rest : List ℕ) → IsWritable limit place (item_of word spaced args object) → lacks_object object && begins_dash rest ≡ false → IsReadAgain limit place (item_of word spaced args object) rest
by_object limit place word spaced args None rest h dash = line_alone limit place word spaced args rest h dash
by_object limit place word spaced args (Some object) rest h dash = line_with_object limit place word spaced args object rest h

one_again : (limit place : ℕ) (item : NewItem) (rest : List ℕ) → IsWritable limit place item → lacks_object item.object && begins_dash rest ≡ false → IsReadAgain limit place item rest
one_again limit place item rest h dash = by_object limit place item.keyword item.spaced item.arguments item.object rest h dash

-- ---- items one after the other

-- an item begins with a letter or digit, so that no object begins there
no_dash_first : (word more : List ℕ) → first_is is_letter_or_digit word ≡ true → begins_dash (word ++ more) ≡ false
no_dash_first [] more h = absurd (false≢true h)
no_dash_first (b ∷ word) more h = differs is_letter_or_digit 45 b refl h

no_dash_item : (item : NewItem) (more rest : List ℕ) → IsKeyword item.keyword → begins_dash (item_text item ++ more ++ rest) ≡ false
no_dash_item item more rest key =
    let word = item.keyword in
    let args = behind item.spaced item.arguments in
    let last = 10 ∷ object_text_if item.object in
    ap begins_dash (append_assoc (word ++ args ++ last) more rest ∙ append_assoc (word ++ args) last (more ++ rest) ∙ append_assoc word args (last ++ (more ++ rest)))
    ∙ no_dash_first word (args ++ (last ++ (more ++ rest))) key.first

never : (t : Bool) (b : Bool) → b ≡ false → t && b ≡ false
never true b e = e
never false b e = refl

-- what follows the first of the items is no object of its
after_first : (limit place : ℕ) (item : NewItem) (items : List NewItem) (rest : List ℕ) → AreWritable limit place items → is_open (item ∷ items) && begins_dash rest ≡ false → lacks_object item.object && begins_dash (items_text items ++ rest) ≡ false
after_first limit place item [] rest h dash = dash
after_first limit place item (other ∷ items) rest h dash = never (lacks_object item.object) _ (no_dash_item other (items_text items) rest h.0.keyword)

-- what follows all of them follows the others
after_others : (item : NewItem) (items : List NewItem) (rest : List ℕ) → is_open (item ∷ items) && begins_dash rest ≡ false → is_open items && begins_dash rest ≡ false
after_others item [] rest dash = refl
after_others item (other ∷ items) rest dash = dash

pub items_again : (limit place : ℕ) (items : List NewItem) (rest : List ℕ) → AreWritable limit place items → is_open items && begins_dash rest ≡ false
    → contents limit place nothing (items_text items ++ rest) ≡ in_front (all_written place items) (contents limit (place + length (items_text items)) nothing rest)
items_again limit place [] rest h dash = ap (λ (k : ℕ). contents limit k nothing rest) (omega arith)
items_again limit place (item ∷ items) rest h dash =
    let text = item_text item in
    let others = items_text items in
    let next = place + length text in
    let end : next + length others ≡ place + length (text ++ others) = omega (arith, length-append text others) in
    let first = one_again limit place item (others ++ rest) h.0 (after_first limit next item items rest h.1 dash) in
    ap (λ (l : List ℕ). contents limit place nothing l) (append_assoc text others rest)
    ∙ first.read
    ∙ ap (λ (c : Contents). also (Some (written place item)) c) (items_again limit next items rest h.1 (after_others item items rest dash))
    ∙ ap (λ (k : ℕ). in_front (all_written place (item ∷ items)) (contents limit k nothing rest)) end
