-- An object that was written is read again, whatever follows it.
use Rattle.std.proofs.Common.{◌≡◌, ℕ, zero, suc, ◌+◌, ◌-◌, ◌≤◌, Bool, true, false, cond, List, [], ◌∷◌, ◌++◌, length}
use Rattle.std.proofs.Common.{take, drop, Option, Some, None, Ok, Err, refl, sym, ap, subst, ◌∙◌, append_assoc, arith}
use Rattle.std.proofs.{Common.length-take, lemmas.{Bool.{and_parts, le-ltb}, List.{append-nil, length-append}}}
use Rattle.std.{proofs.{lemmas.List.length-drop, Math.Bool.and-false}, specs.Prelude.{◌&&◌, min, nat_lt}}
use Rattle.std.specs.List.{list_all}
use Rattle.base64.specs.GeneralPurpose.{IsBytes}
use Rattle.item_terms.specs.declared.fault.{DocFault.DocFault, DocReason.TheVariants.{ObjectBase64, ObjectEnd}}
use Rattle.item_terms.specs.{declared.fault.DocReason.TheVariants.ObjectTooLong, Lines.Line, Words.are_words}
use Rattle.item_terms.specs.{Words.{begin_words, begins_dash}, Base64Text.is_body, Faults.{at, line_fault, max_line}}
use Rattle.item_terms.specs.{Faults.{max_object, object_line_fault}, Steps.{Item, Object, Step, step_unless, nothing}}
use Rattle.item_terms.specs.Steps.{keyword_line, object_lines, begun_object, first_object_line, object_step}
use Rattle.item_terms.specs.{Steps.{open_unless, with_line, with_object}, Items.{contents, also}}
use Rattle.dirdoc_grammar.specs.Bodies.{begin_line, body_text, end_line, in_lines, object_text, base64_of}
use Rattle.dirdoc_grammar.proofs.{BodyLines.first_of_lines, Symbols.{base64_symbols, is_symbol}}
use Rattle.grammar_laws.proofs.{RoundTrip.{MayStand, read_over, sound_line}, WrittenBytes.{all_taken, avoids}}
use Rattle.grammar_laws.proofs.WrittenBytes.{begin_bytes, begin_words-begin_line, body_is_body, differs, end_bytes}
use Rattle.grammar_laws.proofs.WrittenBytes.{ends_object, is_words_byte}

-- the line with its NL
abbrev pub ended_line : List ℕ → Line
ended_line text = record { text = text; ended = true }

-- ---- the first line

-- a line of words may stand at its place
words_stand : (limit place : ℕ) (text : List ℕ) → list_all is_words_byte text ≡ true → place + (length text + 1) ≤ limit → length text + 1 ≤ max_object → MayStand limit place text
words_stand limit place text all within short = record {
  no_nl = avoids is_words_byte 10 text refl all;
  no_nul = avoids is_words_byte 0 text refl all;
  fits = omega arith;
}

begin_again : (limit place : ℕ) (item : Item) (words rest : List ℕ) → are_words true words ≡ true → place + (length (begin_line words) + 1) ≤ limit → length (begin_line words) + 1 ≤ max_object
    → contents limit place (keyword_line item) (begin_line words ++ 10 ∷ rest)
    ≡ contents limit (place + (length (begin_line words) + 1)) (object_lines item place (record { words = words; start = place + (length (begin_line words) + 1); text = [] })) rest
begin_again limit place item words rest h within fits =
    let text = begin_line words in
    let line = ended_line text in
    let stands = words_stand limit place text (begin_bytes words h) within fits in
    let begun = begun_object place line words in
    let short : nat_lt max_object (length text + 1) ≡ false = le-ltb max_object (length text + 1) fits in
    read_over limit place (keyword_line item) text rest None (object_lines item place begun) stands.no_nl
    (ap (λ (f : Option DocFault). record { whole = None; next = open_unless f (first_object_line place item line (begin_words text)) }) (sound_line limit place text stands)
    ∙ ap (λ (w : Option (List ℕ)). record { whole = None; next = first_object_line place item line w }) (begin_words-begin_line words h)
    ∙ ap (λ (b : Bool). record { whole = None; next = cond b (Err (at place ObjectTooLong)) (Ok (object_lines item place begun)) }) short)

-- ---- a line after it

-- the line passes no limit of the object that begins there
sound_object_line : (limit begin place : ℕ) (text : List ℕ) → MayStand limit place text → begin ≤ place → place + (length text + 1) ≤ begin + max_object → object_line_fault limit begin place (ended_line text) ≡ None
sound_object_line limit begin place text stands order fits =
    let room = max_object - (place - begin) in
    let other = nat_lt room (min (limit - place) max_line) in
    let found = Some (at begin ObjectTooLong) in
    let has_room : nat_lt room (length text + 1) ≡ false = le-ltb room (length text + 1) (omega arith) in
    ap (λ (t : Bool). cond (other && t) found (line_fault limit place (ended_line text))) has_room
    ∙ ap (λ (t : Bool). cond t found (line_fault limit place (ended_line text))) (and-false other)
    ∙ sound_line limit place text stands

object_line_again : (limit begin place : ℕ) (item : Item) (object : Object) (text rest : List ℕ) → MayStand limit place text → begins_dash text ≡ false → begin ≤ place → place + (length text + 1) ≤ begin + max_object
    → contents limit place (object_lines item begin object) (text ++ 10 ∷ rest) ≡ contents limit (place + (length text + 1)) (object_lines item begin (with_line object text)) rest
object_line_again limit begin place item object text rest stands dash order fits =
    let line = ended_line text in
    read_over limit place (object_lines item begin object) text rest None (object_lines item begin (with_line object text)) stands.no_nl
    (ap (λ (f : Option DocFault). step_unless f (object_step item begin object place line)) (sound_object_line limit begin place text stands order fits)
    ∙ rw dash refl)

-- ---- the lines of the body

-- the line is of base64, and is no longer than 64 characters
symbols_stand : (limit place : ℕ) (text : List ℕ) → list_all is_symbol text ≡ true → length text ≤ 64 → place + (length text + 1) ≤ limit → MayStand limit place text
symbols_stand limit place text all short within = record {
  no_nl = avoids is_symbol 10 text refl all;
  no_nul = avoids is_symbol 0 text refl all;
  fits = omega arith;
}

no_dash : (text : List ℕ) → list_all is_symbol text ≡ true → begins_dash text ≡ false
no_dash [] all = refl
no_dash (b ∷ text) all = differs is_symbol 45 b refl (and_parts (is_symbol b) (list_all is_symbol text) all).0

-- the object with more lines
abbrev longer : Object → List ℕ → Object
longer object lines = record { words = object.words; start = object.start; text = object.text ++ lines }

-- lines of an object are read over, whatever follows
record AreLines (limit begin place : ℕ) (item : Item) (object : Object) (rest lines : List ℕ) : Type 0 where
  read : contents limit place (object_lines item begin object) (lines ++ rest) ≡ contents limit (place + length lines) (object_lines item begin (longer object lines)) rest

no_lines : (limit begin place : ℕ) (item : Item) (object : Object) (rest : List ℕ) → AreLines limit begin place item object rest []
no_lines limit begin place item object rest = record {
  read = ap (λ (t : List ℕ). contents limit place (object_lines item begin (record { words = object.words; start = object.start; text = t })) rest) (sym (append-nil object.text))
      ∙ ap (λ (k : ℕ). contents limit k (object_lines item begin (longer object [])) rest) (omega arith);
}

-- one line more in front
line_and_lines : (limit begin place : ℕ) (item : Item) (object : Object) (rest text lines : List ℕ) → MayStand limit place text → begins_dash text ≡ false → begin ≤ place → place + (length text + 1) ≤ begin + max_object
    → AreLines limit begin (place + (length text + 1)) item (with_line object text) rest lines → AreLines limit begin place item object rest (text ++ 10 ∷ lines)
line_and_lines limit begin place item object rest text lines stands dash order fits after =
    let n : place + (length text + 1) + length lines ≡ place + length (text ++ 10 ∷ lines) = omega (arith, length-append text (10 ∷ lines)) in
    let whole : object.text ++ text ++ 10 ∷ [] ++ lines ≡ object.text ++ (text ++ 10 ∷ lines) = append_assoc (object.text ++ text) (10 ∷ []) lines ∙ append_assoc object.text text (10 ∷ lines) in
    record {
      read = ap (λ (l : List ℕ). contents limit place (object_lines item begin object) l) (append_assoc text (10 ∷ lines) rest)
          ∙ object_line_again limit begin place item object text (lines ++ rest) stands dash order fits
          ∙ after.read
          ∙ ap (λ (k : ℕ). contents limit k (object_lines item begin (longer (with_line object text) lines)) rest) n
          ∙ ap (λ (t : List ℕ). contents limit (place + length (text ++ 10 ∷ lines)) (object_lines item begin (record { words = object.words; start = object.start; text = t })) rest) whole;
    }

-- a body of lines of base64; fuel: no fewer than its characters
body_lines : (fuel limit begin place : ℕ) (item : Item) (object : Object) (rest text : List ℕ) → length text ≤ fuel → list_all is_symbol text ≡ true → begin ≤ place → place + length (in_lines 0 text) ≤ limit
    → place + length (in_lines 0 text) ≤ begin + max_object → AreLines limit begin place item object rest (in_lines 0 text)
body_lines fuel limit begin place item object rest [] enough all order within fits = no_lines limit begin place item object rest
body_lines zero limit begin place item object rest (b ∷ text) enough all order within fits = absurd (omega arith)
body_lines (suc fuel) limit begin place item object rest (b ∷ text) enough all order within fits =
    let whole : List ℕ = b ∷ text in
    let line = take 64 whole in
    let others = drop 64 whole in
    let parts = all_taken is_symbol 64 whole all in
    let first : in_lines 0 whole ≡ line ++ 10 ∷ in_lines 0 others = first_of_lines whole (omega arith) in
    let n : length (in_lines 0 whole) ≡ length line + suc (length (in_lines 0 others)) = ap (λ (l : List ℕ). length l) first ∙ length-append line (10 ∷ in_lines 0 others) in
    let next = place + (length line + 1) in
    let short : length line ≤ 64 = omega (arith, length-take 64 whole) in
    let ends : place + (length line + 1) ≤ limit = omega (arith, n, within) in
    let room : place + (length line + 1) ≤ begin + max_object = omega (arith, n, fits) in
    let fewer : length others ≤ fuel = omega (arith, length-drop 64 whole, enough) in
    let after = body_lines fuel limit begin next item (with_line object line) rest others fewer parts.1 (omega (arith, order)) (omega (arith, n, within)) (omega (arith, n, fits)) in
    subst (AreLines limit begin place item object rest) (sym first)
    (line_and_lines limit begin place item object rest line (in_lines 0 others) (symbols_stand limit place line parts.0 short ends) (no_dash line parts.0) order room after)

-- ---- the last line

end_again : (limit begin place : ℕ) (item : Item) (object : Object) (rest : List ℕ) → are_words true object.words ≡ true → is_body object.text ≡ true → begin ≤ place
    → place + (length (end_line object.words) + 1) ≤ limit → place + (length (end_line object.words) + 1) ≤ begin + max_object
    → contents limit place (object_lines item begin object) (end_line object.words ++ 10 ∷ rest)
    ≡ also (Some (with_object item object (place + (length (end_line object.words) + 1)))) (contents limit (place + (length (end_line object.words) + 1)) nothing rest)
end_again limit begin place item object rest h body order within fits =
    let text = end_line object.words in
    let line = ended_line text in
    let stands = words_stand limit place text (end_bytes object.words h) within (omega (arith, fits, order)) in
    let item_whole = with_object item object (place + (length text + 1)) in
    let whole : Step = record { whole = Some item_whole; next = Ok nothing } in
    let no_base64 : Step = record { whole = None; next = Err (at begin ObjectBase64) } in
    let no_end : Step = record { whole = None; next = Err (at place ObjectEnd) } in
    read_over limit place (object_lines item begin object) text rest (Some item_whole) nothing stands.no_nl
    (ap (λ (f : Option DocFault). step_unless f (object_step item begin object place line)) (sound_object_line limit begin place text stands order fits)
    ∙ ap (λ (t : Bool). cond t (cond (is_body object.text) whole no_base64) no_end) (ends_object object.words)
    ∙ ap (λ (t : Bool). cond t whole no_base64) body)

-- ---- the whole

pub object_again : (limit place : ℕ) (item : Item) (words bytes rest : List ℕ) → are_words true words ≡ true → IsBytes bytes → length (object_text words bytes) ≤ max_object → place + length (object_text words bytes) ≤ limit
    → contents limit place (keyword_line item) (object_text words bytes ++ rest)
    ≡ also (Some (with_object item (record { words = words; start = place + (length (begin_line words) + 1); text = body_text bytes }) (place + length (object_text words bytes)))) (contents limit (place + length (object_text words bytes)) nothing rest)
object_again limit place item words bytes rest h fit fits within =
    let first = begin_line words in
    let last = end_line words in
    let body = body_text bytes in
    let start = place + (length first + 1) in
    let end = start + length body in
    let object : Object = record { words = words; start = start; text = [] } in
    let n : length (object_text words bytes) ≡ length first + suc (length body + length last + 1) =
    length-append first (10 ∷ (body ++ last ++ 10 ∷ [])) ∙ ap (λ (k : ℕ). length first + suc k) (length-append (body ++ last) (10 ∷ []) ∙ ap (λ (k : ℕ). k + 1) (length-append body last)) in
    let text : object_text words bytes ++ rest ≡ first ++ 10 ∷ (body ++ (last ++ 10 ∷ rest)) =
    append_assoc first (10 ∷ (body ++ last ++ 10 ∷ [])) rest
    ∙ ap (λ (l : List ℕ). first ++ 10 ∷ l) (append_assoc (body ++ last) (10 ∷ []) rest ∙ append_assoc body last (10 ∷ rest)) in
    let lines = body_lines (length (base64_of bytes)) limit place start item object (last ++ 10 ∷ rest) (base64_of bytes) (omega arith) (base64_symbols bytes fit) (omega arith) (omega (arith, n, within)) (omega (arith, n, fits)) in
    let after : end + (length last + 1) ≡ place + length (object_text words bytes) = omega (arith, n) in
    ap (λ (l : List ℕ). contents limit place (keyword_line item) l) text
    ∙ begin_again limit place item words (body ++ (last ++ 10 ∷ rest)) h (omega (arith, n, within)) (omega (arith, n, fits))
    ∙ lines.read
    ∙ end_again limit place end item (record { words = words; start = start; text = body }) rest h (body_is_body bytes fit) (omega arith) (omega (arith, n, within)) (omega (arith, n, fits))
    ∙ ap (λ (k : ℕ). also (Some (with_object item (record { words = words; start = start; text = body }) k)) (contents limit k nothing rest)) after
