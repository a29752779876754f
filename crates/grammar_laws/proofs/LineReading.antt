-- What lines of a known kind make when they are read, one or many.
use Rattle.std.proofs.Common.{◌≡◌, ℕ, ◌+◌, Bool, true, cond, List, [], ◌∷◌, ◌++◌, Option, Some, None, Ok, Err, refl}
use Rattle.std.proofs.{Common.{sym, ap, ◌∙◌, append_assoc, arith}, lemmas.{Bool.le-ltb, List.append-nil}}
use Rattle.item_terms.specs.declared.fault.{DocFault.DocFault, DocReason.TheVariants.{Keyword, ObjectBase64, ObjectEnd}}
use Rattle.item_terms.specs.{declared.fault.DocReason.TheVariants.ObjectTooLong, Lines.{Line, lines, size}}
use Rattle.item_terms.specs.Words.{is_keyword_line, keyword, begins_dash, begins, ends, strip, begin_words, is_end_line}
use Rattle.item_terms.specs.{Base64Text.is_body, Faults.{at, line_fault, object_line_fault, max_object}, Steps.Item}
use Rattle.item_terms.specs.Steps.{Open, Step, Object, step, nothing, keyword_line, object_lines, keyword_item}
use Rattle.item_terms.specs.Steps.{begun_object, with_line, with_object, open_item, item_unless, open_unless}
use Rattle.item_terms.specs.Steps.{step_unless, object_step, line_item, read_line, starts_dash, first_object_line}
use Rattle.item_terms.specs.Items.{Contents, contents_of, also, proceed}
use Rattle.grammar_laws.specs.Blocks.{sizes, text_of, IsBlankLine, IsKeywordLine, IsBeginLine, IsBodyLine, IsEndLine}
use Rattle.grammar_laws.{specs.Blocks.{AreBlankLines, AreBodyLines, AreLinesOfObject}, proofs.BlockLines.sizes_append}
use Rattle.grammar_laws.proofs.BlockLines.{keyword_not_blank, end_dash, begin_dash}

-- ---- one line

-- a line without a fault makes this
pub reads : (limit place : ℕ) (so_far : Open) (line : Line) (rest : List Line) (whole : Option Item) (next : Open) → step limit place so_far line ≡ record { whole = whole; next = Ok next }
    → contents_of limit place so_far (line ∷ rest) ≡ also whole (contents_of limit (place + size line) next rest)
unfolding contents_of
reads limit place so_far line rest whole next e = ap (λ (s : Step). also s.whole (proceed s.next (λ open_. contents_of limit (place + size line) open_ rest))) e

blank_step : (limit place : ℕ) (line : Line) → IsBlankLine limit place line → step limit place nothing line ≡ record { whole = None; next = Ok nothing }
blank_step limit place line h =
    ap (λ (f : Option DocFault). record { whole = None; next = open_item (item_unless f (line_item place line)) }) h.sound
    ∙ ap (λ (b : Bool). record { whole = None; next = open_item (cond b (Ok None) (cond (is_keyword_line line.text) (Ok (Some (keyword_item place line))) (Err (at place Keyword)))) }) h.blank

pub keyword_step : (limit place : ℕ) (line : Line) → IsKeywordLine limit place line → step limit place nothing line ≡ record { whole = None; next = Ok (keyword_line (keyword_item place line)) }
keyword_step limit place line h =
    ap (λ (f : Option DocFault). record { whole = None; next = open_item (item_unless f (line_item place line)) }) h.sound
    ∙ ap (λ (b : Bool). record { whole = None; next = open_item (cond b (Ok None) (cond (is_keyword_line line.text) (Ok (Some (keyword_item place line))) (Err (at place Keyword)))) }) (keyword_not_blank line.text h.keyword)
    ∙ ap (λ (k : Bool). record { whole = None; next = open_item (cond k (Ok (Some (keyword_item place line))) (Err (at place Keyword))) }) h.keyword

-- a line that begins with '-' right after a keyword line
pub dash_step : (limit place : ℕ) (item : Item) (line : Line) → begins_dash line.text ≡ true
    → step limit place (keyword_line item) line ≡ record { whole = None; next = open_unless (line_fault limit place line) (first_object_line place item line (begin_words line.text)) }
dash_step limit place item line d =
    ap (λ (b : Bool). cond b (record { whole = None; next = open_unless (line_fault limit place line) (first_object_line place item line (begin_words line.text)) }) (record { whole = Some item; next = open_item (read_line limit place line) })) d

pub begin_made : (limit place : ℕ) (item : Item) (line : Line) (words : Option (List ℕ)) → begins_dash line.text ≡ true → line_fault limit place line ≡ None → begin_words line.text ≡ words
    → step limit place (keyword_line item) line ≡ record { whole = None; next = first_object_line place item line words }
begin_made limit place item line words d e w =
    dash_step limit place item line d
    ∙ ap (λ (f : Option DocFault). record { whole = None; next = open_unless f (first_object_line place item line (begin_words line.text)) }) e
    ∙ ap (λ (o : Option (List ℕ)). record { whole = None; next = first_object_line place item line o }) w

pub begin_step : (limit place : ℕ) (item : Item) (line : Line) (words : List ℕ) → IsBeginLine limit place line words → step limit place (keyword_line item) line ≡ record { whole = None; next = Ok (object_lines item place (begun_object place line words)) }
begin_step limit place item line words h =
    begin_made limit place item line (Some words) (begin_dash words line.text (strip begins line.text) refl h.begins) h.sound h.begins
    ∙ ap (λ (b : Bool). record { whole = None; next = cond b (Err (at place ObjectTooLong)) (Ok (object_lines item place (begun_object place line words))) }) (le-ltb max_object (size line) h.fits)

-- what a sound line of an object makes, by its tests
abbrev pub made_by : Item → ℕ → Object → ℕ → Line → Bool → Bool → Bool → Step
made_by item begin object place line dash end body =
    cond dash (cond end (cond body (record { whole = Some (with_object item object (place + size line)); next = Ok nothing }) (record { whole = None; next = Err (at begin ObjectBase64) })) (record { whole = None; next = Err (at place ObjectEnd) })) (record { whole = None; next = Ok (object_lines item begin (with_line object line.text)) })

pub sound_step : (limit place : ℕ) (item : Item) (begin : ℕ) (object : Object) (line : Line) → object_line_fault limit begin place line ≡ None
    → step limit place (object_lines item begin object) line ≡ made_by item begin object place line (starts_dash line) (is_end_line object.words line.text) (is_body object.text)
sound_step limit place item begin object line e = ap (λ (f : Option DocFault). step_unless f (object_step item begin object place line)) e

body_step : (limit place : ℕ) (item : Item) (begin : ℕ) (object : Object) (line : Line) → IsBodyLine limit begin place line
    → step limit place (object_lines item begin object) line ≡ record { whole = None; next = Ok (object_lines item begin (with_line object line.text)) }
body_step limit place item begin object line h =
    sound_step limit place item begin object line h.sound
    ∙ ap (λ (b : Bool). made_by item begin object place line b (is_end_line object.words line.text) (is_body object.text)) h.no_dash

end_step : (limit place : ℕ) (item : Item) (begin : ℕ) (object : Object) (line : Line) → IsEndLine limit begin place line object.words → is_body object.text ≡ true
    → step limit place (object_lines item begin object) line ≡ record { whole = Some (with_object item object (place + size line)); next = Ok nothing }
end_step limit place item begin object line h base64 =
    sound_step limit place item begin object line h.sound
    ∙ ap (λ (b : Bool). made_by item begin object place line b (is_end_line object.words line.text) (is_body object.text)) (end_dash object.words line.text (strip ends line.text) refl h.ends)
    ∙ ap (λ (b : Bool). made_by item begin object place line true b (is_body object.text)) h.ends
    ∙ ap (λ (b : Bool). made_by item begin object place line true true b) base64

-- ---- many lines

pub blanks_read : (limit place : ℕ) (blanks rest : List Line) → AreBlankLines limit place blanks → contents_of limit place nothing (blanks ++ rest) ≡ contents_of limit (place + sizes blanks) nothing rest
blanks_read limit place [] rest h = ap (λ (k : ℕ). contents_of limit k nothing rest) (omega arith)
blanks_read limit place (line ∷ blanks) rest h =
    reads limit place nothing line (blanks ++ rest) None nothing (blank_step limit place line h.0)
    ∙ blanks_read limit (place + size line) blanks rest h.1
    ∙ ap (λ (k : ℕ). contents_of limit k nothing rest) (omega arith)

-- the object with these lines more
abbrev pub with_lines : Object → List Line → Object
with_lines object body = record { words = object.words; start = object.start; text = object.text ++ text_of body }

one_more_line_in_object : (object : Object) (line : Line) (body : List Line) → with_lines (with_line object line.text) body ≡ with_lines object (line ∷ body)
one_more_line_in_object object line body =
    ap (λ (t : List ℕ). record { words = object.words; start = object.start; text = t })
    (append_assoc (object.text ++ line.text) (10 ∷ []) (text_of body) ∙ append_assoc object.text line.text (10 ∷ text_of body))

pub body_read : (limit place : ℕ) (item : Item) (begin : ℕ) (object : Object) (body rest : List Line) → AreBodyLines limit begin place body
    → contents_of limit place (object_lines item begin object) (body ++ rest) ≡ contents_of limit (place + sizes body) (object_lines item begin (with_lines object body)) rest
body_read limit place item begin object [] rest h =
    ap (λ (k : ℕ). contents_of limit k (object_lines item begin object) rest) (omega arith)
    ∙ ap (λ (t : List ℕ). contents_of limit (place + 0) (object_lines item begin (record { words = object.words; start = object.start; text = t })) rest) (sym (append-nil object.text))
body_read limit place item begin object (line ∷ body) rest h =
    reads limit place (object_lines item begin object) line (body ++ rest) None (object_lines item begin (with_line object line.text)) (body_step limit place item begin object line h.0)
    ∙ body_read limit (place + size line) item begin (with_line object line.text) body rest h.1
    ∙ ap (λ (k : ℕ). contents_of limit k (object_lines item begin (with_lines (with_line object line.text) body)) rest) (omega arith)
    ∙ ap (λ (o : Object). contents_of limit (place + (size line + sizes body)) (object_lines item begin o) rest) (one_more_line_in_object object line body)

-- what is left after an item that ends before this place
abbrev pub whole_at : ℕ → ℕ → Item → Object → List Line → Contents
whole_at limit after item object rest = also (Some (with_object item object after)) (contents_of limit after nothing rest)

object_is : (object : Object) (start : ℕ) (text : List ℕ) → object.start ≡ start → object.text ≡ text → object ≡ record { words = object.words; start = start; text = text }
object_is object start text s t =
    ap (λ (k : ℕ). record { words = object.words; start = k; text = object.text }) s ∙ ap (λ (x : List ℕ). record { words = object.words; start = start; text = x }) t

-- the lines of an object, after its item's keyword line
pub object_read : (limit place : ℕ) (item : Item) (own rest : List Line) (object : Object) → AreLinesOfObject limit place own object
    → contents_of limit place (keyword_line item) (own ++ rest) ≡ whole_at limit (place + sizes own) item object rest
object_read limit place item own rest object h =
    let start = place + size h.first in
    let last = start + sizes h.body in
    let whole : Object = record { words = object.words; start = start; text = text_of h.body } in
    ap (λ (l : List Line). contents_of limit place (keyword_line item) (l ++ rest)) h.lines
    ∙ reads limit place (keyword_line item) h.first ((h.body ++ h.last ∷ []) ++ rest) None (object_lines item place (begun_object place h.first object.words)) (begin_step limit place item h.first object.words h.begins)
    ∙ ap (λ (l : List Line). contents_of limit start (object_lines item place (begun_object place h.first object.words)) l) (append_assoc h.body (h.last ∷ []) rest)
    ∙ body_read limit start item place (begun_object place h.first object.words) h.body (h.last ∷ rest) h.inside
    ∙ reads limit last (object_lines item place whole) h.last rest (Some (with_object item whole (last + size h.last))) nothing (end_step limit last item place whole h.last h.ends h.base64)
    ∙ ap (λ (k : ℕ). whole_at limit k item whole rest) (omega (arith, ap sizes h.lines, sizes_append h.body (h.last ∷ [])))
    ∙ ap (λ (o : Object). whole_at limit (place + sizes own) item o rest) (sym (object_is object start (text_of h.body) h.start h.text))
