-- Each item of a document stands in the input where it says.
use Rattle.std.proofs.Common.{◌≡◌, ℕ, ◌+◌, ◌-◌, ◌≤◌, Bool, true, false, cond, eqb, List, [], ◌∷◌, ◌++◌, length, take}
use Rattle.std.proofs.Common.{drop, Option, Some, None, Result, Ok, Err, refl, sym, ap, ◌∙◌, arith, append_assoc}
use Rattle.std.proofs.lemmas.{Bool.eqb-true, List.{length-drop, length-take, length-append, drop-drop, drop-append-le}}
use Rattle.std.proofs.{lemmas.List.{take-append-drop, Sums.prefix_len-le-length}, Math.Seq.take-append_seam}
use Rattle.std.{proofs.Math.Seq.drop-append_seam, specs.{Prelude.{nat_lt, min, ◌&&◌}, List.{prefix_len, suffix_len}}}
use Rattle.item_terms.specs.declared.fault.{DocFault.DocFault, DocReason.TheVariants.{Keyword, Unterminated}}
use Rattle.item_terms.specs.{declared.fault.DocReason.TheVariants.{ObjectBase64, ObjectEnd, ObjectTooLong}, Lines.Line}
use Rattle.item_terms.specs.{Lines.{lines, onto, size}, Words.{nul_in, is_blank, is_blank_line, is_keyword_line}}
use Rattle.item_terms.specs.Words.{is_word_byte, keyword, keyword_len, arguments, argument_start, begin_words}
use Rattle.item_terms.specs.{Words.is_end_line, Faults.{at, or_else, too_long, unterminated_fault, nul_fault}}
use Rattle.item_terms.specs.{Faults.{line_fault, object_line_fault, max_line, max_object}, Steps.{Item, Open, Step}}
use Rattle.item_terms.specs.Steps.{Object, step, nothing, keyword_line, object_lines, keyword_item, begun_object}
use Rattle.item_terms.specs.Steps.{with_line, open_item, item_unless, open_unless, step_unless, object_step, line_item}
use Rattle.item_terms.specs.{Steps.{read_line, starts_dash, first_object_line, with_object}, Items.Contents}
use Rattle.item_terms.specs.{Items.{contents_of, also, proceed, at_end}, Base64Text.is_body}
use Rattle.dirdoc_grammar.specs.InPlace.{InPlace, EachInPlace, StandInPlace}

-- ---- the lines of a text joined are the text

abbrev end_of : Bool → List ℕ
end_of ended = cond ended (10 ∷ []) []

-- the bytes of a line, with its NL
abbrev whole_line : Line → List ℕ
whole_line line = line.text ++ end_of line.ended

abbrev joined : List Line → List ℕ
joined [] = []
joined (line ∷ rest) = whole_line line ++ joined rest

joined_onto : (b : ℕ) (list : List Line) → joined (onto b list) ≡ b ∷ joined list
joined_onto b [] = refl
joined_onto b (line ∷ rest) = refl

joined_by : (is_nl : Bool) (b : ℕ) (bytes : List ℕ) → is_nl ≡ eqb b 10 → joined (lines bytes) ≡ bytes → joined (cond is_nl (record { text = []; ended = true } ∷ lines bytes) (onto b (lines bytes))) ≡ b ∷ bytes
joined_by true b bytes e h = ap (λ (l : List ℕ). 10 ∷ l) h ∙ ap (λ (x : ℕ). x ∷ bytes) (sym (eqb-true b 10 (sym e)))
joined_by false b bytes e h = joined_onto b (lines bytes) ∙ ap (λ (l : List ℕ). b ∷ l) h

joined_lines : (bytes : List ℕ) → joined (lines bytes) ≡ bytes
joined_lines [] = refl
joined_lines (b ∷ bytes) = joined_by (eqb b 10) b bytes refl (joined_lines bytes)

size_is : (text : List ℕ) (ended : Bool) → length (text ++ end_of ended) ≡ size (record { text = text; ended = ended })
size_is text true = length-append text (10 ∷ [])
size_is text false = length-append text []

-- ---- a line with its NL, and where it stands

-- the line stands at this place of the bytes, has its NL, and the others follow
record Here (place : ℕ) (bytes : List ℕ) (line : Line) (more : List ℕ) : Type 0 where
  text : drop place bytes ≡ whole_line line ++ more
  ended : line.ended ≡ true

after_line : (place : ℕ) (bytes : List ℕ) (line : Line) (more : List ℕ) → drop place bytes ≡ whole_line line ++ more → drop (place + size line) bytes ≡ more
after_line place bytes line more e =
    ap (λ (n : ℕ). drop n bytes) (omega arith)
    ∙ sym (drop-drop (size line) place bytes)
    ∙ ap (drop (size line)) e
    ∙ ap (λ (n : ℕ). drop n (whole_line line ++ more)) (sym (size_is line.text line.ended))
    ∙ drop-append_seam (whole_line line) more

size_ended : (text : List ℕ) (ended : Bool) → ended ≡ true → size (record { text = text; ended = ended }) ≡ length text + 1
size_ended text ended e = ap (λ (b : Bool). size (record { text = text; ended = b })) e

-- the line ends inside the bytes
line_within : (place : ℕ) (bytes : List ℕ) (line : Line) (more : List ℕ) → Here place bytes line more → place + size line ≤ length bytes
line_within place bytes line more h =
    let n : length bytes - place ≡ size line + length more = sym (length-drop place bytes) ∙ ap length h.text ∙ length-append (whole_line line) more ∙ ap (λ (k : ℕ). k + length more) (size_is line.text line.ended) in
    let some : size line ≡ length line.text + 1 = size_ended line.text line.ended h.ended in
    omega (arith, n, some)

line_first : (place : ℕ) (bytes : List ℕ) (line : Line) (more : List ℕ) → Here place bytes line more → drop place bytes ≡ line.text ++ (end_of line.ended ++ more)
line_first place bytes line more h = h.text ∙ append_assoc line.text (end_of line.ended) more

ended_by : (line : Line) (place : ℕ) (long nul : Option DocFault) → or_else long (or_else (unterminated_fault place line) nul) ≡ None → line.ended ≡ true
ended_by line place (Some fault) nul e = absurd cc
ended_by line place None nul e = elim line.ended as (λ b. or_else (cond b None (Some (at (place + length line.text) Unterminated))) nul ≡ None → b ≡ true) [ true ↦ λ h. refl | false ↦ λ h. absurd cc ] e

-- a line without a fault has its NL
line_ended : (limit place : ℕ) (line : Line) → line_fault limit place line ≡ None → line.ended ≡ true
line_ended limit place line e = ended_by line place (too_long limit place (size line)) (nul_fault place (nul_in line.text)) e

unless_long : (long : Bool) (fault : DocFault) (other : Option DocFault) → cond long (Some fault) other ≡ None → other ≡ None
unless_long true fault other e = absurd cc
unless_long false fault other e = e

object_line_ended : (limit begin place : ℕ) (line : Line) → object_line_fault limit begin place line ≡ None → line.ended ≡ true
object_line_ended limit begin place line e =
    let room = max_object - (place - begin) in
    line_ended limit place line (unless_long (nat_lt room (min (limit - place) max_line) && nat_lt room (size line)) (at begin ObjectTooLong) (line_fault limit place line) e)

-- ---- a keyword line

front_part : (n : ℕ) (xs more : List ℕ) → take (length (take n xs)) (xs ++ more) ≡ take n xs
front_part n xs more =
    ap (λ (l : List ℕ). take (length (take n xs)) (l ++ more)) (sym (take-append-drop n xs))
    ∙ ap (take (length (take n xs))) (append_assoc (take n xs) (drop n xs) more)
    ∙ take-append_seam (take n xs) (drop n xs ++ more)

arguments_stand : (place : ℕ) (bytes text more : List ℕ) → drop place bytes ≡ text ++ more → take (length (arguments text)) (drop (argument_start place text) bytes) ≡ arguments text
arguments_stand place bytes text more e =
    let k = keyword_len text in
    let b = prefix_len is_blank (drop k text) in
    let front = drop b (drop k text) in
    let kle : k ≤ length text = prefix_len-le-length is_word_byte text in
    let ble : b ≤ length (drop k text) = prefix_len-le-length is_blank (drop k text) in
    let inside : k + b ≤ length text = omega (arith, kle, ble, length-drop k text) in
    let same : drop (k + b) text ≡ front = ap (λ (n : ℕ). drop n text) (omega arith) ∙ sym (drop-drop b k text) in
    let from : drop (place + (k + b)) bytes ≡ front ++ more =
    ap (λ (n : ℕ). drop n bytes) (omega arith)
    ∙ sym (drop-drop (k + b) place bytes)
    ∙ ap (drop (k + b)) e
    ∙ drop-append-le (k + b) text more inside
    ∙ ap (λ (l : List ℕ). l ++ more) same in
    ap (take (length (arguments text))) from ∙ front_part (length front - suffix_len is_blank front) front more

arguments_end : (place : ℕ) (text : List ℕ) → argument_start place text + length (arguments text) ≤ place + length text
arguments_end place text =
    let k = keyword_len text in
    let b = prefix_len is_blank (drop k text) in
    let front = drop b (drop k text) in
    let kle : k ≤ length text = prefix_len-le-length is_word_byte text in
    let ble : b ≤ length (drop k text) = prefix_len-le-length is_blank (drop k text) in
    omega (arith, kle, ble, length-drop k text, length-drop b (drop k text), length-take (length front - suffix_len is_blank front) front)

keyword_stands : (place : ℕ) (bytes : List ℕ) (line : Line) (more : List ℕ) → Here place bytes line more → InPlace bytes (keyword_item place line)
keyword_stands place bytes line more h =
    let first = line_first place bytes line more h in
    let some : size line ≡ length line.text + 1 = size_ended line.text line.ended h.ended in
    let until = arguments_end place line.text in
    record {
      keyword = ap (take (length (keyword line.text))) first ∙ front_part (keyword_len line.text) line.text (end_of line.ended ++ more);
      arguments = arguments_stand place bytes line.text (end_of line.ended ++ more) first;
      object = tt;
      in_order = record { some_bytes = omega (arith, some); arguments_end = omega (arith, some, until); line_ends = omega arith; object_ends = tt };
      within = line_within place bytes line more h;
    }

-- ---- what a line makes, where the next one stands at a place

-- the item stands in place and ends by here
abbrev EndsBy : List ℕ → ℕ → Item → Type 0
EndsBy bytes place item = InPlace bytes item × (item.after ≤ place)

-- the lines so far of the object end here
record EndsHere (bytes : List ℕ) (place : ℕ) (object : Object) : Type 0 where
  text : drop object.start bytes ≡ object.text ++ drop place bytes
  end : object.start + length object.text ≡ place

abbrev OpenInPlace : List ℕ → ℕ → Open → Type 0
OpenInPlace bytes place nothing = Unit {0}
OpenInPlace bytes place (keyword_line item) = EndsBy bytes place item
OpenInPlace bytes place (object_lines item begin object) = EndsBy bytes place item × EndsHere bytes place object

abbrev NextInPlace : List ℕ → ℕ → Result Open DocFault → Type 0
NextInPlace bytes place (Ok next) = OpenInPlace bytes place next
NextInPlace bytes place (Err fault) = Unit {0}

abbrev WholeInPlace : List ℕ → Option Item → Type 0
WholeInPlace bytes None = Unit {0}
WholeInPlace bytes (Some item) = InPlace bytes item

abbrev ItemInPlace : List ℕ → ℕ → Result (Option Item) DocFault → Type 0
ItemInPlace bytes place (Ok None) = Unit {0}
ItemInPlace bytes place (Ok (Some item)) = EndsBy bytes place item
ItemInPlace bytes place (Err fault) = Unit {0}

abbrev StepInPlace : List ℕ → ℕ → Step → Type 0
StepInPlace bytes place made = WholeInPlace bytes made.whole × NextInPlace bytes place made.next

opened : (bytes : List ℕ) (place : ℕ) (read : Result (Option Item) DocFault) → ItemInPlace bytes place read → NextInPlace bytes place (open_item read)
opened bytes place (Ok None) h = tt
opened bytes place (Ok (Some item)) h = h
opened bytes place (Err fault) h = tt

item_sound : (bytes : List ℕ) (place : ℕ) (fault : Option DocFault) (read : Result (Option Item) DocFault) → (fault ≡ None → ItemInPlace bytes place read) → ItemInPlace bytes place (item_unless fault read)
item_sound bytes place None read h = h refl
item_sound bytes place (Some fault) read h = tt

by_kinds : (bytes : List ℕ) (place : ℕ) (blank is_kw : Bool) (item : Item) (fault : DocFault) → EndsBy bytes place item → ItemInPlace bytes place (cond blank (Ok None) (cond is_kw (Ok (Some item)) (Err fault)))
by_kinds bytes place true is_kw item fault h = tt
by_kinds bytes place false true item fault h = h
by_kinds bytes place false false item fault h = tt

line_stands : (limit place : ℕ) (bytes : List ℕ) (line : Line) (more : List ℕ) → drop place bytes ≡ whole_line line ++ more → ItemInPlace bytes (place + size line) (read_line limit place line)
line_stands limit place bytes line more e =
    item_sound bytes (place + size line) (line_fault limit place line) (line_item place line)
    (λ sound.
    by_kinds bytes (place + size line) (is_blank_line line.text) (is_keyword_line line.text) (keyword_item place line) (at place Keyword)
    (keyword_stands place bytes line more (record { text = e; ended = line_ended limit place line sound }), omega arith))

open_sound : (bytes : List ℕ) (place : ℕ) (fault : Option DocFault) (next : Result Open DocFault) → NextInPlace bytes place next → NextInPlace bytes place (open_unless fault next)
open_sound bytes place None next h = h
open_sound bytes place (Some fault) next h = tt

by_room : (bytes : List ℕ) (place : ℕ) (long : Bool) (fault : DocFault) (open_ : Open) → OpenInPlace bytes place open_ → NextInPlace bytes place (cond long (Err fault) (Ok open_))
by_room bytes place true fault open_ h = tt
by_room bytes place false fault open_ h = h

object_begins : (bytes : List ℕ) (place : ℕ) (item : Item) (line : Line) (words : Option (List ℕ)) → EndsBy bytes place item → NextInPlace bytes (place + size line) (first_object_line place item line words)
object_begins bytes place item line None h = tt
object_begins bytes place item line (Some words) h =
    by_room bytes (place + size line) (nat_lt max_object (size line)) (at place ObjectTooLong) (object_lines item place (begun_object place line words))
    ((h.0, omega (arith, h.1)), record { text = refl; end = omega arith })

by_dash : (bytes : List ℕ) (place : ℕ) (dash : Bool) (item : Item) (object other : Result Open DocFault) → InPlace bytes item → NextInPlace bytes place object → NextInPlace bytes place other
    → StepInPlace bytes place (cond dash (record { whole = None; next = object }) (record { whole = Some item; next = other }))
by_dash bytes place true item object other h a b = (tt, a)
by_dash bytes place false item object other h a b = (h, b)

by_tests : (bytes : List ℕ) (place : ℕ) (dash end body : Bool) (whole : Item) (open_ : Open) (base64 wrong : DocFault) → InPlace bytes whole → OpenInPlace bytes place open_
    → StepInPlace bytes place (cond dash (cond end (cond body (record { whole = Some whole; next = Ok nothing }) (record { whole = None; next = Err base64 })) (record { whole = None; next = Err wrong })) (record { whole = None; next = Ok open_ }))
by_tests bytes place true true true whole open_ base64 wrong w h = (w, tt)
by_tests bytes place true true false whole open_ base64 wrong w h = (tt, tt)
by_tests bytes place true false body whole open_ base64 wrong w h = (tt, tt)
by_tests bytes place false end body whole open_ base64 wrong w h = (tt, h)

step_sound : (bytes : List ℕ) (place : ℕ) (fault : Option DocFault) (made : Step) → (fault ≡ None → StepInPlace bytes place made) → StepInPlace bytes place (step_unless fault made)
step_sound bytes place None made h = h refl
step_sound bytes place (Some fault) made h = (tt, tt)

-- the item whose object ends at a line
object_stands : (place : ℕ) (bytes : List ℕ) (item : Item) (object : Object) (line : Line) (more : List ℕ) → Here place bytes line more → EndsBy bytes place item → EndsHere bytes place object
    → InPlace bytes (with_object item object (place + size line))
object_stands place bytes item object line more h i o =
    let order = i.0.in_order in
    record {
      keyword = i.0.keyword;
      arguments = i.0.arguments;
      object = ap (take (length object.text)) o.text ∙ take-append_seam object.text (drop place bytes);
      in_order = record { some_bytes = omega (arith, order.some_bytes, i.1); arguments_end = omega (arith, order.arguments_end, i.1); line_ends = omega (arith, order.line_ends, i.1); object_ends = omega (arith, o.end) };
      within = line_within place bytes line more h;
    }

-- an object with one more line
one_line_more : (place : ℕ) (bytes : List ℕ) (object : Object) (line : Line) (more : List ℕ) → Here place bytes line more → EndsHere bytes place object → EndsHere bytes (place + size line) (with_line object line.text)
one_line_more place bytes object line more h o =
    let front = object.text ++ line.text in
    let some : size line ≡ length line.text + 1 = size_ended line.text line.ended h.ended in
    let nl : end_of line.ended ≡ 10 ∷ [] = ap end_of h.ended in
    record {
      text = o.text
          ∙ ap (λ (r : List ℕ). object.text ++ r) (line_first place bytes line more h ∙ ap (λ (l : List ℕ). line.text ++ (l ++ more)) nl)
          ∙ sym (append_assoc object.text line.text (10 ∷ more))
          ∙ sym (append_assoc front (10 ∷ []) more)
          ∙ ap (λ (r : List ℕ). (front ++ 10 ∷ []) ++ r) (sym (after_line place bytes line more h.text));
      end = omega (arith, o.end, some, length-append front (10 ∷ []), length-append object.text line.text);
    }

step_stands : (limit place : ℕ) (bytes : List ℕ) (so_far : Open) (line : Line) (more : List ℕ) → drop place bytes ≡ whole_line line ++ more → OpenInPlace bytes place so_far → StepInPlace bytes (place + size line) (step limit place so_far line)
step_stands limit place bytes nothing line more e h = (tt, opened bytes (place + size line) (read_line limit place line) (line_stands limit place bytes line more e))
step_stands limit place bytes (keyword_line item) line more e h =
    let next = place + size line in
    by_dash bytes next (starts_dash line) item (open_unless (line_fault limit place line) (first_object_line place item line (begin_words line.text))) (open_item (read_line limit place line)) h.0
    (open_sound bytes next (line_fault limit place line) (first_object_line place item line (begin_words line.text)) (object_begins bytes place item line (begin_words line.text) h))
    (opened bytes next (read_line limit place line) (line_stands limit place bytes line more e))
step_stands limit place bytes (object_lines item begin object) line more e h =
    let next = place + size line in
    step_sound bytes next (object_line_fault limit begin place line) (object_step item begin object place line)
    (λ sound.
    let here : Here place bytes line more = record { text = e; ended = object_line_ended limit begin place line sound } in
    by_tests bytes next (starts_dash line) (is_end_line object.words line.text) (is_body object.text) (with_object item object next) (object_lines item begin (with_line object line.text)) (at begin ObjectBase64) (at place ObjectEnd)
    (object_stands place bytes item object line more here h.0 h.1)
    ((h.0.0, omega (arith, h.0.1)), one_line_more place bytes object line more here h.1))

-- ---- a whole text

at_last : (bytes : List ℕ) (place : ℕ) (so_far : Open) → OpenInPlace bytes place so_far → EachInPlace bytes (at_end place so_far).items
at_last bytes place nothing h = tt
at_last bytes place (keyword_line item) h = (h.0, tt)
at_last bytes place (object_lines item begin object) h = tt

goes_on : (bytes : List ℕ) (place : ℕ) (next : Result Open DocFault) (rest : Open → Contents) → NextInPlace bytes place next → ((open_ : Open) → OpenInPlace bytes place open_ → EachInPlace bytes (rest open_).items) → EachInPlace bytes (proceed next rest).items
goes_on bytes place (Ok open_) rest h more = more open_ h
goes_on bytes place (Err fault) rest h more = tt

in_front : (bytes : List ℕ) (whole : Option Item) (rest : Contents) → WholeInPlace bytes whole → EachInPlace bytes rest.items → EachInPlace bytes (also whole rest).items
in_front bytes None rest w h = h
in_front bytes (Some item) rest w h = (w, h)

stand : (limit place : ℕ) (bytes : List ℕ) (so_far : Open) (list : List Line) → drop place bytes ≡ joined list → OpenInPlace bytes place so_far → EachInPlace bytes (contents_of limit place so_far list).items
unfolding contents_of
stand limit place bytes so_far [] e h = at_last bytes place so_far h
stand limit place bytes so_far (line ∷ rest) e h =
    let made = step limit place so_far line in
    let more : Open → Contents = λ open_. contents_of limit (place + size line) open_ rest in
    let good = step_stands limit place bytes so_far line (joined rest) e h in
    in_front bytes made.whole (proceed made.next more) good.0
    (goes_on bytes (place + size line) made.next more good.1 (λ open_ o. stand limit (place + size line) bytes open_ rest (after_line place bytes line (joined rest) e) o))

pub stand_in_place : StandInPlace
stand_in_place start limit bytes = stand (start + limit) start bytes nothing (lines (drop start bytes)) (sym (joined_lines (drop start bytes))) tt
