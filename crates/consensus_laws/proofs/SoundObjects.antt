-- The object of each item is base64, and so spells bytes.
use Rattle.std.proofs.Common.{◌≡◌, ℕ, ◌+◌, Bool, true, false, List, [], ◌∷◌, length, take, drop, Option, Some, None}
use Rattle.std.{proofs.{Common.{Result, Ok, Err, refl, sym, subst}, lemmas.Bool.and_parts}, specs.Prelude.IfSome}
use Rattle.std.specs.{Prelude.{is_ok, nat_lt, unwrap_or, if◌then◌else◌}, Result.result_ok}
use Rattle.base64.specs.{Engines.standard, GeneralPurpose.decode_of}
use Rattle.item_terms.specs.{Base64Text.{is_base64, is_body, joined_text, lines_fit}, declared.fault.DocFault.DocFault}
use Rattle.item_terms.specs.{declared.fault.DocReason.TheVariants.{Keyword, ObjectBase64, ObjectEnd}, Faults.at}
use Rattle.item_terms.specs.{Faults.{line_fault, max_object, object_line_fault}, Items.{Contents, Item, Object, Open}}
use Rattle.item_terms.specs.Items.{Step, also, contents_of, items_from, keyword_line, nothing, object_lines, proceed}
use Rattle.item_terms.specs.{Items.step, Lines.{Line, lines, size}, Steps.{first_object_line, item_unless}}
use Rattle.item_terms.specs.Steps.{keyword_item, object_step, open_item, open_unless, read_line, starts_dash}
use Rattle.item_terms.specs.{Steps.{step_unless, with_line, with_object}, Words.{begin_words, is_blank_line}}
use Rattle.item_terms.specs.Words.{is_end_line, is_keyword_line}
use Rattle.dirdoc_grammar.{specs.{Bodies.decoded_bytes, InPlace.EachInPlace}, proofs.Places.stand_in_place}
use Rattle.frame_laws.proofs.StandingParts.{at_span}
use Rattle.frame_values.specs.{Fields.span, Parts.{bytes_in, part}, Signatures.object_if, declared.found.Span.Span}
use Rattle.consensus_laws.specs.Spelling.{EachSpellsBytes, ObjectsSpellBytes}

-- ---- each object is base64

abbrev IsSound : Option Object → Type 0
IsSound object = IfSome object (λ o. is_body o.text ≡ true)

abbrev EachSound : List Item → Type 0
EachSound [] = Unit {0}
EachSound (item ∷ items) = IsSound item.object × EachSound items

-- what a line may continue has no object that is not
abbrev IsOpenSound : Open → Type 0
IsOpenSound nothing = Unit {0}
IsOpenSound (keyword_line item) = IsSound item.object
IsOpenSound (object_lines item begin object) = Unit {0}

abbrev IsNextSound : Result Open DocFault → Type 0
IsNextSound (Ok open_) = IsOpenSound open_
IsNextSound (Err fault) = Unit {0}

record IsStepSound (made : Step) : Type 0 where
  whole : IfSome made.whole (λ item. IsSound item.object)
  next : IsNextSound made.next

line_sound : (place : ℕ) (line : Line) (fault : Option DocFault) (blank key : Bool)
    → IsNextSound (open_item (item_unless fault (if blank then Ok None
    else if key then Ok (Some (keyword_item place line)) else Err (at place Keyword))))
line_sound place line (Some fault) blank key = tt
line_sound place line None true key = tt
line_sound place line None false true = tt
line_sound place line None false false = tt

read_sound : (limit place : ℕ) (line : Line) → IsNextSound (open_item (read_line limit place line))
read_sound limit place line =
    line_sound place line (line_fault limit place line) (is_blank_line line.text) (is_keyword_line line.text)

begun_sound : (place : ℕ) (item : Item) (line : Line) (words : Option (List ℕ)) (long : Bool) (fault : Option DocFault)
    → nat_lt max_object (size line) ≡ long → IsNextSound (open_unless fault (first_object_line place item line words))
begun_sound place item line words long (Some fault) is = tt
begun_sound place item line None long None is = tt
begun_sound place item line (Some words) true None is = rw is tt
begun_sound place item line (Some words) false None is = rw is tt

keyword_sound : (limit place : ℕ) (item : Item) (line : Line) (dash : Bool) → starts_dash line ≡ dash → IsSound item.object
    → IsStepSound (step limit place (keyword_line item) line)
keyword_sound limit place item line true is sound =
    rw is
    (record {
      whole = tt;
      next = begun_sound place item line (begin_words line.text) _ (line_fault limit place line) refl;
    })
keyword_sound limit place item line false is sound =
    rw is (record { whole = sound; next = read_sound limit place line })

tests_sound : (item : Item) (begin : ℕ) (object : Object) (place : ℕ) (line : Line) (dash end body : Bool)
    → is_body object.text ≡ body
    → IsStepSound (if dash then
    (if end then
    (if body then record { whole = Some (with_object item object (place + size line)); next = Ok nothing }
    else record { whole = None; next = Err (at begin ObjectBase64) })
    else record { whole = None; next = Err (at place ObjectEnd) })
    else record { whole = None; next = Ok (object_lines item begin (with_line object line.text)) })
tests_sound item begin object place line true true true is = record { whole = is; next = tt }
tests_sound item begin object place line true true false is = record { whole = tt; next = tt }
tests_sound item begin object place line true false body is = record { whole = tt; next = tt }
tests_sound item begin object place line false end body is = record { whole = tt; next = tt }

object_sound : (item : Item) (begin : ℕ) (object : Object) (place : ℕ) (line : Line) (fault : Option DocFault)
    → IsStepSound (step_unless fault (object_step item begin object place line))
object_sound item begin object place line (Some fault) = record { whole = tt; next = tt }
object_sound item begin object place line None =
    tests_sound item begin object place line (starts_dash line) (is_end_line object.words line.text)
    (is_body object.text) refl

step_sound : (limit place : ℕ) (so_far : Open) (line : Line) → IsOpenSound so_far
    → IsStepSound (step limit place so_far line)
step_sound limit place nothing line sound = record { whole = tt; next = read_sound limit place line }
step_sound limit place (keyword_line item) line sound = keyword_sound limit place item line (starts_dash line) refl sound
step_sound limit place (object_lines item begin object) line sound =
    object_sound item begin object place line (object_line_fault limit begin place line)

made_sound : (made : Step) (rest : Open → Contents) → IsStepSound made
    → ((open_ : Open) → IsOpenSound open_ → EachSound (rest open_).items)
    → EachSound (also made.whole (proceed made.next rest)).items
made_sound made rest is more = by made.whole made.next is.whole is.next
  where
    by : (whole : Option Item) (next : Result Open DocFault) → IfSome whole (λ item. IsSound item.object)
        → IsNextSound next → EachSound (also whole (proceed next rest)).items
    by None (Ok open_) w n = more open_ n
    by None (Err fault) w n = tt
    by (Some item) (Ok open_) w n = (w, more open_ n)
    by (Some item) (Err fault) w n = (w, tt)

contents_sound : (limit place : ℕ) (so_far : Open) (list : List Line) → IsOpenSound so_far
    → EachSound (contents_of limit place so_far list).items
unfolding contents_of
contents_sound limit place nothing [] sound = tt
contents_sound limit place (keyword_line item) [] sound = (sound, tt)
contents_sound limit place (object_lines item begin object) [] sound = tt
contents_sound limit place so_far (line ∷ rest) sound =
    made_sound (step limit place so_far line) (λ open_. contents_of limit (place + size line) open_ rest)
    (step_sound limit place so_far line sound)
    (λ open_ is. contents_sound limit (place + size line) open_ rest is)

-- ---- and so spells bytes

base64_spells : (text : List ℕ) → is_base64 (joined_text text) ≡ true → decoded_bytes text ≡ Some (unwrap_or (decoded_bytes text) [])
unfolding is_base64 decoded_bytes
base64_spells text is = by (decode_of standard (joined_text text)) is
  where
    by : {E : Type 0} (read : Result (List ℕ) E) → is_ok read ≡ true
        → result_ok read ≡ Some (unwrap_or (result_ok read) [])
    by (Ok bytes) ok = refl
    by (Err fault) ok = absurd (cc ok)

spells_by : (bytes : List ℕ) (place : ℕ) (wanted : Bool) (object : Option Object) (found : Span)
    → IfSome object (λ o. take (length o.text) (drop o.start bytes) ≡ o.text) → IsSound object
    → object_if wanted place object ≡ Ok found → decoded_bytes (part bytes found) ≡ Some (bytes_in bytes found)
spells_by bytes place wanted None found there sound is = absurd (cc is)
spells_by bytes place false (Some object) found there sound is = absurd (cc is)
spells_by bytes place true (Some object) found there sound is =
    let same : span object.start object.text ≡ found = cc is in
    let text : part bytes (span object.start object.text) ≡ object.text = at_span bytes object.text object.start there in
    let fits = and_parts (lines_fit 0 object.text) (is_base64 (joined_text object.text)) sound in
    subst (λ (s : Span). decoded_bytes (part bytes s) ≡ Some (bytes_in bytes s)) same
    (subst (λ (t : List ℕ). decoded_bytes t ≡ Some (unwrap_or (decoded_bytes t) [])) (sym text) (base64_spells object.text fits.1))

each_spells : (bytes : List ℕ) (items : List Item) → EachInPlace bytes items → EachSound items
    → EachSpellsBytes bytes items
each_spells bytes [] there sound = tt
each_spells bytes (item ∷ items) there sound = (
  λ wanted found is. spells_by bytes item.place wanted item.object found there.0.object sound.0 is,
  each_spells bytes items there.1 sound.1,
)

pub objects_spelled : ObjectsSpellBytes
objects_spelled start limit bytes =
    let found = items_from start limit bytes in
    each_spells bytes found.items (stand_in_place start limit bytes)
    (contents_sound (start + limit) start nothing (lines (drop start bytes)) tt)
