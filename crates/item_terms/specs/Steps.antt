-- An item and its object, and what one more line makes (dir-spec, meta-format).
use Rattle.std.specs.Prelude.{ℕ, ◌+◌, nat_lt, Bool, List, [], ◌∷◌, ◌++◌, Option, Some, None, Result, Ok, Err}
use Rattle.std.specs.Prelude.{if◌then◌else◌}
use Rattle.item_terms.specs.declared.fault.DocReason.TheVariants.{Keyword, ObjectWords, ObjectBase64, ObjectEnd}
use Rattle.item_terms.specs.{declared.fault.{DocReason.TheVariants.ObjectTooLong, DocFault.DocFault}, Lines.Line}
use Rattle.item_terms.specs.{Lines.size, Words.{is_blank_line, begins_dash, keyword, separator, arguments}}
use Rattle.item_terms.specs.{Words.{argument_start, is_keyword_line, begin_words, is_end_line}, Base64Text.is_body}
use Rattle.item_terms.specs.{Faults.{max_object, at, line_fault, object_line_fault}, Bytes.line_feed}

-- An object: the words of its first line, the place after that line, and what stands from there up to its last line.
pub record Object : Type 0 where
  pub words : List ℕ
  pub start : ℕ
  pub text : List ℕ

-- An item: its keyword, the byte right after it where its line goes on, the rest of its line without outer blanks and where
-- that stands, the place after its line, its object, the place of its first byte, and the place after its last line.
pub record Item : Type 0 where
  pub keyword : List ℕ
  pub separator : Option ℕ
  pub arguments : List ℕ
  pub start : ℕ
  pub line_end : ℕ
  pub object : Option Object
  pub place : ℕ
  pub after : ℕ

-- ---- a line between items

-- the item of the keyword line at this place, without an object
abbrev pub keyword_item : ℕ → Line → Item
keyword_item place line = record {
  keyword = keyword line.text;
  separator = separator line.text;
  arguments = arguments line.text;
  start = argument_start place line.text;
  line_end = place + size line;
  object = None;
  place = place;
  after = place + size line;
}

-- a line between items is blank, or it is a keyword line and an item begins
abbrev pub line_item : ℕ → Line → Result (Option Item) DocFault
line_item place line =
    if is_blank_line line.text then Ok None
    else if is_keyword_line line.text then Ok (Some (keyword_item place line))
    else Err (at place Keyword)

-- what a line between items holds, unless it has a fault
abbrev pub item_unless : Option DocFault → Result (Option Item) DocFault → Result (Option Item) DocFault
item_unless None other = other
item_unless (Some fault) other = Err fault

-- the line at this place between items: the limit, then the place
abbrev pub read_line : ℕ → ℕ → Line → Result (Option Item) DocFault
read_line limit place line = item_unless (line_fault limit place line) (line_item place line)

-- ---- objects

-- What a line may continue: nothing; the item of the keyword line just before; or an item with an object whose BEGIN line
-- stands at a place, with its lines so far.
pub data Open : Type 0 where
  nothing : Open
  keyword_line : Item → Open
  object_lines : Item → ℕ → Object → Open

-- the line begins with '-'
abbrev pub starts_dash : Line → Bool
starts_dash line = begins_dash line.text

-- the object of the BEGIN line at this place, with no line yet
abbrev pub begun_object : ℕ → Line → List ℕ → Object
begun_object place line words = record { words = words; start = place + size line; text = [] }

-- what the line after an item's keyword line begins, with the words that it has as a BEGIN line
abbrev pub first_object_line : ℕ → Item → Line → Option (List ℕ) → Result Open DocFault
first_object_line place item line None = Err (at place ObjectWords)
first_object_line place item line (Some words) =
    if nat_lt max_object (size line) then Err (at place ObjectTooLong)
    else Ok (object_lines item place (begun_object place line words))

-- the object with one more line
abbrev pub with_line : Object → List ℕ → Object
with_line object text = record { words = object.words; start = object.start; text = object.text ++ text ++ line_feed ∷ [] }

-- the item with its object, and the place after it
abbrev pub with_object : Item → Object → ℕ → Item
with_object item object after = record {
  keyword = item.keyword;
  separator = item.separator;
  arguments = item.arguments;
  start = item.start;
  line_end = item.line_end;
  object = Some object;
  place = item.place;
  after = after;
}

-- ---- the lines one after the other

-- what a line makes: the item that is whole now, and what the next line may continue, or the fault
pub record Step : Type 0 where
  pub whole : Option Item
  pub next : Result Open DocFault

-- an item is open after its keyword line
abbrev pub open_item : Result (Option Item) DocFault → Result Open DocFault
open_item (Err fault) = Err fault
open_item (Ok None) = Ok nothing
open_item (Ok (Some item)) = Ok (keyword_line item)

-- what a first line of an object opens, unless it has a fault
abbrev pub open_unless : Option DocFault → Result Open DocFault → Result Open DocFault
open_unless None other = other
open_unless (Some fault) other = Err fault

-- what a line makes, unless it has a fault
abbrev pub step_unless : Option DocFault → Step → Step
step_unless None other = other
step_unless (Some fault) other = record { whole = None; next = Err fault }

-- a line of the object whose BEGIN line stands at begin, without a fault of its own
abbrev pub object_step : Item → ℕ → Object → ℕ → Line → Step
object_step item begin object place line =
    if starts_dash line then
    (if is_end_line object.words line.text then
    (if is_body object.text then record { whole = Some (with_object item object (place + size line)); next = Ok nothing }
    else record { whole = None; next = Err (at begin ObjectBase64) })
    else record { whole = None; next = Err (at place ObjectEnd) })
    else record { whole = None; next = Ok (object_lines item begin (with_line object line.text)) }

-- the line at this place: the limit, then the place
abbrev pub step : ℕ → ℕ → Open → Line → Step
step limit place nothing line = record { whole = None; next = open_item (read_line limit place line) }
step limit place (keyword_line item) line =
    if starts_dash line then record { whole = None; next = open_unless (line_fault limit place line) (first_object_line place item line (begin_words line.text)) }
    else record { whole = Some item; next = open_item (read_line limit place line) }
step limit place (object_lines item begin object) line = step_unless (object_line_fault limit begin place line) (object_step item begin object place line)
