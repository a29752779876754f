-- The first line of a text, and what the functions of this crate find at a place of a document.
use Rattle.std.specs.Prelude.{◌≡◌, ℕ, ◌==◌, nat_lt, Bool, true, false, not, List, [], ◌∷◌, ◌++◌, length, take, drop}
use Rattle.std.specs.{Prelude.{◌<◌, ◌≤◌, ◌⊎◌, Option, Some, None, Result, Ok, Err, IfSome}, List.prefix_len, Borrow.Bor}
use Rattle.item_terms.specs.{declared.fault.{DocFault.DocFault, DocReason.TheVariants.Unterminated}, Lines.Line}
use Rattle.item_terms.specs.{Words.{words_of, begins_dash}, Faults.{at, line_fault, object_line_fault}}
use Rattle.item_terms.specs.Items as model
use Rattle.dirdoc_grammar.specs.declared.{item.Item.Item, front.Found.{Found, TheVariants.{Whole, Fault, Open}}}
use Rattle.dirdoc_grammar.specs.declared.front.{Stop.Stop, Phase.{Phase, TheVariants.{Between, Keyword, Object}}}
use Rattle.dirdoc_grammar.specs.{declared.object.Body.Body, Seen.seen_item}

-- how many bytes stand before the first NL
abbrev pub first_line_len : List ℕ → ℕ
first_line_len bytes = prefix_len (λ b. not (b == 10)) bytes

-- the first line
abbrev pub first_line : List ℕ → Line
first_line bytes = record { text = take (first_line_len bytes) bytes; ended = nat_lt (first_line_len bytes) (length bytes) }

-- the first word of a text, and what follows it
abbrev pub FindsWord : List ℕ → Option (Bor (List ℕ) × Bor (List ℕ)) → Type 0
FindsWord text None = words_of text ≡ []
FindsWord text (Some (word, rest)) = words_of text ≡ word.now ∷ words_of rest.now

-- what a document holds from one of its places on
abbrev pub from_place : ℕ → ℕ → model.Open → List ℕ → model.Contents
from_place limit place so_far bytes = model.contents limit place so_far (drop place bytes)

-- a fault of the first line, by what the line may continue
abbrev pub fault_of : model.Open → ℕ → ℕ → Line → Option DocFault
fault_of model.nothing limit place line = line_fault limit place line
fault_of (model.keyword_line item) limit place line = line_fault limit place line
fault_of (model.object_lines item begin object) limit place line = object_line_fault limit begin place line

-- a line after a keyword line belongs to an object
abbrev pub InObject : model.Open → Line → Type 0
InObject model.nothing line = Unit {0}
InObject (model.keyword_line item) line = begins_dash line.text ≡ true
InObject (model.object_lines item begin object) line = Unit {0}

-- The bytes end within the line at this place, and pass no limit there.
pub record IsCut (limit place : ℕ) (so_far : model.Open) (bytes : List ℕ) : Type 0 where
  pub inside : place < length bytes
  pub fault : fault_of so_far limit place (first_line (drop place bytes)) ≡ Some (at (length bytes) Unterminated)
  pub object : InObject so_far (first_line (drop place bytes))

-- What a fault says that was found in the line at a place: it is the document's, whatever follows; or the bytes end there.
pub record Fails (limit place : ℕ) (so_far : model.Open) (bytes : List ℕ) (fault : DocFault) : Type 0 where
  pub settled : (fault.reason ≡ Unterminated → ⊥) → (more : List ℕ) → from_place limit place so_far (bytes ++ more) ≡ model.failed_contents fault
  pub cut : fault.reason ≡ Unterminated → IsCut limit place so_far bytes

-- What the line at a place says of what the document holds from there on, whatever follows the bytes: the item, if one
-- begins, and the place after the line; or the fault.
abbrev pub Reads : ℕ → ℕ → List ℕ → Result (Option Item × ℕ) DocFault → Type 0
Reads limit place bytes (Ok (None, after)) =
    ((more : List ℕ) → from_place limit place model.nothing (bytes ++ more) ≡ from_place limit after model.nothing (bytes ++ more)) × (place < after) × (after ≤ length bytes)
Reads limit place bytes (Ok (Some item, after)) =
    ((more : List ℕ) → from_place limit place model.nothing (bytes ++ more) ≡ from_place limit after (model.keyword_line (seen_item item)) (bytes ++ more)) × (place < after) × (after ≤ length bytes) × (item.after ≡ after)
Reads limit place bytes (Err fault) = Fails limit place model.nothing bytes fault

-- The same of the line after a keyword line, where it begins with '-': the words of the object, and the place after the line.
abbrev pub BeginsObject : ℕ → ℕ → List ℕ → Result (Bor (List ℕ) × ℕ) DocFault → Type 0
BeginsObject limit begin bytes (Ok (words, first)) =
    ((item : model.Item) (more : List ℕ) → from_place limit begin (model.keyword_line item) (bytes ++ more) ≡ from_place limit first (model.object_lines item begin (record { words = words.now; start = first; text = [] })) (bytes ++ more))
    × (begin < first)
    × (first ≤ length bytes)
BeginsObject limit begin bytes (Err fault) = (item : model.Item) → Fails limit begin (model.keyword_line item) bytes fault

-- the text of the line at this place inside an object, or its fault
abbrev pub FindsObjectLine : ℕ → ℕ → ℕ → List ℕ → Result (Bor (List ℕ)) DocFault → Type 0
FindsObjectLine limit begin place bytes (Ok text) =
    (first_line (drop place bytes) ≡ record { text = text.now; ended = true }) × (object_line_fault limit begin place (first_line (drop place bytes)) ≡ None)
FindsObjectLine limit begin place bytes (Err fault) = object_line_fault limit begin place (first_line (drop place bytes)) ≡ Some fault

-- the object of these words and lines
abbrev pub object_of : Body → model.Object
object_of body = record { words = body.words.now; start = body.start; text = body.lines.now }

-- what the line makes that ends an object or should
abbrev pub last_step : Result Item DocFault → model.Step
last_step (Ok item) = record { whole = Some (seen_item item); next = Ok model.nothing }
last_step (Err fault) = record { whole = None; next = Err fault }

-- ---- how far the reading of an item has come

-- what the next line may continue
abbrev pub IsOf : Phase → model.Open → Type 0
IsOf Between model.nothing = Unit {0}
IsOf Between (model.keyword_line item) = ⊥
IsOf Between (model.object_lines item begin object) = ⊥
IsOf Keyword model.nothing = ⊥
IsOf Keyword (model.keyword_line item) = Unit {0}
IsOf Keyword (model.object_lines item begin object) = ⊥
IsOf (Object at_) model.nothing = ⊥
IsOf (Object at_) (model.keyword_line item) = ⊥
IsOf (Object at_) (model.object_lines item begin object) = begin ≡ at_

-- the item of a keyword line ends at this place or behind it
abbrev pub EndsFrom : ℕ → model.Open → Type 0
EndsFrom line model.nothing = Unit {0}
EndsFrom line (model.keyword_line item) = line ≤ item.after
EndsFrom line (model.object_lines item begin object) = Unit {0}

-- What is read so far of an item is this, whatever follows the bytes: the next line to read, and what it may continue.
pub record Stands (limit place : ℕ) (so_far : model.Open) (bytes : List ℕ) (line : ℕ) (phase : Phase) : Type 0 where
  pub open_ : model.Open
  pub kind : IsOf phase open_
  pub behind : EndsFrom line open_
  pub same : (more : List ℕ) → from_place limit place so_far (bytes ++ more) ≡ from_place limit line open_ (bytes ++ more)
  pub order : place ≤ line
  pub within : line ≤ length bytes

-- nothing is open, or an object
abbrev pub IsNoKeyword : model.Open → Type 0
IsNoKeyword model.nothing = Unit {0}
IsNoKeyword (model.keyword_line item) = ⊥
IsNoKeyword (model.object_lines item begin object) = Unit {0}

-- The bytes end before the line at this place, or within it; the item is that of a keyword line with which they end.
abbrev pub Ends : ℕ → List ℕ → ℕ → model.Open → Option Item → Type 0
Ends limit bytes line open_ None = ((line ≡ length bytes) × IsNoKeyword open_) ⊎ IsCut limit line open_ bytes
Ends limit bytes line open_ (Some item) = (line ≡ length bytes) × (open_ ≡ model.keyword_line (seen_item item)) × (item.after ≡ line)

-- the reading stops there
pub record Waits (limit place : ℕ) (so_far : model.Open) (bytes : List ℕ) (stop : Stop) (last : Option Item) : Type 0 where
  pub stands : Stands limit place so_far bytes stop.line stop.phase
  pub ends : Ends limit bytes stop.line stands.open_ last

-- the item, with an object of these words whose lines begin at this place
abbrev pub lines_from : model.Item → List ℕ → ℕ → model.Open
lines_from item words first = model.object_lines item item.after (record { words = words; start = first; text = [] })

-- a fact about the item, if one is there
abbrev pub IfWhole : Found → (Item → Type 0) → Type 0
IfWhole (Whole item) fact = fact item
IfWhole (Fault fault) fact = Unit {0}
IfWhole (Open stop last) fact = IfSome last fact

-- a fault of the line at a place stands, or the reading stops there
abbrev pub IsFault : Found → DocFault → ℕ → Phase → Type 0
IsFault (Whole item) fault line phase = ⊥
IsFault (Fault other) fault line phase = (other ≡ fault) × (fault.reason ≡ Unterminated → ⊥)
IsFault (Open stop last) fault line phase = (last ≡ None) × (fault.reason ≡ Unterminated) × (stop.line ≡ line) × (stop.phase ≡ phase)

-- What is found from a place on: the item is whole, or there is a fault, whatever follows the bytes; or the bytes end
-- before either is known.
abbrev pub FindsObject : ℕ → List ℕ → Item → Found → Type 0
FindsObject limit bytes item (Whole whole) =
    ((more : List ℕ) → from_place limit item.after (model.keyword_line (seen_item item)) (bytes ++ more) ≡ model.also (Some (seen_item whole)) (from_place limit whole.after model.nothing (bytes ++ more)))
    × (item.after ≤ whole.after)
    × (whole.after ≤ length bytes)
FindsObject limit bytes item (Fault fault) = (more : List ℕ) → from_place limit item.after (model.keyword_line (seen_item item)) (bytes ++ more) ≡ model.failed_contents fault
FindsObject limit bytes item (Open stop last) = Waits limit item.after (model.keyword_line (seen_item item)) bytes stop last

-- the same from the object's lines on
abbrev pub FindsLines : ℕ → List ℕ → Item → List ℕ → ℕ → Found → Type 0
FindsLines limit bytes item words first (Whole whole) =
    ((more : List ℕ) → from_place limit first (lines_from (seen_item item) words first) (bytes ++ more) ≡ model.also (Some (seen_item whole)) (from_place limit whole.after model.nothing (bytes ++ more)))
    × (item.after ≤ whole.after)
    × (whole.after ≤ length bytes)
FindsLines limit bytes item words first (Fault fault) = (more : List ℕ) → from_place limit first (lines_from (seen_item item) words first) (bytes ++ more) ≡ model.failed_contents fault
FindsLines limit bytes item words first (Open stop last) = Waits limit first (lines_from (seen_item item) words first) bytes stop last

-- the same from a place between items on
abbrev pub Finds : ℕ → ℕ → List ℕ → Found → Type 0
Finds limit place bytes (Whole whole) =
    ((more : List ℕ) → from_place limit place model.nothing (bytes ++ more) ≡ model.also (Some (seen_item whole)) (from_place limit whole.after model.nothing (bytes ++ more)))
    × (place < whole.after)
    × (whole.after ≤ length bytes)
Finds limit place bytes (Fault fault) = (more : List ℕ) → from_place limit place model.nothing (bytes ++ more) ≡ model.failed_contents fault
Finds limit place bytes (Open stop last) =
    ((more : List ℕ) → from_place limit place model.nothing (bytes ++ more) ≡ from_place limit stop.item model.nothing (bytes ++ more))
    × (place ≤ stop.item)
    × (stop.item ≤ stop.line)
    × Waits limit place model.nothing bytes stop last
    × IfSome last (λ item. place < item.after)

-- what is left where no more bytes follow: an item, nothing, or the fault that the bytes end too early
abbrev pub LastOf : ℕ → ℕ → List ℕ → Result (Option Item) DocFault → Type 0
LastOf limit place bytes (Ok (Some item)) = (from_place limit place model.nothing bytes ≡ model.also (Some (seen_item item)) (from_place limit item.after model.nothing bytes)) × (place < item.after) × (item.after ≤ length bytes)
LastOf limit place bytes (Ok None) = from_place limit place model.nothing bytes ≡ record { items = []; fault = None }
LastOf limit place bytes (Err fault) = from_place limit place model.nothing bytes ≡ model.failed_contents fault

-- what is left where no keyword line ends the bytes
abbrev pub last_by : Bool → Phase → ℕ → Result (Option Item) DocFault
last_by true Between length = Ok None
last_by true Keyword length = Err (at length Unterminated)
last_by true (Object begin) length = Err (at length Unterminated)
last_by false phase length = Err (at length Unterminated)

-- the same, by where the reading stops
abbrev pub last_of : ℕ → Stop → Option Item → Result (Option Item) DocFault
last_of length stop (Some item) = Ok (Some item)
last_of length stop None = last_by (stop.line == length) stop.phase length

-- what is found where no more bytes follow
abbrev pub all_of : ℕ → Found → Result (Option Item) DocFault
all_of length (Whole item) = Ok (Some item)
all_of length (Fault fault) = Err fault
all_of length (Open stop last) = last_of length stop last
