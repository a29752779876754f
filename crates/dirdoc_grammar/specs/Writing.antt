-- Items that are written: their text, and the items that are read of it.
use Rattle.std.specs.Prelude.{◌≡◌, ℕ, ◌+◌, ◌≤◌, ◌==◌, Bool, true, false, not, List, [], ◌∷◌, ◌++◌, length, Option, Some}
use Rattle.std.specs.{Prelude.{None, IfSome, slice_get}, List.list_all}
use Rattle.base64.specs.GeneralPurpose.{IsBytes}
use Rattle.item_terms.specs.Words.{is_letter_or_digit, is_word_byte, first_is, argument_start, trim, are_words}
use Rattle.item_terms.specs.{Faults.{max_line, max_object}, Items.{Item, Object, Contents}}
use Rattle.dirdoc_grammar.specs.Bodies.{begin_line, body_text, object_text}

-- an object that is written: its words and its bytes
pub record NewObject : Type 0 where
  pub words : List ℕ
  pub bytes : List ℕ

-- an item that is written: its keyword, the rest of its line, whether a space stands before the rest also where it is
-- empty, and its object if it has one
pub record NewItem : Type 0 where
  pub keyword : List ℕ
  pub arguments : List ℕ
  pub spaced : Bool
  pub object : Option NewObject

-- ---- its text

-- a space and the arguments, where there are any
abbrev pub tail : List ℕ → List ℕ
tail [] = []
tail (b ∷ bytes) = 32 ∷ b ∷ bytes

-- what stands behind a keyword: a space and the arguments, or nothing where there are none and no space is asked for
abbrev pub behind : Bool → List ℕ → List ℕ
behind false args = tail args
behind true args = 32 ∷ args

-- the keyword line of an item, without its NL
abbrev pub keyword_text : NewItem → List ℕ
keyword_text item = item.keyword ++ behind item.spaced item.arguments

-- the text of an object, if there is one
abbrev pub object_text_if : Option NewObject → List ℕ
object_text_if None = []
object_text_if (Some object) = object_text object.words object.bytes

-- the text of an item
abbrev pub item_text : NewItem → List ℕ
item_text item = keyword_text item ++ 10 ∷ object_text_if item.object

-- the text of items, one after the other
abbrev pub items_text : List NewItem → List ℕ
items_text [] = []
items_text (item ∷ items) = item_text item ++ items_text items

-- ---- what may be written

-- the word is a keyword: letters, digits and '-', of which the first is a letter or digit
pub record IsKeyword (word : List ℕ) : Type 0 where
  pub first : first_is is_letter_or_digit word ≡ true
  pub each : list_all is_word_byte word ≡ true

-- the text may be the rest of a keyword line: it has no NL, no NUL and no outer blanks
pub record IsLineRest (text : List ℕ) : Type 0 where
  pub no_nl : list_all (λ b. not (b == 10)) text ≡ true
  pub no_nul : list_all (λ b. not (b == 0)) text ≡ true
  pub trimmed : trim text ≡ text

-- the object has words and bytes, and passes no limit
pub record IsWritableObject (object : NewObject) : Type 0 where
  pub words : are_words true object.words ≡ true
  pub bytes : IsBytes object.bytes
  pub fits : length (object_text object.words object.bytes) ≤ max_object

-- the item may stand at this place of a document: the limit, then the place
pub record IsWritable (limit place : ℕ) (item : NewItem) : Type 0 where
  pub keyword : IsKeyword item.keyword
  pub arguments : IsLineRest item.arguments
  pub line_fits : length (keyword_text item) + 1 ≤ max_line
  pub object : IfSome item.object IsWritableObject
  pub within : place + length (item_text item) ≤ limit

-- the items may stand one after the other, from this place on
abbrev pub AreWritable : ℕ → ℕ → List NewItem → Type 0
AreWritable limit place [] = Unit {0}
AreWritable limit place (item ∷ items) = IsWritable limit place item × AreWritable limit (place + length (item_text item)) items

-- there is no object
abbrev pub lacks_object : Option NewObject → Bool
lacks_object None = true
lacks_object (Some object) = false

-- whether an object may follow the items: the last of them has none
abbrev pub is_open : List NewItem → Bool
is_open [] = false
is_open (item ∷ []) = lacks_object item.object
is_open (item ∷ other ∷ items) = is_open (other ∷ items)

-- ---- what is read of it

-- the object whose first line was written at this place
abbrev pub written_object : ℕ → NewObject → Object
written_object place object = record { words = object.words; start = place + (length (begin_line object.words) + 1); text = body_text object.bytes }

-- the same if there is one
abbrev pub written_object_if : ℕ → Option NewObject → Option Object
written_object_if place None = None
written_object_if place (Some object) = Some (written_object place object)

-- the item that was written at this place
abbrev pub written : ℕ → NewItem → Item
written place item = record {
  keyword = item.keyword;
  separator = slice_get (behind item.spaced item.arguments) 0;
  arguments = item.arguments;
  start = argument_start place (keyword_text item);
  line_end = place + (length (keyword_text item) + 1);
  object = written_object_if (place + (length (keyword_text item) + 1)) item.object;
  place = place;
  after = place + length (item_text item);
}

-- the items that were written from this place on
abbrev pub all_written : ℕ → List NewItem → List Item
all_written place [] = []
all_written place (item ∷ items) = written place item ∷ all_written (place + length (item_text item)) items

-- the contents with the items in front
abbrev pub in_front : List Item → Contents → Contents
in_front items rest = record { items = items ++ rest.items; fault = rest.fault }
