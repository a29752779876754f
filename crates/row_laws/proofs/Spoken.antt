-- An item without its places, and what a document's items say in their order, without places.
use Rattle.std.{proofs.Common.{◌≡◌, ℕ, false, List, [], ◌∷◌, ◌++◌, Option, Some, None, refl, ap}, specs.Prelude.map}
use Rattle.std.specs.Prelude.{slice_get}
use Rattle.item_terms.specs.Items.{Item, Object}
use Rattle.dirdoc_grammar.specs.{Bodies.body_text, Writing.{NewItem, NewObject, tail, written, written_object_if}}
use Rattle.frame_terms.specs.{Keywords.text_of, declared.{keyword.Keyword.Keyword, row.Row.Row}}

-- ---- an item

-- what an item's line says behind its keyword, and its object, which begins at no place
pub record Words : Type 0 where
  pub separator : Option ℕ
  pub arguments : List ℕ
  pub object : Option Object

-- an object without its place
abbrev pub object_words : Option Object → Option Object
object_words None = None
object_words (Some object) = Some (record { words = object.words; start = 0; text = object.text })

-- the words of an item
abbrev pub words_in : Item → Words
words_in item = record { separator = item.separator; arguments = item.arguments; object = object_words item.object }

-- ---- an item that is written

-- the rest of its line, and its object
pub record Rest : Type 0 where
  pub rest : List ℕ
  pub object : Option NewObject

-- the object of an item that is written
abbrev pub new_object : Option NewObject → Option Object
new_object None = None
new_object (Some object) = Some (record { words = object.words; start = 0; text = body_text object.bytes })

-- the words of an item that is written
abbrev pub new_words : Rest → Words
new_words r = record { separator = slice_get (tail r.rest) 0; arguments = r.rest; object = new_object r.object }

-- the item
abbrev pub new_item : Keyword → Rest → NewItem
new_item keyword r = record { keyword = text_of keyword; arguments = r.rest; spaced = false; object = r.object }

same_object : (place : ℕ) (object : Option NewObject) → object_words (written_object_if place object)
    ≡ new_object object
same_object place None = refl
same_object place (Some object) = refl

-- wherever it is written, it has the words that it was written with
pub words_written : (place : ℕ) (keyword : Keyword) (r : Rest) → words_in (written place (new_item keyword r))
    ≡ new_words r
words_written place keyword r =
    ap (λ (o : Option Object).
    record { separator = slice_get (tail r.rest) 0; arguments = r.rest; object = o }) (same_object _ r.object)

-- ---- items one after the other

-- what an item says: its keyword, and the rest
pub record Spoken (F : Type 0) : Type 0 where
  pub keyword : Keyword
  pub value : F

-- what is said by one row
pub record SpokenRow (K F : Type 0) : Type 0 where
  pub row : Row K
  pub values : List F

module _ {F : Type 0} where
  abbrev pub spoken : Keyword → F → Spoken F
  spoken keyword value = record { keyword = keyword; value = value }

module _ {K F : Type 0} where
  -- what is said by rows, one after the other
  abbrev pub spoken_of : (K → F → F) → List (SpokenRow K F) → List (Spoken F)
  spoken_of as_read [] = []
  spoken_of as_read (one ∷ rows) =
      map (λ (f : F). spoken one.row.keyword (as_read one.row.kind f)) one.values ++ spoken_of as_read rows

  -- their items
  abbrev pub new_items : (K → F → Rest) → List (SpokenRow K F) → List NewItem
  new_items write [] = []
  new_items write (one ∷ rows) =
      map (λ (f : F). new_item one.row.keyword (write one.row.kind f)) one.values ++ new_items write rows

  -- the rows
  abbrev pub rows_in : List (SpokenRow K F) → List (Row K)
  rows_in rows = map (λ (one : SpokenRow K F). one.row) rows

-- ---- a document's fields

-- a field of a document: its row, and what a document says by it
pub record Field (D K F : Type 0) : Type 0 where
  pub row : Row K
  pub values : D → List F

module _ {D K F : Type 0} where
  -- what a document says by its fields
  abbrev pub rows_at : D → List (Field D K F) → List (SpokenRow K F)
  rows_at d [] = []
  rows_at d (field ∷ fields) = record { row = field.row; values = field.values d } ∷ rows_at d fields

  -- their rows are those of the table
  abbrev pub field_rows : List (Field D K F) → List (Row K)
  field_rows [] = []
  field_rows (field ∷ fields) = field.row ∷ field_rows fields
