-- A document's own part: the bytes of the input up to where the document ends.
use Rattle.std.specs.Prelude.{◌≡◌, ◌≢◌, ℕ, true, is_some, List, length, take, Some, Ok}
use Rattle.item_terms.specs.Items.{Item, items_of}
use Rattle.frame_terms.specs.{declared.{keyword.Keyword.Keyword, row.Row.Row}, Documents.{Document, document_of}}
use Rattle.frame_terms.specs.{Order.is_keyword, Sections.row_of, Tables.Tables}
use Rattle.frame_terms.specs.declared.section.Again.TheVariants as again

module _ {S K V X : Type 0} where
  -- Documents of these tables end with their last item's object: what an item says that ends a section, it says with
  -- its object, and no document ends where the next begins.
  pub record EndWithObjects (tables : Tables S K V X) : Type 0 where
    pub alone : (section : S) → (tables.shape section).again ≢ again.Document
    pub objects : (section : S) (keyword : Keyword) (row : Row K) → row_of (tables.rows section) keyword ≡ Some row
        → is_keyword ((tables.shape section).last) row.keyword ≡ true
        → (across : X) (item : Item) (value : V) → tables.value_of across row.kind item ≡ Ok value
        → is_some item.object ≡ true

  -- A document's own part alone is read as that document.
  abbrev pub OwnPartIsReadTheSame : Tables S K V X → Type 0
  OwnPartIsReadTheSame tables = EndWithObjects tables → (limit : ℕ) (text : List ℕ) (document : Document S V)
      → document_of tables (length text) (items_of limit text) ≡ Ok document
      → document_of tables (length (take document.used text)) (items_of limit (take document.used text)) ≡ Ok document
