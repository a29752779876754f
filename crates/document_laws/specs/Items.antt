-- The items of a section (dir-spec, "Document meta-format").
use Rattle.std.specs.Prelude.{◌≡◌, ◌⊎◌, ◌++◌, ℕ, List, [], ◌∷◌, All, Some, Ok}
use Rattle.item_terms.specs.Items.{Item, Contents}
use Rattle.frame_terms.specs.{declared.{document.Taken.Taken, keyword.Keyword.Keyword, row.Row.Row}, Documents.Document}
use Rattle.frame_terms.specs.{Documents.document_of, Keywords.word_of, Order.inner, Sections.{row_of, taken_of}}
use Rattle.frame_terms.specs.Tables.{Tables}

-- An item by a row of a section's table: its keyword is the row's, and it says what the row's kind gives where this is
-- remembered of the items before it.
pub record IsItemOf {S K V X : Type 0} (tables : Tables S K V X) (remembered : X) (section : S) (item : Item)
    (one : Taken V) : Type 0 where
  pub keyword : Keyword
  pub row : Row K
  pub known : word_of item.keyword ≡ Some keyword
  pub has_row : row_of (tables.rows section) keyword ≡ Some row
  pub value : V
  pub says : tables.value_of remembered row.kind item ≡ Ok value
  pub stands : one ≡ taken_of row.keyword item value

-- the item that begins a section inside another, by a row of that other one
pub record IsItemAround {S K V X : Type 0} (tables : Tables S K V X) (remembered : X) (section : S) (item : Item)
    (one : Taken V) : Type 0 where
  pub around : S
  pub begins : inner tables around one.keyword ≡ Some section
  pub taken : IsItemOf tables remembered around item one

module _ {S K V X : Type 0} where
  -- an item of a section
  abbrev pub IsItemIn : Tables S K V X → X → S → Item → Taken V → Type 0
  IsItemIn tables remembered section item one =
      IsItemOf tables remembered section item one ⊎ IsItemAround tables remembered section item one

  -- each of these is one of the items, in their order
  abbrev pub AreItemsIn : Tables S K V X → S → List Item → List (Taken V) → Type 0
  AreItemsIn tables section items [] = Unit {0}
  AreItemsIn tables section items (one ∷ taken) =
      (before : List Item) × (item : Item) × (after : List Item) × (items ≡ before ++ item ∷ after)
      × (remembered : X) × IsItemIn tables remembered section item one × AreItemsIn tables section after taken

  -- Each item of each section of a document is an item of the input, in its order: by the row that its keyword has in
  -- the table of that section, with the value that this row's kind gives, and at its places. One that begins a section
  -- inside another is an item of both, by its row in that other one.
  abbrev pub ItemsAreSaid : Tables S K V X → Type 0
  ItemsAreSaid tables =
      (length : ℕ) (contents : Contents) (document : Document S V) → document_of tables length contents ≡ Ok document
      → All (λ group. AreItemsIn tables group.section contents.items group.taken) document.groups
