-- What is passed over, and where a document ends (dir-spec, "Document meta-format").
use Rattle.std.specs.Prelude.{◌≡◌, ◌⊎◌, ◌++◌, ℕ, true, false, List, [], ◌∷◌, IfSome, Option, Some, None}
use Rattle.item_terms.specs.{declared.fault.DocFault.DocFault, Items.Item}
use Rattle.frame_terms.specs.{declared.{keyword.Keyword.Keyword, row.Row.Row}, Keywords.word_of, Order.is_strange}
use Rattle.frame_terms.specs.{Sections.row_of, Tables.Tables}

-- an item of a row of a section that the tables ignore
pub record IsIgnored {S K V X : Type 0} (tables : Tables S K V X) (section : S) (item : Item) : Type 0 where
  pub keyword : Keyword
  pub row : Row K
  pub known : word_of item.keyword ≡ Some keyword
  pub has_row : row_of (tables.rows section) keyword ≡ Some row
  pub ignored : tables.ignores row.kind item ≡ true

module _ {S K V X : Type 0} where
  -- an item whose keyword no section of the document knows, and which is no stranger to the one that is open
  abbrev pub IsUnknown : Tables S K V X → S → Item → Type 0
  IsUnknown tables section item = IfSome (word_of item.keyword) (λ keyword. is_strange tables section keyword ≡ false)

  -- an item that a section passes over
  abbrev pub IsPassedIn : Tables S K V X → S → Item → Type 0
  IsPassedIn tables section item = IsUnknown tables section item ⊎ IsIgnored tables section item

-- the document ends with the last of these items
pub record EndsWith (items : List Item) (place : ℕ) : Type 0 where
  pub before : List Item
  pub last : Item
  pub parts : items ≡ before ++ last ∷ []
  pub ends : place ≡ last.after

-- it ends with an input of so many bytes, of which no item is left, and in which no line has a fault
pub record EndsWithInput (length : ℕ) (fault : Option DocFault) (left : List Item) (place : ℕ) : Type 0 where
  pub none_left : left ≡ []
  pub no_fault : fault ≡ None
  pub ends : place ≡ length
