-- How often the items of a section stand (dir-spec, "Document meta-format": once, at most once, any number of times).
use Rattle.std.specs.{Prelude.{◌≡◌, ℕ, ◌≤◌, List, All, Some, Ok}, List.count_by}
use Rattle.item_terms.specs.Items.{Contents}
use Rattle.frame_terms.specs.declared.{document.Taken.Taken, keyword.Keyword.Keyword, row.Count.Count}
use Rattle.frame_terms.specs.{declared.row.{Count.TheVariants.{One, Optional, Many}, Row.Row}, Documents.Document}
use Rattle.frame_terms.specs.{Documents.document_of, Keywords.same, Sections.row_of, Tables.Tables}

module _ {V : Type 0} where
  -- how many items of a keyword stand
  abbrev pub times : Keyword → List (Taken V) → ℕ
  times keyword taken = count_by (λ (one : Taken V). same one.keyword keyword) taken

-- so many items are as many as a row asks for
abbrev pub IsCount : Count → ℕ → Type 0
IsCount One number = number ≡ 1
IsCount Optional number = number ≤ 1
IsCount Many number = Unit {0}

module _ {S K V X : Type 0} where
  -- items of each keyword that has a row in a section's table stand as often as that row asks for
  abbrev pub RowsStand : Tables S K V X → S → List (Taken V) → Type 0
  RowsStand tables section taken =
      (keyword : Keyword) (row : Row K) → row_of (tables.rows section) keyword ≡ Some row
      → IsCount row.count (times keyword taken)

  -- In each section of a document, items of each keyword of its table stand as often as its row asks for: once where it
  -- counts 1, at most once where it counts ?.
  abbrev pub RowsStandAsOften : Tables S K V X → Type 0
  RowsStandAsOften tables =
      (length : ℕ) (contents : Contents) (document : Document S V) → document_of tables length contents ≡ Ok document
      → All (λ group. RowsStand tables group.section group.taken) document.groups
