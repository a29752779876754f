-- What the tables of a kind of document have to be, so that each item has one place.
use Rattle.std.specs.{Prelude.{◌≡◌, false, IfSome, Some, None}, List.AllByRecursion}
use Rattle.item_terms.specs.Items.{Item}
use Rattle.frame_terms.specs.{declared.{keyword.Keyword.Keyword, row.Row.Row}, Keywords.same, Order.following_sections}
use Rattle.frame_terms.specs.{Order.{is_keyword, opener, repeats}, Rows.is_many, Sections.row_of, Tables.Tables}
use Rattle.document_laws.specs.Sound.{AreSound, StandsOnce}

-- The item that begins a section inside another is one of that other, stands in it once or not at all, is never ignored,
-- and does not end it.
pub record IsEntrance {S K V X : Type 0} (tables : Tables S K V X) (section inside : S) : Type 0 where
  pub row : Row K
  pub has_row : row_of (tables.rows section) (opener tables inside) ≡ Some row
  pub few : is_many row.count ≡ false
  pub regarded : (item : Item) → tables.ignores row.kind item ≡ false
  pub goes_on : is_keyword ((tables.shape section).last) (opener tables inside) ≡ false

-- The last item of a section that ends with one of its own stands once, and is not its opener; the section is no repeated
-- one.
pub record IsEnd {S K V X : Type 0} (tables : Tables S K V X) (section : S) (last : Keyword) : Type 0 where
  pub last_once : StandsOnce tables section last
  pub later : same last (opener tables section) ≡ false
  pub stands_once : repeats ((tables.shape section).again) ≡ false

-- The tables are sound, and the first section stands. In a section no two rows have one keyword, and none has that of a
-- later section's opener. No opener is ignored.
pub record AreClear {S K V X : Type 0} (tables : Tables S K V X) : Type 0 where
  pub sound : AreSound tables
  pub first_stands : repeats ((tables.shape tables.first).again) ≡ false
  pub rows_apart : (section : S) → AllByRecursion
      (λ (row : Row K). row_of (tables.rows section) row.keyword ≡ Some row) (tables.rows section)
  pub openers_apart : (section : S) → AllByRecursion
      (λ (later : S). row_of (tables.rows section) (opener tables later) ≡ None) (following_sections tables section)
  pub regarded : (section : S) → IfSome (row_of (tables.rows section) (opener tables section))
      (λ (row : Row K). (item : Item) → tables.ignores row.kind item ≡ false)
  pub ends : (section : S) → IfSome ((tables.shape section).last) (λ last. IsEnd tables section last)
  pub entrance : (section : S) → IfSome ((tables.shape section).inner) (λ inside. IsEntrance tables section inside)
