-- Whether tables are clear, as tests that a kind of document meets by computing.
use Rattle.std.specs.Prelude.{◌≡◌, true, false, ◌&&◌, ◌||◌, Bool, not, List, [], ◌∷◌, map, IfSome, Option, Some, None}
use Rattle.std.specs.{Prelude.is_some, List.list_all}
use Rattle.item_terms.specs.Items.{Item}
use Rattle.frame_terms.specs.declared.{keyword.Keyword.Keyword, row.Row.Row, section.Again.{Again, TheVariants.Nothing}}
use Rattle.frame_terms.specs.{declared.section.Again.TheVariants.{Section, Document}, Keywords.same}
use Rattle.frame_terms.specs.{Order.{following_sections, is_keyword, opener, repeats}, Rows.{is_many, is_one}}
use Rattle.frame_terms.specs.{Sections.row_of, Tables.Tables}
use Rattle.document_laws.specs.Sound.{ends_document}

-- whether no two of some keywords are one
abbrev pub differ : List Keyword → Bool
differ [] = true
differ (keyword ∷ keywords) = list_all (λ other. not (same keyword other)) keywords && differ keywords

-- whether all of these hold
abbrev pub each : List Bool → Bool
each tests = list_all (λ test. test) tests

-- whether the next section or document begins with one more opener
abbrev pub is_again : Again → Bool
is_again Nothing = false
is_again Section = true
is_again Document = true

-- whether there is none
abbrev pub is_empty : {A : Type 0} → List A → Bool
is_empty [] = true
is_empty (one ∷ more) = false

-- whether what is there passes a test
abbrev pub if_there : {A : Type 0} → (A → Bool) → Option A → Bool
if_there test None = true
if_there test (Some one) = test one

-- whether something is there, and passes a test
abbrev pub is_there : {A : Type 0} → (A → Bool) → Option A → Bool
is_there test None = false
is_there test (Some one) = test one

module _ {S K V X : Type 0} (tables : Tables S K V X) where
  -- whether a keyword's item stands once in a section
  abbrev pub once : S → Keyword → Bool
  once section keyword = is_there (λ (row : Row K). is_one row.count) (row_of (tables.rows section) keyword)

  -- whether a section that ends with this item of its own ends with one that stands once and is not its opener
  abbrev pub ends_well : S → Keyword → Bool
  ends_well section last = each (once section last ∷ not (same last (opener tables section)) ∷ [])

  -- whether a section that stands inside others is none of those in order, ends with an item of its own, and has none
  -- inside it
  abbrev pub is_inner : S → Bool
  is_inner section = each (
      is_empty (following_sections tables section)
      ∷ not (is_again ((tables.shape section).again))
      ∷ not (is_some ((tables.shape section).inner))
      ∷ is_there (ends_well section) ((tables.shape section).last) ∷ [])

  -- whether the item that begins a section inside another stands at most once in it, and does not end it
  abbrev pub may_enter : S → S → Bool
  may_enter section inside = each (
      is_there (λ (row : Row K). not (is_many row.count)) (row_of (tables.rows section) (opener tables inside))
      ∷ not (is_keyword ((tables.shape section).last) (opener tables inside))
      ∷ is_inner inside ∷ [])

  -- whether a section's opener stands once in it, no two of its rows have one keyword and none has that of a later
  -- section's opener, only the last section ends the document, and what ends it and stands inside it may
  abbrev pub is_clear : S → Bool
  is_clear section = each (
      once section (opener tables section)
      ∷ differ (map (λ (row : Row K). row.keyword) (tables.rows section))
      ∷ list_all (λ later. not (is_some (row_of (tables.rows section) (opener tables later)))) (following_sections tables section)
      ∷ (not (ends_document tables section) || is_empty (following_sections tables section))
      ∷ if_there (λ last. each (ends_well section last ∷ not (repeats ((tables.shape section).again)) ∷ []))
      ((tables.shape section).last)
      ∷ if_there (may_enter section) ((tables.shape section).inner) ∷ [])

  -- no item of a keyword is one that the tables ignore
  abbrev pub IsRegarded : S → Keyword → Type 0
  IsRegarded section keyword =
      IfSome (row_of (tables.rows section) keyword) (λ (row : Row K). (item : Item) → tables.ignores row.kind item ≡ false)

-- Tables that pass the tests, of which no opener is ignored.
pub record PassTests {S K V X : Type 0} (tables : Tables S K V X) : Type 0 where
  pub others : List S
  pub begins : tables.sections ≡ tables.first ∷ others
  pub apart : differ (map (λ section. opener tables section) tables.sections) ≡ true
  pub first_stands : repeats ((tables.shape tables.first).again) ≡ false
  pub each : (section : S) → is_clear tables section ≡ true
  pub regarded : (section : S) → IsRegarded tables section (opener tables section)
  pub entered : (section : S) → IfSome ((tables.shape section).inner)
      (λ inside. IsRegarded tables section (opener tables inside))
