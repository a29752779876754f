-- What the tables of a kind of document have to be, so that its sections have an order.
use Rattle.std.specs.{Prelude.{◌≡◌, true, false, ◌||◌, Bool, List, [], ◌∷◌, map, Some, None, is_some}, List.IsDistinct}
use Rattle.frame_terms.specs.declared.{keyword.Keyword.Keyword, row.{Count.TheVariants.One, Row.Row}}
use Rattle.frame_terms.specs.{declared.section.Again.{Again, TheVariants.{Nothing, Section, Document}}, Keywords.same}
use Rattle.frame_terms.specs.{Order.{following_sections, opener}, Sections.row_of, Tables.Tables}

-- a keyword whose item stands once in a section
pub record StandsOnce {S K V X : Type 0} (tables : Tables S K V X) (section : S) (keyword : Keyword) : Type 0 where
  pub row : Row K
  pub has_row : row_of (tables.rows section) keyword ≡ Some row
  pub once : row.count ≡ One

-- A section inside others is none of those in order, ends with an item of its own, and has none inside it.
pub record IsInner {S K V X : Type 0} (tables : Tables S K V X) (section : S) : Type 0 where
  pub apart : following_sections tables section ≡ []
  pub again : (tables.shape section).again ≡ Nothing
  pub plain : (tables.shape section).inner ≡ None
  pub last : Keyword
  pub ends : (tables.shape section).last ≡ Some last
  pub last_once : StandsOnce tables section last
  pub later : same last (opener tables section) ≡ false

-- whether the next document begins with one more opener of a section
abbrev pub begins_next : Again → Bool
begins_next Nothing = false
begins_next Section = false
begins_next Document = true

module _ {S K V X : Type 0} where
  -- whether a document ends with a section, be there more of the input or not
  abbrev pub ends_document : Tables S K V X → S → Bool
  ends_document tables section =
      is_some ((tables.shape section).last) || begins_next ((tables.shape section).again)

-- The sections of a document begin with its first one, and no two of them with one keyword; the opener of each stands
-- once in it; and only the last of them ends the document.
pub record AreSound {S K V X : Type 0} (tables : Tables S K V X) : Type 0 where
  pub others : List S
  pub begins : tables.sections ≡ tables.first ∷ others
  pub apart : IsDistinct same (map (λ section. opener tables section) tables.sections)
  pub opener_once : (section : S) → StandsOnce tables section (opener tables section)
  pub ends_last : (section : S) → ends_document tables section ≡ true → following_sections tables section ≡ []
  pub inner : (section inside : S) → (tables.shape section).inner ≡ Some inside → IsInner tables inside
