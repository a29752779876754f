-- Where a keyword belongs: in which section of a document, and which sections follow it.
use Rattle.std.specs.Prelude.{ℕ, ◌+◌, drop, Bool, true, false, not, ◌||◌, List, [], ◌∷◌, Option, Some, None}
use Rattle.std.specs.{Prelude.if◌then◌else◌, List.{find, list_any, prefix_len}}
use Rattle.frame_terms.specs.declared.{keyword.Keyword.Keyword, row.Row.Row, section.Again.{Again, TheVariants.Nothing}}
use Rattle.frame_terms.specs.{declared.section.Again.TheVariants.{Section, Document}, Keywords.same, Tables.Tables}

-- whether this is the keyword, where there is one
abbrev pub is_keyword : Option Keyword → Keyword → Bool
is_keyword None keyword = false
is_keyword (Some other) keyword = same other keyword

-- whether a section may stand any number of times, and not at all
abbrev pub repeats : Again → Bool
repeats Nothing = false
repeats Section = true
repeats Document = false

-- the first keyword of two that is there
abbrev pub first_of : Option Keyword → Option Keyword → Option Keyword
first_of None other = other
first_of (Some keyword) other = Some keyword

module _ {S K V X : Type 0} where
  -- the keyword of a section's first item
  abbrev pub opener : Tables S K V X → S → Keyword
  opener tables section = (tables.shape section).opener

  -- whether a section knows a keyword
  abbrev pub knows_in : Tables S K V X → S → Keyword → Bool
  knows_in tables section keyword = list_any (λ (row : Row K). same row.keyword keyword) (tables.rows section)

  -- whether a section inside another knows a keyword
  abbrev pub knows_inside : Tables S K V X → Option S → Keyword → Bool
  knows_inside tables None keyword = false
  knows_inside tables (Some inner) keyword = knows_in tables inner keyword

  -- whether a section knows a keyword, or the one that may stand inside it
  abbrev pub knows_with : Tables S K V X → S → Keyword → Bool
  knows_with tables section keyword =
      knows_in tables section keyword || knows_inside tables ((tables.shape section).inner) keyword

  -- whether a document knows a keyword, in one of all its sections
  abbrev pub knows : Tables S K V X → Keyword → Bool
  knows tables keyword = list_any (λ section. knows_with tables section keyword) tables.sections

  -- whether a keyword that has no row in a section may not stand in it: the document knows it, or it is a stranger to the
  -- section
  abbrev pub is_strange : Tables S K V X → S → Keyword → Bool
  is_strange tables section keyword = knows tables keyword || tables.strangers section keyword

  -- how many sections of a list stand before one of them
  abbrev pub place_of : Tables S K V X → S → List S → ℕ
  place_of tables section list = prefix_len (λ other. not (same (opener tables other) (opener tables section))) list

  -- the sections of a list that stand after one of them; none where it is not in the list
  abbrev pub after : Tables S K V X → S → List S → List S
  after tables section list = drop (place_of tables section list + 1) list

  -- the sections of a document that may follow a section; none follows one inside another
  abbrev pub following_sections : Tables S K V X → S → List S
  following_sections tables section = after tables section tables.sections

  -- the first section of a list that the keyword opens
  abbrev pub opened_by : Tables S K V X → Keyword → List S → Option S
  opened_by tables keyword list = find (λ section. same (opener tables section) keyword) list

  -- the opener of the first section of a list that has to stand
  abbrev pub must_open : Tables S K V X → List S → Option Keyword
  must_open tables [] = None
  must_open tables (section ∷ rest) =
      if repeats ((tables.shape section).again) then must_open tables rest else Some (opener tables section)

  -- the opener of the first section before the one that a keyword opens which has to stand
  abbrev pub passed_over : Tables S K V X → Keyword → List S → Option Keyword
  passed_over tables keyword [] = None
  passed_over tables keyword (section ∷ rest) =
      if same (opener tables section) keyword then None
      else if repeats ((tables.shape section).again) then passed_over tables keyword rest
      else Some (opener tables section)

  -- the section, if its opener is this keyword
  abbrev pub section_if : Tables S K V X → Keyword → Option S → Option S
  section_if tables keyword None = None
  section_if tables keyword (Some section) = if same (opener tables section) keyword then Some section else None

  -- the section that an item of this keyword opens inside another
  abbrev pub inner : Tables S K V X → S → Keyword → Option S
  inner tables section keyword = section_if tables keyword ((tables.shape section).inner)

  -- whether a keyword is that of the first item of a document
  abbrev pub begins_document : Tables S K V X → Option Keyword → Bool
  begins_document tables None = false
  begins_document tables (Some keyword) = same keyword (opener tables tables.first)
