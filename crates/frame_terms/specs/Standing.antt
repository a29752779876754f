-- What an item makes that is not the first of its document, by the row of its keyword.
use Rattle.std.specs.Prelude.{ℕ, [], Option, Some, None, Result, Ok, Err, if◌then◌else◌}
use Rattle.item_terms.specs.Items.{Item}
use Rattle.frame_terms.specs.declared.document.{Group.Group, Made.{Made, TheVariants.{Passes, Pushes, Opens, Enters}}}
use Rattle.frame_terms.specs.declared.document.{Made.TheVariants.{Leaves, Ends, Stops}, Open.Open, Taken.Taken}
use Rattle.frame_terms.specs.declared.fault.{FrameReason.TheVariants.{Missing, Order}, ReadRefusal.ReadRefusal}
use Rattle.frame_terms.specs.declared.{keyword.Keyword.Keyword, row.Row.Row, section.Again.{Again, TheVariants.Nothing}}
use Rattle.frame_terms.specs.{declared.section.Again.TheVariants.{Section, Document}, Keywords.same, Order.is_keyword}
use Rattle.frame_terms.specs.Order.{opener, is_strange, following_sections, opened_by, passed_over, first_of, inner}
use Rattle.frame_terms.specs.{Refusals.refusal_at, Sections.{row_of, lacking_keyword, lacking_but, accept}}
use Rattle.frame_terms.specs.Tables.{Tables}

module _ {S V : Type 0} where
  -- what an item makes, unless a keyword is missing before it
  abbrev pub unless : ℕ → Option Keyword → Result (Made S V) ReadRefusal → Result (Made S V) ReadRefusal
  unless place None other = other
  unless place (Some keyword) other = Err (refusal_at place (Missing keyword))

  -- what an item makes that is taken
  abbrev pub as_made : (Taken V → Made S V) → Result (Taken V) ReadRefusal → Result (Made S V) ReadRefusal
  as_made make (Ok taken) = Ok (make taken)
  as_made make (Err refusal) = Err refusal

  -- the last item of a section, and the section around it if there is one
  abbrev pub ends : Option (Group S V) → Taken V → Made S V
  ends None one = Ends one
  ends (Some group) one = Leaves one

  -- an item of a section that may open another inside it
  abbrev pub enters : Option S → Taken V → Made S V
  enters None one = Pushes one
  enters (Some section) one = Enters section one

module _ {S K V X : Type 0} where
  -- what an item of this row begins, of the section that is open
  abbrev pub begins_again : Tables S K V X → S → Row K → Again
  begins_again tables section row =
      if same (opener tables section) row.keyword then (tables.shape section).again else Nothing

  -- an item of this row of the section that is open, which does not end with it, by what the item begins
  abbrev pub goes_on : Tables S K V X → X → Open S V → Item → Row K → Again → Result (Made S V) ReadRefusal
  goes_on tables across open_ item row Nothing =
      as_made (enters (inner tables open_.section row.keyword)) (accept tables across row open_.taken item)
  goes_on tables across open_ item row Section =
      unless item.place (lacking_keyword (tables.rows open_.section) open_.taken)
      (as_made (Opens open_.section) (accept tables across row [] item))
  goes_on tables across open_ item row Document =
      unless item.place (lacking_keyword (tables.rows open_.section) open_.taken) (Ok Stops)

  -- an item of this row of the section that is open
  abbrev pub in_section : Tables S K V X → X → Open S V → Item → Row K → Result (Made S V) ReadRefusal
  in_section tables across open_ item row =
      if is_keyword ((tables.shape open_.section).last) row.keyword then
      unless item.place (lacking_but (tables.rows open_.section) row.keyword open_.taken)
      (as_made (ends open_.around) (accept tables across row open_.taken item))
      else goes_on tables across open_ item row (begins_again tables open_.section row)

  -- an item of this row that is a section's first
  abbrev pub begins : Tables S K V X → X → (Taken V → Made S V) → Item → Option (Row K) → Result (Made S V) ReadRefusal
  begins tables across make item None = Ok Passes
  begins tables across make item (Some row) = as_made make (accept tables across row [] item)

  -- an item of no row of the section that is open, and the section that it opens
  abbrev pub elsewhere : Tables S K V X → X → Open S V → Item → Keyword → Option S → Result (Made S V) ReadRefusal
  elsewhere tables across open_ item keyword None =
      if is_strange tables open_.section keyword then Err (refusal_at item.place Order) else Ok Passes
  elsewhere tables across open_ item keyword (Some other) =
      unless item.place
      (first_of (lacking_keyword (tables.rows open_.section) open_.taken) (passed_over tables keyword (following_sections tables open_.section)))
      (begins tables across (Opens other) item (row_of (tables.rows other) keyword))

  -- an item of this keyword, and its row in the section that is open
  abbrev pub by_row : Tables S K V X → X → Open S V → Item → Keyword → Option (Row K) → Result (Made S V) ReadRefusal
  by_row tables across open_ item keyword (Some row) =
      if tables.ignores row.kind item then Ok Passes else in_section tables across open_ item row
  by_row tables across open_ item keyword None =
      elsewhere tables across open_ item keyword (opened_by tables keyword (following_sections tables open_.section))

  -- an item that is not the first of its document, and its keyword if it is known
  abbrev pub by_keyword : Tables S K V X → X → Open S V → Item → Option Keyword → Result (Made S V) ReadRefusal
  by_keyword tables across open_ item None = Ok Passes
  by_keyword tables across open_ item (Some keyword) =
      by_row tables across open_ item keyword (row_of (tables.rows open_.section) keyword)
