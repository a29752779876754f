-- How an item is to be taken into a document, and what it makes once it is read.
use Rattle.std.specs.Prelude.{◌≡◌, List, [], Option, Some, None, Result, Ok, Err}
use Rattle.item_terms.specs.Items.{Item}
use Rattle.frame_terms.specs.declared.{document.{Group.Group, Made.Made, Taken.Taken}, fault.ReadRefusal.ReadRefusal}
use Rattle.frame_terms.specs.{declared.row.Row.Row, Sections.accept, Standing.as_made, Tables.Tables}
use Rattle.frame_terms.specs.declared.document.Made.TheVariants as made
use Rattle.frame_reader.specs.declared.step.Step.{Step, TheVariants.{Passes, Pushes, Opens, Enters, Leaves, Ends}}
use Rattle.frame_reader.specs.declared.step.Step.TheVariants.{Stops}

module _ {S K V : Type 0} where
  -- the last item of a section, by whether there is one around it
  abbrev pub last_step : Option (Group S V) → Row K → Step S K
  last_step None row = Ends row
  last_step (Some group) row = Leaves row

module _ {S K : Type 0} where
  -- an item of a section, and the section that it begins inside it if there is one
  abbrev pub next_step : Option S → Row K → Step S K
  next_step None row = Pushes row
  next_step (Some section) row = Enters section row

module _ {S K V X : Type 0} where
  -- what an item makes that is taken so, behind these items of its section
  abbrev pub made_of : Tables S K V X → X → List (Taken V) → Item → Step S K → Result (Made S V) ReadRefusal
  made_of tables across taken item Passes = Ok made.Passes
  made_of tables across taken item (Pushes row) = as_made made.Pushes (accept tables across row taken item)
  made_of tables across taken item (Opens next row) = as_made (made.Opens next) (accept tables across row [] item)
  made_of tables across taken item (Enters inner row) =
      as_made (made.Enters inner) (accept tables across row taken item)
  made_of tables across taken item (Leaves row) = as_made made.Leaves (accept tables across row taken item)
  made_of tables across taken item (Ends row) = as_made made.Ends (accept tables across row taken item)
  made_of tables across taken item Stops = Ok made.Stops

  -- the same, unless there is a reason to refuse it
  abbrev pub made_if : Tables S K V X → X → List (Taken V) → Item → Result (Step S K) ReadRefusal
      → Result (Made S V) ReadRefusal
  made_if tables across taken item (Ok step) = made_of tables across taken item step
  made_if tables across taken item (Err refusal) = Err refusal

  -- taken so, an item makes this, whatever is remembered of those before it
  abbrev pub Leads : Tables S K V X → List (Taken V) → Item → Result (Step S K) ReadRefusal
      → (X → Result (Made S V) ReadRefusal) → Type 0
  Leads tables taken item step wanted = (across : X) → wanted across ≡ made_if tables across taken item step
