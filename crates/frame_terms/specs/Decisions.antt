-- What an item makes of a document, of which the open section and its items are known. The faults of its lines are told
-- before. Of its others the first is given: TooMany of an inner section's bytes, Missing, Order, Twice, and
-- what is wrong with what it says.
use Rattle.std.specs.Prelude.{ℕ, ◌+◌, ◌-◌, nat_lt, List, [], ◌∷◌, Option, Some, None, Result, Ok, Err, if◌then◌else◌}
use Rattle.std.specs.Option.{option_map}
use Rattle.item_terms.specs.Items.{Item}
use Rattle.frame_terms.specs.declared.document.{Group.Group, Made.{Made, TheVariants.{Passes, Pushes}}, Open.Open}
use Rattle.frame_terms.specs.declared.{document.Taken.Taken, fault.{FrameFault.FrameFault, FrameReason.FrameReason}}
use Rattle.frame_terms.specs.declared.fault.{FrameReason.TheVariants.{Missing, TooMany}, ReadRefusal.ReadRefusal}
use Rattle.frame_terms.specs.declared.{fault.ReadRefusal.TheVariants.Frame, keyword.Keyword.Keyword, row.Limit.Limit}
use Rattle.frame_terms.specs.{Keywords.word_of, Order.{opener, begins_document, inner}, Refusals.refusal_at}
use Rattle.frame_terms.specs.{Rows.limit_number, Sections.{row_of, stands}, Standing.{begins, by_keyword}}
use Rattle.frame_terms.specs.Tables.{Tables}

-- ---- what is refused wherever it stands

module _ {S V : Type 0} where
  -- what an item makes, unless there is a reason to refuse it
  abbrev pub unless_refused : ℕ → Option FrameReason → Result (Made S V) ReadRefusal → Result (Made S V) ReadRefusal
  unless_refused place None other = other
  unless_refused place (Some reason) other = Err (refusal_at place reason)

  -- what an item makes, unless there is this fault
  abbrev pub unless_fault : Option FrameFault → Result (Made S V) ReadRefusal → Result (Made S V) ReadRefusal
  unless_fault None other = other
  unless_fault (Some fault) other = Err (Frame fault)

module _ {S K V X : Type 0} where
  -- why an item is refused as the first of a document, whatever it says: it begins none
  abbrev pub beginning_reason : Tables S K V X → Option Keyword → Option FrameReason
  beginning_reason tables word =
      if begins_document tables word then None else Some (Missing (opener tables tables.first))

  -- the same with its place
  abbrev pub first_fault : Tables S K V X → Item → Option FrameFault
  first_fault tables item =
      option_map (λ reason. record { place = item.place; reason = reason }) (beginning_reason tables (word_of item.keyword))

  -- the first item of a document
  abbrev pub first_item : Tables S K V X → X → Item → Option Keyword → Result (Made S V) ReadRefusal
  first_item tables across item None = Ok Passes
  first_item tables across item (Some keyword) =
      begins tables across Pushes item (row_of (tables.rows tables.first) keyword)

-- ---- the limit of a section inside another

-- the fault of an item that ends too far from a place, if that is limited
abbrev pub beyond : ℕ → Option Limit → Item → Option FrameFault
beyond start None item = None
beyond start (Some limit) item =
    if nat_lt (limit_number limit) (item.after - start)
    then Some (record { place = start + limit_number limit; reason = TooMany limit }) else None

module _ {V : Type 0} where
  -- the place of the first of these items
  abbrev pub first_place : List (Taken V) → ℕ
  first_place [] = 0
  first_place (one ∷ taken) = one.place

module _ {S K V X : Type 0} where
  -- the section that an item of this keyword begins inside the one that is open
  abbrev pub section_inside : Tables S K V X → S → List (Taken V) → Option Keyword → Option S
  section_inside tables section taken None = None
  section_inside tables section taken (Some keyword) =
      if stands keyword taken then None else inner tables section keyword

  -- the fault of an item that begins a section inside another
  abbrev pub beyond_inside : Tables S K V X → Item → Option S → Option FrameFault
  beyond_inside tables item None = None
  beyond_inside tables item (Some section) = beyond item.place ((tables.shape section).limit) item

  -- the fault of an item of a section that may stand inside another, where that section has too many bytes
  abbrev pub beyond_inner : Tables S K V X → S → List (Taken V) → Option (Group S V) → Item → Option Keyword
      → Option FrameFault
  beyond_inner tables section taken None item word =
      beyond_inside tables item (section_inside tables section taken word)
  beyond_inner tables section taken (Some around) item word =
      beyond (first_place taken) ((tables.shape section).limit) item

  -- ---- an item

  -- what the first item of a document makes
  abbrev pub made_first : Tables S K V X → X → Item → Option Keyword → Result (Made S V) ReadRefusal
  made_first tables across item word =
      unless_refused item.place (beginning_reason tables word) (first_item tables across item word)

  -- what a later item makes
  abbrev pub made_later : Tables S K V X → X → Open S V → Item → Option Keyword → Result (Made S V) ReadRefusal
  made_later tables across open_ item word =
      unless_fault (beyond_inner tables open_.section open_.taken open_.around item word)
      (by_keyword tables across open_ item word)

  -- what an item makes, by the items of the open section
  abbrev pub made_after : Tables S K V X → X → Open S V → Item → Option Keyword → List (Taken V)
      → Result (Made S V) ReadRefusal
  made_after tables across open_ item word [] = made_first tables across item word
  made_after tables across open_ item word (one ∷ taken) = made_later tables across open_ item word

  -- what an item makes of a document of which this is open
  abbrev pub made_by : Tables S K V X → X → Open S V → Item → Result (Made S V) ReadRefusal
  made_by tables across open_ item = made_after tables across open_ item (word_of item.keyword) open_.taken
