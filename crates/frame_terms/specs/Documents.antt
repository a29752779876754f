-- A document of given tables: its sections with their items, and the first fault.
use Rattle.std.specs.{Prelude.{◌≡◌, ℕ, List, [], ◌∷◌, ◌++◌, Option, Some, None, Result, Ok, Err}, List.fold}
use Rattle.item_terms.specs.{Items.{Item, Contents}, declared.fault.DocFault.DocFault}
use Rattle.frame_terms.specs.declared.document.{Group.Group, Made.{Made, TheVariants.{Passes, Pushes, Opens, Enters}}}
use Rattle.frame_terms.specs.declared.document.{Made.TheVariants.{Leaves, Ends, Stops}, Open.Open, Taken.Taken}
use Rattle.frame_terms.specs.declared.fault.{FrameFault.FrameFault, FrameReason.TheVariants.Missing}
use Rattle.frame_terms.specs.declared.{fault.ReadRefusal.{ReadRefusal, TheVariants.Frame}, keyword.Keyword.Keyword}
use Rattle.frame_terms.specs.{Decisions.made_by, Order.{following_sections, first_of, must_open}, Refusals.refusal_at}
use Rattle.frame_terms.specs.{Refusals.{of_doc, Fails}, Sections.lacking_keyword, Tables.Tables}

-- the sections in order of their ends, and the place after the document
pub record Document (S V : Type 0) : Type 0 where
  pub groups : List (Group S V)
  pub used : ℕ

module _ {S V : Type 0} where
  -- a section with its items
  abbrev pub group : S → List (Taken V) → Group S V
  group section taken = record { section = section; taken = taken }

  -- a section in front of those that follow
  abbrev pub onto : Group S V → Result (Document S V) ReadRefusal → Result (Document S V) ReadRefusal
  onto group (Ok document) = Ok (record { groups = group ∷ document.groups; used = document.used })
  onto group (Err refusal) = Err refusal

module _ {S V : Type 0} where
  -- ---- what is open after an item

  -- an item of the section
  abbrev pub with_one : Taken V → Open S V → Open S V
  with_one one open_ = record open_ { taken = open_.taken ++ one ∷ [] }

  -- the first item of the next section
  abbrev pub with_next : S → Taken V → Open S V → Open S V
  with_next next one open_ = record open_ { section = next; taken = one ∷ [] }

  -- the first item of a section inside this one, which is an item of both
  abbrev pub with_inner : S → Taken V → Open S V → Open S V
  with_inner inner one open_ =
      record open_ { section = inner; taken = one ∷ []; around = Some (group open_.section (open_.taken ++ one ∷ [])) }

  -- the last item of a section, which gives way to the one around it
  abbrev pub without_inner : Option (Group S V) → Open S V → Open S V
  without_inner None open_ = record open_ { taken = []; around = None }
  without_inner (Some group) open_ = record open_ { section = group.section; taken = group.taken; around = None }

  -- ---- an item after the other

  -- the document from an item on, by what the item makes and what more there is after it
  abbrev pub go_on : Made S V → Open S V → Item → (Open S V → Result (Document S V) ReadRefusal)
      → Result (Document S V) ReadRefusal
  go_on Passes open_ item more = more open_
  go_on (Pushes one) open_ item more = more (with_one one open_)
  go_on (Opens next one) open_ item more = onto (group open_.section open_.taken) (more (with_next next one open_))
  go_on (Enters inner one) open_ item more = more (with_inner inner one open_)
  go_on (Leaves one) open_ item more =
      onto (group open_.section (open_.taken ++ one ∷ [])) (more (without_inner open_.around open_))
  go_on (Ends one) open_ item more =
      Ok (record { groups = group open_.section (open_.taken ++ one ∷ []) ∷ []; used = item.after })
  go_on Stops open_ item more = Ok (record { groups = group open_.section open_.taken ∷ []; used = item.place })

  -- the last section, unless something is missing at the input's end
  abbrev pub closed_at : ℕ → Open S V → Option Keyword → Result (Document S V) ReadRefusal
  closed_at length open_ (Some keyword) = Err (refusal_at length (Missing keyword))
  closed_at length open_ None = Ok (record { groups = group open_.section open_.taken ∷ []; used = length })

module _ {S V X : Type 0} where
  -- the document from an item on that makes this, unless it may not stand, by what more there is after what is
  -- remembered and open then
  abbrev pub after_noted : Result X FrameFault → Made S V → Open S V → Item
      → (X → Open S V → Result (Document S V) ReadRefusal) → Result (Document S V) ReadRefusal
  after_noted (Err fault) made open_ item more = Err (Frame fault)
  after_noted (Ok across) made open_ item more = go_on made open_ item (λ next. more across next)

module _ {S K V X : Type 0} where
  -- what is remembered with an item that makes this, or why it may not stand
  abbrev pub note_of_made : Tables S K V X → Made S V → X → Result X FrameFault
  note_of_made tables Passes across = Ok across
  note_of_made tables (Pushes one) across = tables.note across one
  note_of_made tables (Opens next one) across = tables.note across one
  note_of_made tables (Enters inner one) across = tables.note across one
  note_of_made tables (Leaves one) across = tables.note across one
  note_of_made tables (Ends one) across = tables.note across one
  note_of_made tables Stops across = Ok across

  -- the document from an item on, unless it is refused
  abbrev pub after_made : Tables S K V X → Result (Made S V) ReadRefusal → X → Open S V → Item
      → (X → Open S V → Result (Document S V) ReadRefusal) → Result (Document S V) ReadRefusal
  after_made tables (Err refusal) across open_ item more = Err refusal
  after_made tables (Ok made) across open_ item more =
      after_noted (note_of_made tables made across) made open_ item more

  -- ---- where the input ends

  -- what is missing where the input ends in a section
  abbrev pub missing_at_end : Tables S K V X → S → List (Taken V) → Option Keyword
  missing_at_end tables section taken =
      first_of (lacking_keyword (tables.rows section) taken) (must_open tables (following_sections tables section))

  -- what is left of the document after its last item, and the fault that stands there
  abbrev pub at_end : Tables S K V X → ℕ → Open S V → Option DocFault → Result (Document S V) ReadRefusal
  at_end tables length open_ (Some fault) = Err (of_doc fault)
  at_end tables length open_ None = closed_at length open_ (missing_at_end tables open_.section open_.taken)

  -- ---- the document

  -- the document from what is remembered and open on that these items make, or the first fault
  unfoldable pub read_items : Tables S K V X → ℕ → X → Open S V → Option DocFault → List Item
      → Result (Document S V) ReadRefusal
  read_items tables length across open_ fault [] = at_end tables length open_ fault
  read_items tables length across open_ fault (item ∷ items) =
      after_made tables (made_by tables across open_ item) across open_ item
      (λ remembered next. read_items tables length remembered next fault items)

  -- nothing of a document yet
  abbrev pub start : Tables S K V X → Open S V
  start tables = record { section = tables.first; taken = []; around = None }

  -- the document that the contents of an input of so many bytes make
  abbrev pub document_of : Tables S K V X → ℕ → Contents → Result (Document S V) ReadRefusal
  document_of tables length contents =
      read_items tables length tables.start (start tables) contents.fault contents.items

-- ---- what a reader keeps

module _ {S V F : Type 0} where
  -- what is kept of the sections, one after the other, and the place after the document
  abbrev pub finish : (F → S → List (Taken V) → F) → F → Result (Document S V) ReadRefusal → Result (F × ℕ) ReadRefusal
  finish with_ facts (Ok document) =
      Ok (fold (λ kept (group : Group S V). with_ kept group.section group.taken) facts document.groups, document.used)
  finish with_ facts (Err refusal) = Err refusal

module _ {S K V X F : Type 0} where
  -- what a reader keeps of a document, and the place after it; or the first fault
  abbrev pub Folds : (F → S → List (Taken V) → F) → Tables S K V X → ℕ → Contents → F → F → Result ℕ ReadRefusal
      → Type 0
  Folds with_ tables length old facts kept (Ok used) =
      finish with_ facts (document_of tables length old) ≡ Ok (kept, used)
  Folds with_ tables length old facts kept (Err refusal) =
      Fails refusal (finish with_ facts (document_of tables length old))
