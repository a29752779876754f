-- How what is remembered, open and kept of a document changes with an item.
use Rattle.std.specs.Prelude.{◌≡◌, ℕ, List, ◌∷◌, Option, Some, None, Result, Ok, Err}
use Rattle.item_terms.specs.{Items.Item, declared.fault.DocFault.DocFault}
use Rattle.frame_terms.specs.declared.{document.{Made.Made, Open.Open, Taken.Taken}, fault.ReadRefusal.ReadRefusal}
use Rattle.frame_terms.specs.{declared.row.Row.Row, Documents.{Document, after_made, at_end, read_items, finish}}
use Rattle.frame_terms.specs.{Refusals.Fails, Sections.accept, Tables.Tables}
use Rattle.frame_reader.specs.Giving.{given_result}

module _ {S K V X : Type 0} where
  -- what is remembered with an item that was read, or why it may not stand
  abbrev pub noted_item : Tables S K V X → X → Result (Taken V) ReadRefusal → Result X ReadRefusal
  noted_item tables across (Err refusal) = Err refusal
  noted_item tables across (Ok one) = given_result (tables.note across one)

  -- an item of this row is read and remembered, or a fault told, unless there is no memory
  abbrev pub Takes : Tables S K V X → Row K → List (Taken V) → Item → X → X → Result (Taken V) ReadRefusal → Type 0
  Takes tables row taken item old new (Ok one) =
      (accept tables old row taken item ≡ Ok one) × (tables.note old one ≡ Ok new)
  Takes tables row taken item old new (Err refusal) = Fails refusal (noted_item tables old (accept tables old row taken item))

  -- an item that makes this is taken, whatever follows it, or a fault told, unless there is no memory
  abbrev pub Continues : Tables S K V X → Result (Made S V) ReadRefusal → Item → X → Open S V → X → Open S V
      → Result (Unit {0}) ReadRefusal → Type 0
  Continues tables made item across old remembered new (Ok _) =
      (more : X → Open S V → Result (Document S V) ReadRefusal)
      → after_made tables made across old item more ≡ more remembered new
  Continues tables made item across old remembered new (Err refusal) =
      (more : X → Open S V → Result (Document S V) ReadRefusal)
      → Fails refusal (after_made tables made across old item more)

module _ {S K V X F : Type 0} where
  -- the same of one with which a section ends, of which something is kept
  abbrev pub Goes : (F → S → List (Taken V) → F) → Tables S K V X → Result (Made S V) ReadRefusal → Item → X → Open S V
      → F → X → Open S V → F → Result (Unit {0}) ReadRefusal → Type 0
  Goes with_ tables made item across old facts remembered new kept (Ok _) =
      (more : X → Open S V → Result (Document S V) ReadRefusal)
      → finish with_ facts (after_made tables made across old item more) ≡ finish with_ kept (more remembered new)
  Goes with_ tables made item across old facts remembered new kept (Err refusal) =
      (more : X → Open S V → Result (Document S V) ReadRefusal)
      → Fails refusal (after_made tables made across old item more)

  -- the same of one with which the document ends, at a place
  abbrev pub Ends : (F → S → List (Taken V) → F) → Tables S K V X → Result (Made S V) ReadRefusal → Item → X → Open S V
      → F → F → Result ℕ ReadRefusal → Type 0
  Ends with_ tables made item across old facts kept (Ok used) =
      (more : X → Open S V → Result (Document S V) ReadRefusal)
      → finish with_ facts (after_made tables made across old item more) ≡ Ok (kept, used)
  Ends with_ tables made item across old facts kept (Err refusal) =
      (more : X → Open S V → Result (Document S V) ReadRefusal)
      → Fails refusal (after_made tables made across old item more)

module _ {S K V X F : Type 0} where
  -- an item is taken, whatever items and fault follow it
  abbrev pub Turns : (F → S → List (Taken V) → F) → Tables S K V X → Item → X → Open S V → F → X → Open S V → F
      → Result (Option ℕ) ReadRefusal → Type 0
  Turns with_ tables item across old facts remembered new kept (Ok None) =
      (length : ℕ) (fault : Option DocFault) (items : List Item)
      → finish with_ facts (read_items tables length across old fault (item ∷ items)) ≡ finish with_ kept
      (read_items tables length remembered new fault items)
  Turns with_ tables item across old facts remembered new kept (Ok (Some used)) =
      (length : ℕ) (fault : Option DocFault) (items : List Item)
      → finish with_ facts (read_items tables length across old fault (item ∷ items)) ≡ Ok (kept, used)
  Turns with_ tables item across old facts remembered new kept (Err refusal) =
      (length : ℕ) (fault : Option DocFault) (items : List Item)
      → Fails refusal (finish with_ facts (read_items tables length across old fault (item ∷ items)))

module _ {S K V X F : Type 0} where
  -- the document ends behind its last item, at the end of an input of so many bytes
  abbrev pub Closes : (F → S → List (Taken V) → F) → Tables S K V X → ℕ → Open S V → F → F → Result ℕ ReadRefusal → Type 0
  Closes with_ tables length open_ facts kept (Ok used) = finish with_ facts (at_end tables length open_ None) ≡ Ok (kept, used)
  Closes with_ tables length open_ facts kept (Err refusal) = Fails refusal (finish with_ facts (at_end tables length open_ None))
