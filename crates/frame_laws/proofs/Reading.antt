-- A document goes on after items that may stand.
use Rattle.std.proofs.Common.{◌≡◌, ℕ, List, [], ◌∷◌, ◌++◌, Option, Result, Ok, sym, ap, ◌∙◌, append_assoc, append-nil}
use Rattle.std.specs.Prelude.{map}
use Rattle.item_terms.specs.{Items.Item, declared.fault.DocFault.DocFault}
use Rattle.dirdoc_grammar.specs.Writing.{written, all_written}
use Rattle.frame_terms.specs.{Decisions.made_by, Documents.{Document, after_made, after_noted, go_on, note_of_made}}
use Rattle.frame_terms.specs.{Documents.read_items, Tables.Tables, declared.document.{Group.Group, Made.Made}}
use Rattle.frame_terms.specs.declared.document.{Made.TheVariants.Pushes, Open.Open, Taken.Taken}
use Rattle.frame_terms.specs.declared.fault.{FrameFault.FrameFault, ReadRefusal.ReadRefusal}
use Rattle.frame_laws.proofs.{Entries.{Entry, after_one, all_taken, item_of, taken_at}, Remembered.Notes, Steps.opening}

module _ {S K V X : Type 0} where
  -- the document goes on after an item that makes this, and may stand
  pub read_on : (tables : Tables S K V X) (length : ℕ) (across next : X) (open_ : Open S V) (fault : Option DocFault)
      (item : Item)
      (items : List Item) (made : Made S V) → made_by tables across open_ item ≡ Ok made
      → note_of_made tables made across ≡ Ok next
      → read_items tables length across open_ fault (item ∷ items)
      ≡ go_on made open_ item (λ after. read_items tables length next after fault items)
  unfolding read_items
  read_on tables length across next open_ fault item items made h stands_ =
      let more : X → Open S V → Result (Document S V) ReadRefusal =
      λ remembered after. read_items tables length remembered after fault items in
      ap (λ (m : Result (Made S V) ReadRefusal). after_made tables m across open_ item more) h
      ∙ ap (λ (n : Result X FrameFault). after_noted n made open_ item more) stands_

  -- each of these items is one more of the section, whatever is remembered
  abbrev pub AreMore : Tables S K V X → S → Taken V → List (Taken V) → Option (Group S V) → ℕ → List (Entry V)
      → Type 0
  AreMore tables section first taken around place [] = Unit {0}
  AreMore tables section first taken around place (entry ∷ entries) =
      ((across : X)
      → made_by tables across (opening section (first ∷ taken) around) (written place (item_of entry))
      ≡ Ok (Pushes (taken_at place entry)))
      × AreMore tables section first (taken ++ taken_at place entry ∷ []) around (after_one place entry) entries

  -- the document goes on after these items with them in the section
  pub takes_more : (tables : Tables S K V X) (length : ℕ) (across after : X) (section : S) (first : Taken V)
      (taken : List (Taken V))
      (around : Option (Group S V)) (fault : Option DocFault) (place : ℕ) (entries : List (Entry V))
      (items : List Item)
      → Notes tables across (all_taken place entries) after → AreMore tables section first taken around place entries
      → read_items tables length across (opening section (first ∷ taken) around) fault
      (all_written place (map item_of entries) ++ items)
      ≡ read_items tables length after (opening section (first ∷ (taken ++ all_taken place entries)) around) fault
      items
  takes_more tables length across after section first taken around fault place [] items notes more =
      ap (λ (x : X). read_items tables length x (opening section (first ∷ taken) around) fault items) notes
      ∙ ap (λ (l : List (Taken V)). read_items tables length after (opening section (first ∷ l) around) fault items)
      (sym (append-nil taken))
  takes_more tables length across after section first taken around fault place (entry ∷ entries) items notes more =
      let one = taken_at place entry in
      let next = after_one place entry in
      read_on tables length across notes.0 (opening section (first ∷ taken) around) fault
      (written place (item_of entry))
      (all_written next (map item_of entries) ++ items) (Pushes one) (more.0 across) notes.1
      ∙ takes_more tables length notes.0 after section first
      (taken ++ one ∷ []) around fault next entries items notes.2 more.1
      ∙ ap (λ (l : List (Taken V)). read_items tables length after (opening section (first ∷ l) around) fault items)
      (append_assoc taken (one ∷ []) (all_taken next entries))
