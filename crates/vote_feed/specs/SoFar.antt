-- How far a document is read whose bytes arrive.
use Rattle.std.specs.Prelude.{◌≡◌, ℕ, false, List, ◌++◌, length, Option, Result, Ok, Err}
use Rattle.item_terms.specs.{Items.{Item, contents, nothing}, declared.fault.DocFault.DocFault}
use Rattle.dirdoc_grammar.specs.{declared.cursor.Cursor.Cursor, Cursors.{IsAt, fed_by}, Feeding.EndsNoEarlier}
use Rattle.dirdoc_grammar.specs.{Feeding.{Settles, left_with}, Writing.in_front}
use Rattle.frame_terms.specs.declared.{document.{Open.Open, Taken.Taken}, fault.ReadRefusal.ReadRefusal}
use Rattle.frame_terms.specs.{Documents.{Document, document_of, finish, read_items}, Tables.Tables}

-- where a document ends, or why it is refused
abbrev pub used_of : {S V : Type 0} → Result (Document S V) ReadRefusal → Result ℕ ReadRefusal
used_of (Ok document) = Ok document.used
used_of (Err refusal) = Err refusal

-- So much is read of a document that these bytes begin: these items, and what they make of what is open and of what is
-- kept of its sections; the others are to come.
pub record SoFar {S K V X F : Type 0} (with_ : F → S → List (Taken V) → F) (none : F) (tables : Tables S K V X)
    (limit : ℕ) (bytes : List ℕ) (cursor : Cursor) (across : X) (open_ : Open S V) (facts : F) : Type 0 where
  pub reads : IsAt bytes cursor
  pub bound : cursor.limit ≡ limit
  pub front : List Item
  pub items : (more : List ℕ)
      → contents limit 0 nothing (bytes ++ more) ≡ in_front front (left_with (fed_by cursor bytes false) more)
  pub made : (n : ℕ) (fault : Option DocFault) (rest : List Item)
      → finish with_ none (document_of tables n (record { items = front ++ rest; fault = fault }))
      ≡ finish with_ facts (read_items tables n across open_ fault rest)

-- So much is read of it, and of the rest nothing is known whatever follows; what comes next ends no earlier than the
-- bytes.
pub record Waits {S K V X F : Type 0} (with_ : F → S → List (Taken V) → F) (none : F) (tables : Tables S K V X)
    (limit : ℕ) (bytes : List ℕ) (cursor : Cursor) (across : X) (open_ : Open S V) (facts : F) : Type 0 where
  pub so_far : SoFar with_ none tables limit bytes cursor across open_ facts
  pub unsettled : (answer : Result (Option Item) DocFault) → Settles (fed_by cursor bytes false) answer → ⊥
  pub later : EndsNoEarlier (length bytes) (fed_by cursor bytes false)
