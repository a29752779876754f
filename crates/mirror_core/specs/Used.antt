-- How many bytes a document has that was read (dir-spec, "Document meta-format").
use Rattle.std.specs.Prelude.{◌≡◌, ℕ, ◌<◌, List, length, Ok}
use Rattle.item_terms.specs.Items.{items_of}
use Rattle.frame_terms.specs.{declared.document.Taken.Taken, Documents.{document_of, finish}, Tables.Tables}

module _ {S K V X F : Type 0} where
  -- Where an input has a byte, a document of these tables that is read of it has one, whatever is kept of the document.
  abbrev pub HasBytes : (F → S → List (Taken V) → F) → Tables S K V X → Type 0
  HasBytes with_ tables = (facts kept : F) (limit : ℕ) (bytes : List ℕ) (used : ℕ) → 0 < length bytes
      → finish with_ facts (document_of tables (length bytes) (items_of limit bytes)) ≡ Ok (kept, used) → 0 < used
