-- How many bytes a document has that a mirror reads.
use Rattle.std.specs.Prelude.{◌≡◌, ℕ, ◌<◌, List, length, Result, Ok}
use Rattle.frame_terms.specs.declared.fault.ReadRefusal.{ReadRefusal}

module _ {X : Type 0} where
  -- a document that is read of some bytes has a byte
  abbrev pub HaveBytes : (List ℕ → Result (X × ℕ) ReadRefusal) → Type 0
  HaveBytes document_of = (bytes : List ℕ) (document : X) (used : ℕ) → 0 < length bytes
      → document_of bytes ≡ Ok (document, used) → 0 < used
