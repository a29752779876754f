-- What reading documents answers.
use Rattle.std.specs.Prelude.{◌≡◌, ℕ, ◌+◌, ◌<◌, ◌≤◌, List, drop, length, Result, Ok, Err}
use Rattle.frame_terms.specs.{declared.fault.{FrameFault.FrameFault, ReadRefusal.ReadRefusal}, Refusals.Fails}
use Rattle.frame_terms.specs.declared.fault.ReadRefusal.TheVariants as read
use Rattle.blank_lines.specs.Behind.{fault_behind}
use Rattle.mirror_core.specs.Inputs.{FailsWith}

-- the place of a refusal, if it tells one, is within so many bytes
abbrev pub IsWithin : ℕ → ReadRefusal → Type 0
IsWithin n (read.Frame fault) = fault.place ≤ n
IsWithin n read.Memory = Unit {0}

module _ {X : Type 0} (document_of : List ℕ → Result (X × ℕ) ReadRefusal) where
  -- the document that the bytes begin with, which has a byte and is within them; or the first fault, or want of memory
  abbrev pub ReadsOne : List ℕ → Result (X × ℕ) ReadRefusal → Type 0
  ReadsOne bytes (Ok (document, used)) =
      (document_of bytes ≡ Ok (document, used)) × (0 < used) × (used ≤ length bytes)
  ReadsOne bytes (Err refusal) = Fails refusal (document_of bytes)

  -- a document stands there and ends at the next place
  pub record IsThere (bytes : List ℕ) (place : ℕ) (document : X) (next : ℕ) : Type 0 where
    pub used : ℕ
    pub reads : document_of (drop place bytes) ≡ Ok (document, used)
    pub next_is : next ≡ place + used
    pub further : place < next
    pub within : next ≤ length bytes

  -- a fault stands there
  abbrev pub FaultAt : List ℕ → ℕ → ReadRefusal → Type 0
  FaultAt bytes place (read.Frame fault) =
      (found : FrameFault) × (document_of (drop place bytes) ≡ Err (read.Frame found)) × (fault ≡ fault_behind place found)
  FaultAt bytes place read.Memory = Unit {0}

  -- what reading from a place on answers
  abbrev pub ReadsAt : List ℕ → ℕ → Result (X × ℕ) ReadRefusal → Type 0
  ReadsAt bytes place (Ok (document, next)) = IsThere bytes place document next
  ReadsAt bytes place (Err refusal) = FaultAt bytes place refusal

  -- what a refusal of an input says
  abbrev pub RefusesAll : List ℕ → ReadRefusal → Type 0
  RefusesAll bytes (read.Frame fault) = FailsWith document_of bytes fault
  RefusesAll bytes read.Memory = Unit {0}
