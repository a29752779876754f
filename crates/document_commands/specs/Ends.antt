-- Where a document ends, and what it has to do with the sections that are read.
use Rattle.std.specs.Prelude.{◌≡◌, ℕ, ◌+◌, ◌-◌, ◌≤◌, List, drop, length, Result, Ok, Err}
use Rattle.item_terms.specs.Items.{items_of}
use Rattle.frame_terms.specs.declared.fault.{FrameFault.FrameFault, ReadRefusal.{ReadRefusal, TheVariants.Frame}}
use Rattle.frame_terms.specs.{declared.fault.ReadRefusal.TheVariants.Memory, Documents.{Document, document_of}}
use Rattle.frame_terms.specs.{Refusals.Fails, Tables.Tables}
use Rattle.blank_lines.specs.Behind.{refusal_behind}

-- a refusal, where faults are told so
abbrev pub refusal_of : (FrameFault → FrameFault) → ReadRefusal → ReadRefusal
refusal_of fault_of (Frame fault) = Frame (fault_of fault)
refusal_of fault_of Memory = Memory

module _ {S V : Type 0} where
  -- what reading items answers of which nothing is kept: the place after the document that they make; or its first fault, or want
  -- of memory
  abbrev pub EndsAs : Result (Document S V) ReadRefusal → Result ℕ ReadRefusal → Type 0
  EndsAs made (Ok used) = (document : Document S V) × (made ≡ Ok document) × (document.used ≡ used)
  EndsAs made (Err refusal) = Fails refusal made

module _ {D : Type 0} where
  -- what reading bytes answers of which nothing is kept: the place after the document that they begin with, which is within them;
  -- or its first fault, or want of memory
  abbrev pub Ends : List ℕ → Result (D × ℕ) ReadRefusal → Result ℕ ReadRefusal → Type 0
  Ends bytes read (Ok end) = (document : D) × (read ≡ Ok (document, end)) × (end ≤ length bytes)
  Ends bytes read (Err refusal) = Fails refusal read

-- the document that tables make of the items behind so many bytes
abbrev pub made_of : {S K V X : Type 0} → Tables S K V X → ℕ → ℕ → List ℕ → Result (Document S V) ReadRefusal
made_of tables n limit bytes = document_of tables (length (drop n bytes)) (items_of (limit - n) (drop n bytes))

module _ {S V D : Type 0} where
  -- What is read comes of the sections that were made behind so many bytes, where faults are told so: a document that ends where
  -- they do, or their fault.
  abbrev pub ComesOf : ℕ → (FrameFault → FrameFault) → Result (Document S V) ReadRefusal → Result (D × ℕ) ReadRefusal → Type 0
  ComesOf n fault_of (Ok document) read = (d : D) × (read ≡ Ok (d, n + document.used))
  ComesOf n fault_of (Err refusal) read = Fails (refusal_of fault_of (refusal_behind n refusal)) read
