-- What the private functions of this crate return.
use Rattle.std.specs.Prelude.{◌≡◌, ◌≤◌, List, ℕ, Some, Result, Ok, Err}
use Rattle.item_terms.specs.Lines.{lines}
use Rattle.bandwidth_file.specs.{Files.{IsBandFile, first_fault}, declared.file.BandFile.BandFile}
use Rattle.bandwidth_file.specs.declared.refusal.BandFault.{BandFault}
use Rattle.daemon_words.specs.declared.stop.Stop.{Stop}
use Rattle.daemon_words.specs.declared.stop.Stop.TheVariants as stop
use Rattle.frame_terms.specs.{declared.fault.{FrameFault.FrameFault, ReadRefusal.ReadRefusal}, Refusals.Fails}
use Rattle.document_commands.specs.Ends.{refusal_of}

-- what was read is the document, or the refusal is its fault
abbrev pub ReadsOne : {D : Type 0} → Result D ReadRefusal → Result D ReadRefusal → Type 0
ReadsOne read (Ok document) = read ≡ Ok document
ReadsOne read (Err refusal) = Fails refusal read

-- a document was read, or the refusal is its fault
abbrev pub IsOne : {D : Type 0} → Result D ReadRefusal → Result (Unit {0}) ReadRefusal → Type 0
IsOne {D} read (Ok _) = (document : D) × (read ≡ Ok document)
IsOne read (Err refusal) = Fails refusal read

-- the same of a document and the place after it, which is within so many bytes; a fault is the document's before it is told
abbrev pub ReadsFirst : {D : Type 0} → (FrameFault → FrameFault) → Result (D × ℕ) ReadRefusal → ℕ
    → Result (D × ℕ) ReadRefusal → Type 0
ReadsFirst fault_of read most (Ok (document, used)) = (read ≡ Ok (document, used)) × (used ≤ most)
ReadsFirst fault_of read most (Err refusal) = Fails (refusal_of fault_of refusal) read

-- what was read is the bandwidth file, or the refusal is its first fault
abbrev pub ReadsFile : List ℕ → Result BandFile (Stop BandFault) → Type 0
ReadsFile bytes (Ok file) = IsBandFile bytes file
ReadsFile bytes (Err (stop.Refused fault)) = first_fault (lines bytes) ≡ Some fault
ReadsFile bytes (Err stop.Memory) = Unit {0}
