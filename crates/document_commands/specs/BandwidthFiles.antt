-- What the commands over a bandwidth file answer to an input.
use Rattle.std.specs.Prelude.{◌≡◌, List, ℕ, Some, Result, Ok, Err}
use Rattle.item_terms.specs.Lines.{lines}
use Rattle.bandwidth_file.specs.{Files.{IsBandFile, first_fault}, declared.file.BandFile.BandFile}
use Rattle.bandwidth_file.specs.declared.refusal.BandFault.{BandFault}

-- The input is a bandwidth file, and the text is that of it.
pub record TellsFile (text_of : BandFile → List ℕ) (bytes text : List ℕ) : Type 0 where
  pub file : BandFile
  pub is : IsBandFile bytes file
  pub written : text ≡ text_of file

-- what a command answers that tells something of a bandwidth file: a text, or the first fault
abbrev pub FileAnswers : (BandFile → List ℕ) → List ℕ → Result (List ℕ) BandFault → Type 0
FileAnswers text_of bytes (Ok text) = TellsFile text_of bytes text
FileAnswers text_of bytes (Err fault) = first_fault (lines bytes) ≡ Some fault
