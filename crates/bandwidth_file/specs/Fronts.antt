-- A bandwidth file in front of other input: the lines up to the first one that ends it.
use Rattle.std.specs.Prelude.{◌≡◌, ℕ, ◌+◌, ◌&&◌, not, Bool, List, length, take, codes, slice_get, Option, Some, None}
use Rattle.std.specs.{Prelude.if◌then◌else◌, List.{list_any, take_while}, Option.option_or, Str.bytes_eq}
use Rattle.item_terms.specs.Lines.{Line, lines}
use Rattle.bandwidth_file.specs.{Files.{IsBandFile, faults_of, first_fault}, Lines.{at, place_of}}
use Rattle.bandwidth_file.specs.declared.{file.BandFile.BandFile, refusal.BandFault.BandFault}
use Rattle.bandwidth_file.specs.declared.refusal.BandReason.TheVariants.{Unterminated}

-- the text of the line that ends a bandwidth file
abbrev pub is_end_text : List ℕ → Bool
is_end_text text = bytes_eq text (codes "end-bandwidth-file")

-- that line, with its NL
abbrev pub is_end : Line → Bool
is_end line = is_end_text line.text && line.ended

-- how many bytes it has
abbrev pub end_size : ℕ
end_size = 19

-- the lines in front of it
abbrev pub lines_before : List Line → List Line
lines_before input = take_while (λ (line : Line). not (is_end line)) input

-- where it begins, if it is among some lines
abbrev pub end_among : List Line → Option ℕ
end_among input = if list_any is_end input then Some (place_of (lines_before input)) else None

-- where it begins in some bytes
abbrev pub end_place : List ℕ → Option ℕ
end_place bytes = end_among (lines bytes)

-- The bytes begin with a bandwidth file, up to the first line that ends it; this is the place behind that line.
pub record IsFront (bytes : List ℕ) (file : BandFile) (used : ℕ) : Type 0 where
  pub place : ℕ
  pub ends : end_place bytes ≡ Some place
  pub file_is : IsBandFile (take place bytes) file
  pub behind : used ≡ place + end_size

-- the first fault of an input in which no line ends the bandwidth file: one of its lines, or else that it goes on; not that there
-- is no line
abbrev pub open_fault : List ℕ → Option BandFault
open_fault bytes = option_or (slice_get (faults_of (lines bytes)) 0) (Some (at (length bytes) Unterminated))

-- the first fault of a bandwidth file that ends at a place, if it ends
abbrev pub fault_before : List ℕ → Option ℕ → Option BandFault
fault_before bytes (Some place) = first_fault (lines (take place bytes))
fault_before bytes None = open_fault bytes

-- the first fault of the bandwidth file that bytes begin with
abbrev pub front_fault : List ℕ → Option BandFault
front_fault bytes = fault_before bytes (end_place bytes)
