-- Bandwidth files as relations over their whole lines: the time of measuring, header lines, relay lines.
use Rattle.std.specs.Prelude.{◌≡◌, ℕ, ◌==◌, ◌&&◌, ◌||◌, not, Bool, List, [], ◌∷◌, Option, Some, None, is_none, is_some}
use Rattle.std.specs.{Prelude.{if◌then◌else◌, codes, slice_get}, List.{filter, list_any, before_first, after_first}}
use Rattle.std.specs.{Option.option_or, Str.bytes_eq}
use Rattle.item_terms.specs.{Lines.{Line, lines}, Words.is_blank_line}
use Rattle.dir_bytes.specs.Fields.{number}
use Rattle.dir_values.specs.declared.digest.Fingerprint.{Fingerprint}
use Rattle.bandwidth_file.specs.declared.{file.{BandFile.BandFile, Header.Header}, refusal.BandFault.BandFault}
use Rattle.bandwidth_file.specs.declared.{said.{Row.Row, Said.Said}, section.Section.Section}
use Rattle.bandwidth_file.specs.{Gathered.gathered_values, Lines.{at, place_of, line_fault, last_value, node_id}}
use Rattle.bandwidth_file.specs.Relays.{relay_line, last_bandwidth, number_of_identities, bandwidth_in, Ascend}
use Rattle.bandwidth_file.specs.declared.refusal.BandReason.TheVariants as reason
use Rattle.bandwidth_file.specs.declared.said.Said.TheVariants as said
use Rattle.bandwidth_file.specs.declared.section.Section.TheVariants as section

-- the identities that a file may have
abbrev pub max_relays : ℕ
max_relays = 65535

-- ---- sections

-- a line with more than blanks; the others are skipped
abbrev pub is_filled : Line → Bool
is_filled line = not (is_blank_line line.text)

-- a line that stands between header and relays
abbrev pub is_separator : List ℕ → Bool
is_separator text = bytes_eq text (codes "=====") || bytes_eq text (codes "====")

-- a line with an item `node_id=`
abbrev pub names_relay : List ℕ → Bool
names_relay text = is_some (last_value node_id 0 text)

-- a line with which the header ends, or before which it ended
abbrev pub ends_header : List ℕ → Bool
ends_header text = is_separator text || names_relay text

-- the section behind some lines with more than blanks: the first is the time, and the header goes on until a line ends
-- it
abbrev pub section_behind : List Line → Section
section_behind [] = section.Time
section_behind (first ∷ rest) =
    if list_any (λ (line : Line). ends_header line.text) rest then section.Relays else section.Headers

-- the section behind some lines
abbrev pub section_of : List Line → Section
section_of before = section_behind (filter is_filled before)

-- ---- what a line says

-- the first line is a number of 64 bits
abbrev pub time_said : ℕ → Option ℕ → Said
time_said place None = said.Wrong (at place reason.Timestamp)
time_said place (Some timestamp) = said.Time timestamp

-- a header line has a `=`
abbrev pub header_said : ℕ → List ℕ → Said
header_said place text = if list_any (λ byte. byte == 61) text then said.Header else said.Wrong (at place reason.Header)

-- the line that ends the header may be a relay line
abbrev pub header_line : ℕ → List ℕ → Said
header_line place text =
    if is_separator text then said.Nothing else if names_relay text then relay_line place text
    else header_said place text

-- a line of a section
abbrev pub filled_line : Section → ℕ → List ℕ → Said
filled_line section.Time place text = time_said place (number 18446744073709551615 text)
filled_line section.Headers place text = header_line place text
filled_line section.Relays place text = relay_line place text

-- a line of a section, unless it is faulty whatever stands in it
abbrev pub said_if : Option BandFault → Section → ℕ → List ℕ → Said
said_if (Some fault) here place text = said.Wrong fault
said_if None here place text = if is_blank_line text then said.Nothing else filled_line here place text

-- what a line says behind others
abbrev pub said_by : List Line → Line → Said
said_by before line = said_if (line_fault (place_of before) line) (section_of before) (place_of before) line.text

-- ---- what a file says

abbrev pub time_in : Said → Option ℕ
time_in (said.Time timestamp) = Some timestamp
time_in said.Nothing = None
time_in said.Header = None
time_in (said.Relay row) = None
time_in (said.Wrong fault) = None

-- what stands before and behind the first `=` of a header line
abbrev pub header_of : List ℕ → Header
header_of text = record { key = before_first (λ byte. byte == 61) text; value = after_first (λ byte. byte == 61) text }

abbrev pub header_in : List ℕ → Said → Option Header
header_in text said.Header = Some (header_of text)
header_in text (said.Time timestamp) = None
header_in text said.Nothing = None
header_in text (said.Relay row) = None
header_in text (said.Wrong fault) = None

abbrev pub row_in : Said → Option Row
row_in (said.Relay row) = Some row
row_in said.Nothing = None
row_in said.Header = None
row_in (said.Time timestamp) = None
row_in (said.Wrong fault) = None

-- the time of measuring
abbrev pub times_of : List Line → List ℕ
times_of file = gathered_values (λ before line. time_in (said_by before line)) file

-- the headers, in their order
abbrev pub headers_of : List Line → List Header
headers_of file = gathered_values (λ before line. header_in line.text (said_by before line)) file

-- the rows of relay lines, in their order
abbrev pub rows_of : List Line → List Row
rows_of file = gathered_values (λ before line. row_in (said_by before line)) file

-- ---- faults

-- a row by which a file has more identities than it may
abbrev pub many_fault : List Row → ℕ → Row → Option BandFault
many_fault rows place row =
    if is_none (last_bandwidth rows row.identity) && (number_of_identities rows == max_relays)
    then Some (at place reason.TooMany) else None

-- what is wrong with a line behind others that have these rows
abbrev pub fault_in : List Row → ℕ → Said → Option BandFault
fault_in rows place (said.Wrong fault) = Some fault
fault_in rows place (said.Relay row) = many_fault rows place row
fault_in rows place said.Nothing = None
fault_in rows place said.Header = None
fault_in rows place (said.Time timestamp) = None

-- what is wrong with a line behind others
abbrev pub fault_of : List Line → Line → Option BandFault
fault_of before line = fault_in (rows_of before) (place_of before) (said_by before line)

-- what is wrong with the lines of a file, in their order
abbrev pub faults_of : List Line → List BandFault
faults_of file = gathered_values fault_of file

-- a file without a line has no time of measuring
abbrev pub end_fault : List Line → Option BandFault
end_fault file =
    if is_none (slice_get (filter is_filled file) 0) then Some (at (place_of file) reason.Timestamp) else None

-- the first fault of a file: that of the first line that has one
abbrev pub first_fault : List Line → Option BandFault
first_fault file = option_or (slice_get (faults_of file) 0) (end_fault file)

-- Bytes are a bandwidth file, with this content: nothing is wrong with a line; the first one is the time of measuring,
-- header lines follow, and of each identity the last relay line counts.
pub record IsBandFile (bytes : List ℕ) (file : BandFile) : Type 0 where
  pub sound : first_fault (lines bytes) ≡ None
  pub timestamp : times_of (lines bytes) ≡ file.timestamp ∷ []
  pub headers : file.headers ≡ headers_of (lines bytes)
  pub ascending : Ascend file.relays
  pub relays : (identity : Fingerprint)
      → bandwidth_in file.relays identity ≡ last_bandwidth (rows_of (lines bytes)) identity
