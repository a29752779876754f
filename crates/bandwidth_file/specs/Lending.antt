-- What the private functions of this crate say.
use Rattle.std.specs.Prelude.{◌≡◌, ℕ, ◌==◌, ◌&&◌, Bool, List, [], ◌∷◌, ◌++◌, length, Option, Some, None, is_none}
use Rattle.std.specs.{Prelude.{is_some, unwrap_or, option_to_list, if◌then◌else◌}, Option.option_map}
use Rattle.item_terms.specs.Lines.{Line}
use Rattle.dir_values.specs.{Arguments.Argument, Digests.same_identity, Taking.argument_of}
use Rattle.dir_values.specs.declared.{digest.Fingerprint.Fingerprint, arguments.Argument.Argument as TextAt}
use Rattle.bandwidth_file.specs.declared.{line.LineText.LineText, reading.Reading.Reading, said.{Row.Row, Said.Said}}
use Rattle.bandwidth_file.specs.{declared.section.Section.Section, Relays.{bandwidth_in, last_bandwidth}}
use Rattle.bandwidth_file.specs.{Relays.number_of_identities, Files.{max_relays, ends_header, section_of, time_in}}
use Rattle.bandwidth_file.specs.Files.{header_in, row_in, times_of, headers_of, rows_of, fault_in, faults_of}
use Rattle.bandwidth_file.specs.declared.section.Section.TheVariants as section

-- a line as a contract sees it
abbrev pub line_seen : LineText → Line
line_seen line = record { text = line.text.now; ended = line.ended }

-- an item, if there is one, as a contract sees it
abbrev pub item_seen : Option TextAt → Option Argument
item_seen item = option_map argument_of item

-- the section behind a line with more than blanks
abbrev pub next_section : Section → List ℕ → Section
next_section section.Time text = section.Headers
next_section section.Headers text = if ends_header text then section.Relays else section.Headers
next_section section.Relays text = section.Relays

-- the identity of a row has its bandwidth, and each other what it had
abbrev pub HasRow : List (Fingerprint × ℕ) → Row → List (Fingerprint × ℕ) → Type 0
HasRow old row new =
    (identity : Fingerprint)
    → bandwidth_in new identity
    ≡ (if same_identity row.identity identity then Some row.bandwidth else bandwidth_in old identity)

-- one, where the identity is a new one
abbrev pub one_if_new : List (Fingerprint × ℕ) → Fingerprint → ℕ
one_if_new relays identity = if is_some (bandwidth_in relays identity) then 0 else 1

-- whether there would be too many identities with one more, and this is one more
abbrev pub is_over : List (Fingerprint × ℕ) → Fingerprint → Bool
is_over relays identity = (length relays == max_relays) && is_none (bandwidth_in relays identity)

-- the time that was read, where the first line was
abbrev pub time_if : Section → ℕ → List ℕ
time_if section.Time timestamp = []
time_if section.Headers timestamp = timestamp ∷ []
time_if section.Relays timestamp = timestamp ∷ []

-- identities have the bandwidths that some rows give them
pub record HasRows (rows : List Row) (relays : List (Fingerprint × ℕ)) : Type 0 where
  pub bandwidths : (identity : Fingerprint) → bandwidth_in relays identity ≡ last_bandwidth rows identity
  pub count : length relays ≡ number_of_identities rows

-- What is known once some lines were read: nothing is wrong with them, and what they say.
pub record Holds (before : List Line) (reading : Reading) : Type 0 where
  pub sound : faults_of before ≡ []
  pub section : reading.section ≡ section_of before
  pub times : times_of before ≡ time_if reading.section reading.timestamp
  pub headers : reading.headers.items ≡ headers_of before
  pub relays : HasRows (rows_of before) reading.relays

-- What is kept of what a line says, behind lines that have these rows.
pub record Keeps (rows : List Row) (place : ℕ) (text : List ℕ) (said : Said) (old new : Reading) : Type 0 where
  pub sound : fault_in rows place said ≡ None
  pub section : new.section ≡ old.section
  pub timestamp : new.timestamp ≡ unwrap_or (time_in said) old.timestamp
  pub headers : new.headers.items ≡ old.headers.items ++ option_to_list (header_in text said)
  pub relays : HasRows (rows ++ option_to_list (row_in said)) new.relays
