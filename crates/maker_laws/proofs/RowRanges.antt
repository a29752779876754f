-- The bandwidth of each relay line of a bandwidth file has 32 bits.
use Rattle.std.proofs.Common.{◌≡◌, ℕ, ◌≤◌, Bool, true, false, List, [], ◌∷◌, ◌++◌, Option, Some, None, refl}
use Rattle.std.{proofs.{Common.if◌then◌else◌, lemmas.List.Elements.{All-cons, All-nil}}, specs.Prelude.{◌==◌, All}}
use Rattle.std.specs.{Prelude.IfSome, List.{cons_option, list_any}}
use Rattle.item_terms.specs.{Lines.Line, Words.is_blank_line}
use Rattle.dir_bytes.specs.Fields.{number}
use Rattle.dir_values.specs.{Arguments.Argument, Numbers.number_of, declared.digest.Fingerprint.Fingerprint}
use Rattle.bandwidth_file.specs.declared.{refusal.BandFault.BandFault, said.{Row.Row, Said.Said}}
use Rattle.bandwidth_file.specs.{declared.section.Section.Section, Gathered.gathered_behind, Lines.{at, bw, last_value}}
use Rattle.bandwidth_file.specs.{Lines.{line_fault, node_id, place_of, vote}, Relays.{identity_in, is_no_vote}}
use Rattle.bandwidth_file.specs.{Relays.{relay_line, relay_said, row_said}, Files.{filled_line, is_separator}}
use Rattle.bandwidth_file.specs.Files.{names_relay, row_in, rows_of, said_by, said_if, section_of, time_said}
use Rattle.bandwidth_file.specs.declared.refusal.BandReason.TheVariants as reason
use Rattle.bandwidth_file.specs.declared.said.Said.TheVariants as said
use Rattle.bandwidth_file.specs.declared.section.Section.TheVariants as section
use Rattle.row_laws.proofs.ReadSteps.{number_within}

-- a bandwidth of 32 bits
abbrev pub IsKb : ℕ → Type 0
IsKb kb = kb ≤ 4294967295

-- a row with one
abbrev pub IsRow : Row → Type 0
IsRow row = IsKb row.bandwidth

-- the row that a line says, if it says one, is such
abbrev SaysRow : Said → Type 0
SaysRow what = IfSome (row_in what) IsRow

row_is : (node band : Argument) (identity : Option Fingerprint) (text : List ℕ) (bandwidth : Option ℕ)
    → number_of text ≡ bandwidth → SaysRow (row_said node band identity bandwidth)
row_is node band (Some identity) text (Some kb) is = number_within 4294967295 text kb is
row_is node band None text (Some kb) is = tt
row_is node band (Some identity) text None is = tt
row_is node band None text None is = tt

voted_is : (no_vote : Bool) (node band : Argument)
    → SaysRow (if no_vote then said.Nothing else row_said node band (identity_in node.text) (number_of band.text))
voted_is true node band = tt
voted_is false node band = row_is node band (identity_in node.text) band.text (number_of band.text) refl

relay_is : (node band voted : Option Argument) → SaysRow (relay_said node band voted)
relay_is None band voted = tt
relay_is (Some node) None voted = tt
relay_is (Some node) (Some band) voted = voted_is (is_no_vote voted) node band

line_is : (place : ℕ) (text : List ℕ) → SaysRow (relay_line place text)
line_is place text = relay_is (last_value node_id place text) (last_value bw place text) (last_value vote place text)

header_is : (separates names keyed : Bool) (place : ℕ) (what : Said) → SaysRow what
    → SaysRow (if separates then said.Nothing else if names then what
    else if keyed then said.Header else said.Wrong (at place reason.Header))
header_is true names keyed place what is = tt
header_is false true keyed place what is = is
header_is false false true place what is = tt
header_is false false false place what is = tt

time_is : (place : ℕ) (time : Option ℕ) → SaysRow (time_said place time)
time_is place None = tt
time_is place (Some time) = tt

filled_is : (here : Section) (place : ℕ) (text : List ℕ) → SaysRow (filled_line here place text)
filled_is section.Time place text = time_is place (number 18446744073709551615 text)
filled_is section.Headers place text =
    header_is (is_separator text) (names_relay text) (list_any (λ byte. byte == 61) text) place (relay_line place text)
    (line_is place text)
filled_is section.Relays place text = line_is place text

blank_is : (blank : Bool) (what : Said) → SaysRow what → SaysRow (if blank then said.Nothing else what)
blank_is true what is = tt
blank_is false what is = is

said_is : (fault : Option BandFault) (here : Section) (place : ℕ) (text : List ℕ)
    → SaysRow (said_if fault here place text)
said_is (Some fault) here place text = tt
said_is None here place text = blank_is (is_blank_line text) (filled_line here place text) (filled_is here place text)

-- rows with one more in front, where there is one
row_if_first : (row : Option Row) (rows : List Row) → IfSome row IsRow → All IsRow rows
    → All IsRow (cons_option row rows)
row_if_first None rows is all = all
row_if_first (Some row) rows is all = All-cons IsRow row rows is all

-- the row of a line behind others
abbrev row_behind : List Line → Line → Option Row
row_behind before line = row_in (said_by before line)

rows_behind : (before rest : List Line) → All IsRow (gathered_behind row_behind before rest)
rows_behind before [] = All-nil IsRow
rows_behind before (line ∷ rest) =
    row_if_first (row_behind before line) (gathered_behind row_behind (before ++ line ∷ []) rest)
    (said_is (line_fault (place_of before) line) (section_of before) (place_of before) line.text)
    (rows_behind (before ++ line ∷ []) rest)

pub rows_are : (file : List Line) → All IsRow (rows_of file)
rows_are file = rows_behind [] file
