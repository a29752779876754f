-- The lines of a bandwidth file: their places, what is wrong with them whatever stands in them, and their items.
use Rattle.std.specs.Prelude.{ℕ, ◌+◌, nat_lt, List, [], ◌∷◌, length, Option, Some, None, if◌then◌else◌, codes}
use Rattle.std.specs.Option.{option_map, option_or}
use Rattle.item_terms.specs.{Lines.{Line, size}, Words.{nul_in, strip}}
use Rattle.dir_values.specs.Arguments.{Argument, arguments_at}
use Rattle.bandwidth_file.specs.declared.refusal.BandReason.{BandReason, TheVariants.{Nul, Unterminated, LineTooLong}}
use Rattle.bandwidth_file.specs.declared.refusal.BandFault.{BandFault}

-- the bytes that a line may have, with its NL
abbrev pub max_line : ℕ
max_line = 1048576

-- the fault with this place and reason
abbrev pub at : ℕ → BandReason → BandFault
at place reason = record { place = place; reason = reason }

-- where the line behind some lines begins
abbrev pub place_of : List Line → ℕ
place_of [] = 0
place_of (line ∷ rest) = size line + place_of rest

-- a line of more bytes than it may have
abbrev pub too_long : ℕ → Line → Option BandFault
too_long place line = if nat_lt max_line (size line) then Some (at (place + max_line) LineTooLong) else None

-- a line without its NL: the input ends there
abbrev pub unterminated_fault : ℕ → Line → Option BandFault
unterminated_fault place line = if line.ended then None else Some (at (place + length line.text) Unterminated)

-- the first fault of a line at a place, whatever stands in it
abbrev pub line_fault : ℕ → Line → Option BandFault
line_fault place line =
    option_or (too_long place line)
    (option_or (unterminated_fault place line) (option_map (λ offset. at (place + offset) Nul) (nul_in line.text)))

-- ---- items `key=value`, with blanks between them

-- what an item says behind a key and its `=`, if it has that key
abbrev pub value_with : List ℕ → Argument → Option Argument
value_with key item = option_map (λ text. record { place = item.place + length key; text = text }) (strip key item.text)

-- the last value that items have of a key: one of the later items, if one of them has it, else that of the first
abbrev pub last_of : List ℕ → List Argument → Option Argument
last_of key [] = None
last_of key (item ∷ rest) = option_or (last_of key rest) (value_with key item)

-- the last value that a line at a place has of a key
abbrev pub last_value : List ℕ → ℕ → List ℕ → Option Argument
last_value key place text = last_of key (arguments_at place text)

-- `node_id=`, before a relay's identity
abbrev pub node_id : List ℕ
node_id = codes "node_id="

-- `bw=`, before its bandwidth
abbrev pub bw : List ℕ
bw = codes "bw="

-- `vote=`, before whether it is to be voted on
abbrev pub vote : List ℕ
vote = codes "vote="
