-- Ranges of ports and summaries of ports: what their texts spell, how they are written, and which ports they accept
-- (dir-spec, "Server descriptor format", the `p` line and `ipv6-policy`).
use Rattle.std.specs.Prelude.{◌≡◌, IsTrue, ℕ, ◌+◌, ◌==◌, nat_le, Bool, true, false, not, ◌&&◌, List, [], ◌∷◌, ◌++◌}
use Rattle.std.specs.Prelude.{length, map, codes, Option, Some, None, option_and_then, Result, Ok, Err, if◌then◌else◌}
use Rattle.std.specs.{Prelude.decimal, Option.option_map, List.{list_any, before_first, after_first, slice_split}}
use Rattle.std.specs.Str.{bytes_eq}
use Rattle.item_terms.specs.Bytes.{space, comma, hyphen}
use Rattle.dir_values.specs.{Arguments.{Argument, arguments_at}, Numbers.port_of}
use Rattle.dir_values.specs.declared.{port_range.PortRange.PortRange, refusal.ValueRefusal.ValueRefusal}
use Rattle.dir_values.specs.declared.refusal.ValueRefusal.TheVariants.{BadValue}

-- which ports are accepted: those of some ranges, or all others
pub record Ports : Type 0 where
  pub accept : Bool
  pub ranges : List PortRange

-- whether a range has a port
abbrev pub in_range : PortRange → ℕ → Bool
in_range range port = nat_le range.low port && nat_le port range.high

-- whether one of some ranges has a port
abbrev pub in_ranges : List PortRange → ℕ → Bool
in_ranges ranges port = list_any (λ range. in_range range port) ranges

-- whether a port is accepted
abbrev pub accepts : Ports → ℕ → Bool
accepts ports port = if ports.accept then in_ranges ports.ranges port else not (in_ranges ports.ranges port)

-- ---- ranges that are apart

-- the greatest port
abbrev pub last_port : ℕ
last_port = 65535

-- whether ranges of ports from this one on ascend, and none begins right after another one ends
abbrev pub are_apart : ℕ → List PortRange → Bool
are_apart next [] = true
are_apart next (range ∷ rest) =
    nat_le next range.low
    && (nat_le range.low range.high && (nat_le range.high last_port && are_apart (range.high + 2) rest))

-- whether there is a range, and all are ranges of the ports 1 to 65535 that are apart
abbrev pub are_ranges : List PortRange → Bool
are_ranges ranges = nat_le 1 (length ranges) && are_apart 1 ranges

-- the ranges, if they are apart
abbrev pub if_apart : List PortRange → Option (List PortRange)
if_apart ranges = if are_apart 1 ranges then Some ranges else None

-- ---- what a text spells

-- the port, if it is one that can be listed: there is no port 0
abbrev pub unless_zero : ℕ → Option ℕ
unless_zero port = if port == 0 then None else Some port

-- the port from 1 on that digits spell
unfoldable pub listed_port : List ℕ → Option ℕ
listed_port text = option_and_then unless_zero (port_of text)

-- the range from a port to one that does not come before it
abbrev pub range_between : Option ℕ → Option ℕ → Option PortRange
range_between (Some low) (Some high) = if nat_le low high then Some (record { low = low; high = high }) else None
range_between _ _ = None

-- a hyphen stands between the two ports of a range
abbrev pub is_hyphen : ℕ → Bool
is_hyphen byte = byte == hyphen

-- a comma stands between two ranges
abbrev pub is_comma : ℕ → Bool
is_comma byte = byte == comma

-- the range that `low-high` or one port spells
unfoldable pub range_of : List ℕ → Option PortRange
range_of text =
    if list_any is_hyphen text
    then range_between (listed_port (before_first is_hyphen text)) (listed_port (after_first is_hyphen text))
    else range_between (listed_port text) (listed_port text)

-- the ranges, if each is there
abbrev pub all_of : List (Option PortRange) → Option (List PortRange)
all_of [] = Some []
all_of (None ∷ rest) = None
all_of (Some range ∷ rest) = option_map (λ ranges. range ∷ ranges) (all_of rest)

-- the ranges that the parts of a text between its commas spell, if each spells one, and they ascend and are apart
abbrev pub range_list : List ℕ → Option (List PortRange)
range_list text = option_and_then if_apart (all_of (map range_of (slice_split is_comma text)))

-- whether the word says that the ports are accepted, if it is one that says what is done with them
abbrev pub accept_of : List ℕ → Option Bool
accept_of word =
    if bytes_eq word (codes "accept") then Some true
    else if bytes_eq word (codes "reject") then Some false
    else None

-- what a word and a list of ranges at some place say
abbrev pub ports_from : Bool → ℕ → Option (List PortRange) → Result Ports ValueRefusal
ports_from accept place None = Err (BadValue place)
ports_from accept place (Some ranges) = Ok (record { accept = accept; ranges = ranges })

-- the same of the arguments from the list on; a list that is missing is wrong where the text ends
abbrev pub ports_with : Bool → ℕ → List Argument → Result Ports ValueRefusal
ports_with accept end_ [] = Err (BadValue end_)
ports_with accept end_ (list ∷ rest) = ports_from accept list.place (range_list list.text)

-- the same, once it is known what the word says
abbrev pub ports_after : Argument → ℕ → List Argument → Option Bool → Result Ports ValueRefusal
ports_after word end_ rest None = Err (BadValue word.place)
ports_after word end_ rest (Some accept) = ports_with accept end_ rest

-- the ports that the arguments of a text spell, which ends at this place
abbrev pub ports_in : ℕ → List Argument → Result Ports ValueRefusal
ports_in end_ [] = Err (BadValue end_)
ports_in end_ (word ∷ rest) = ports_after word end_ rest (accept_of word.text)

-- the ports that a text spells: `accept` or `reject`, and a list of ranges. More arguments are ignored
abbrev pub port_summary : List ℕ → Result Ports ValueRefusal
port_summary text = ports_in (length text) (arguments_at 0 text)

-- ---- how they are written

-- a range as `low-high`, or as its one port
unfoldable pub range_text : PortRange → List ℕ
range_text range =
    if range.low == range.high then decimal range.low else decimal range.low ++ hyphen ∷ decimal range.high

-- ranges, each behind a byte: the first behind this one, the others behind a comma
abbrev pub entries_text : ℕ → List PortRange → List ℕ
entries_text separator [] = []
entries_text separator (range ∷ rest) = separator ∷ (range_text range ++ entries_text comma rest)

-- the word that says what is done with the ports
abbrev pub word_text : Bool → List ℕ
word_text accept = if accept then codes "accept" else codes "reject"

-- ports as `accept` or `reject`, a space, and ranges with commas between them
abbrev pub summary_text : Ports → List ℕ
summary_text ports = word_text ports.accept ++ entries_text space ports.ranges

-- What is written of ranges that are apart is read as they are.
abbrev pub PortsAreReadAgain : Type 0
PortsAreReadAgain = (ports : Ports) → IsTrue (are_ranges ports.ranges) → port_summary (summary_text ports) ≡ Ok ports
