-- What a relay line says, and what relay lines say together.
use Rattle.std.specs.Prelude.{ℕ, min, Bool, false, List, length, drop, reverse, nat_eq, Option, Some, None, is_some}
use Rattle.std.specs.{Prelude.{if◌then◌else◌, codes}, List.{find, starts_with, Sorted.IsStrictlySortedBy}}
use Rattle.std.specs.{Option.option_map, Str.bytes_eq, Map.{lookup, keys_of}, Cmp.Lexicographic.slice_cmp}
use Rattle.std.specs.{Ordering.nat_cmp, declared.cmp.Ordering.Ordering}
use Rattle.dir_values.specs.{Arguments.Argument, Digests.{fingerprint, same_identity}, Numbers.number_of}
use Rattle.dir_values.specs.declared.digest.Fingerprint.{Fingerprint}
use Rattle.bandwidth_file.specs.declared.refusal.BandReason.TheVariants as reason
use Rattle.bandwidth_file.specs.{declared.said.{Row.Row, Said.Said}, Gathered.gathered_values, Lines.{at, last_value}}
use Rattle.bandwidth_file.specs.Lines.{node_id, bw, vote}
use Rattle.bandwidth_file.specs.declared.said.Said.TheVariants as said

-- the text without a `$` in front
abbrev pub without_dollar : List ℕ → List ℕ
without_dollar text = if starts_with nat_eq text (codes "$") then drop 1 text else text

-- the identity that a value spells
abbrev pub identity_in : List ℕ → Option Fingerprint
identity_in text = fingerprint (without_dollar text)

-- whether a relay is not to be voted on
abbrev pub is_no_vote : Option Argument → Bool
is_no_vote None = false
is_no_vote (Some value) = bytes_eq value.text (codes "0")

-- an identity and a bandwidth, where both are spelled; else the earlier value of those that spell none
abbrev pub row_said : Argument → Argument → Option Fingerprint → Option ℕ → Said
row_said node band (Some identity) (Some bandwidth) = said.Relay (record { identity = identity; bandwidth = bandwidth })
row_said node band None (Some bandwidth) = said.Wrong (at node.place reason.Value)
row_said node band (Some identity) None = said.Wrong (at band.place reason.Value)
row_said node band None None = said.Wrong (at (min node.place band.place) reason.Value)

-- a line that lacks one of the two, or is not to be voted on, is ignored
abbrev pub relay_said : Option Argument → Option Argument → Option Argument → Said
relay_said None band voted = said.Nothing
relay_said (Some node) None voted = said.Nothing
relay_said (Some node) (Some band) voted =
    if is_no_vote voted then said.Nothing else row_said node band (identity_in node.text) (number_of band.text)

-- what a relay line at a place says: the last value of each key counts
abbrev pub relay_line : ℕ → List ℕ → Said
relay_line place text =
    relay_said (last_value node_id place text) (last_value bw place text) (last_value vote place text)

-- ---- relay lines together

-- the last row of an identity
abbrev pub last_row : List Row → Fingerprint → Option Row
last_row rows identity = find (λ (row : Row). same_identity row.identity identity) (reverse rows)

-- the bandwidth that the last row of an identity gives it
abbrev pub last_bandwidth : List Row → Fingerprint → Option ℕ
last_bandwidth rows identity = option_map (λ (row : Row). row.bandwidth) (last_row rows identity)

-- a row whose identity no row before it has
abbrev pub new_row : List Row → Row → Option Row
new_row before row = if is_some (last_bandwidth before row.identity) then None else Some row

-- how many identities some rows have
abbrev pub number_of_identities : List Row → ℕ
number_of_identities rows = length (gathered_values new_row rows)

-- the bandwidth of an identity in a list of identities with bandwidths
abbrev pub bandwidth_in : List (Fingerprint × ℕ) → Fingerprint → Option ℕ
bandwidth_in relays identity = lookup (λ (other : Fingerprint). same_identity other identity) relays

-- the order of identities, by their bytes
abbrev pub identity_order : Fingerprint → Fingerprint → Ordering
identity_order a b = slice_cmp nat_cmp a.0 b.0

-- identities with bandwidths, in ascending order, each identity once
abbrev pub Ascend : List (Fingerprint × ℕ) → Type 0
Ascend relays = IsStrictlySortedBy identity_order (keys_of relays)
