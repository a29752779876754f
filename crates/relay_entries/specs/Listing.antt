-- What the entries of a document have to agree on: there are not too many, they ascend by identity, and no two have
-- the same Ed25519 key (dir-spec, "Vote and consensus status document formats").
use Rattle.std.specs.Prelude.{ℕ, ◌+◌, ◌-◌, ◌^◌, min, nat_lt, Bool, true, List, Option, Some, None, Result, Ok, Err}
use Rattle.std.specs.Prelude.{if◌then◌else◌}
use Rattle.std.specs.FinSet as set
use Rattle.item_terms.specs.Items.{Item}
use Rattle.dir_values.specs.{Digests.identity_below, declared.digest.Fingerprint.Fingerprint}
use Rattle.frame_terms.specs.declared.fault.{FrameFault.FrameFault, FrameReason.{FrameReason, TheVariants.TooMany}}
use Rattle.frame_terms.specs.declared.fault.FrameReason.TheVariants.{Unsorted, DuplicateEd}
use Rattle.frame_terms.specs.{declared.row.Limit.TheVariants.Entries, Rows.limit_number}
use Rattle.relay_entries.specs.declared.{listed.Listed.Listed, said.{EntryKind.EntryKind, EntryValue.EntryValue}}
use Rattle.relay_entries.specs.declared.said.{EntryValue.TheVariants.{Relay, Ed}, RelayLine.RelayLine}
use Rattle.relay_entries.specs.declared.said.EdOpinion.TheVariants as opinion
use Rattle.relay_entries.specs.declared.said.EntryKind.TheVariants as kind

-- no relay yet
abbrev pub none_listed : Listed
none_listed = record { count = 0; last = None; keys = set.empty }

-- this is wrong with an item that begins at a place
abbrev pub fault_at : ℕ → FrameReason → FrameFault
fault_at place reason = record { place = place; reason = reason }

-- the fault of an item that begins one entry more than may stand
abbrev pub too_many_entries : Listed → EntryKind → Item → Result (Unit {0}) FrameFault
too_many_entries listed kind.Relay item =
    if nat_lt listed.count (limit_number Entries) then Ok tt else Err (fault_at item.place (TooMany Entries))
too_many_entries listed _ item = Ok tt

-- ---- what is listed after an item

-- whether an identity comes after the last one
abbrev pub is_next : Option Fingerprint → Fingerprint → Bool
is_next None identity = true
is_next (Some last) identity = identity_below last identity

-- one more relay; they are counted up to the last number of 64 bits, which no document reaches
abbrev pub with_relay : Listed → RelayLine → Listed
with_relay listed relay =
    record { count = min (listed.count + 1) (2 ^ 64 - 1); last = Some relay.identity; keys = listed.keys }

-- one more key
abbrev pub with_key : Listed → List ℕ → Listed
with_key listed key = record { count = listed.count; last = listed.last; keys = set.insert listed.keys key }

-- what is listed with what an item says that begins at a place, or why it may not stand
abbrev pub note_entry : Listed → ℕ → EntryValue → Result Listed FrameFault
note_entry listed place (Relay relay) =
    if is_next listed.last relay.identity then Ok (with_relay listed relay) else Err (fault_at place Unsorted)
note_entry listed place (Ed (opinion.Key key)) =
    if set.contains listed.keys key then Err (fault_at place DuplicateEd) else Ok (with_key listed key)
note_entry listed place _ = Ok listed
