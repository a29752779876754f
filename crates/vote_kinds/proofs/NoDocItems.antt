-- What an item says, and what is remembered across entries, refuses none as a line or an object is refused.
use Rattle.std.{proofs.Common.{ℕ, Bool, true, false, Result, Ok, Err, refl}, specs.Prelude.if◌then◌else◌}
use Rattle.std.specs.FinSet as set
use Rattle.frame_terms.specs.declared.fault.FrameFault.{FrameFault}
use Rattle.frame_values.specs.Faults.{at_place}
use Rattle.relay_entries.specs.{declared.{listed.Listed.Listed, said.EntryValue.EntryValue}, Listing.is_next}
use Rattle.relay_entries.specs.Listing.{note_entry}
use Rattle.relay_entries.specs.declared.said.EdOpinion.TheVariants as opinion
use Rattle.relay_entries.specs.declared.said.EntryValue.TheVariants as said
use Rattle.document_laws.specs.Known.{IsNoDoc}

-- a fault at a place is a value's, and no line's or object's
pub placed : {V : Type 0} (read : Result V ℕ) → IsNoDoc (at_place read)
placed (Ok value) = tt
placed (Err place) = refl

-- of two that refuse none so, either
pub either_ok : {Y : Type 0} (test : Bool) (one other : Result Y FrameFault) → IsNoDoc one → IsNoDoc other
    → IsNoDoc (if test then one else other)
either_ok true one other h k = h
either_ok false one other h k = k

-- what an entry says, behind those before it
pub entry : (listed : Listed) (place : ℕ) (text : EntryValue) → IsNoDoc (note_entry listed place text)
entry listed place (said.Relay relay) = either_ok (is_next listed.last relay.identity) _ _ tt refl
entry listed place (said.Bandwidths bandwidths) = tt
entry listed place (said.Micro micro) = tt
entry listed place (said.Ed (opinion.Key key)) = either_ok (set.contains listed.keys key) _ _ refl tt
entry listed place (said.Ed opinion.None) = tt
entry listed place (said.Ed opinion.Absent) = tt
