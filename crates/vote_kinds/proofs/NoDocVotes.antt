-- The tables of certificates and of votes refuse no item as a line or an object is refused.
use Rattle.std.{proofs.Common.{ℕ, Result, Ok, Err, refl, length}, specs.Prelude.nat_lt}
use Rattle.item_terms.specs.Items.{Item}
use Rattle.frame_terms.specs.{declared.{fault.FrameFault.FrameFault, row.Limit.Limit}, Rows.limit_number}
use Rattle.frame_terms.specs.declared.row.Limit.TheVariants as limit
use Rattle.frame_values.specs.{Arguments.arguments_of, declared.values.Value.Value, Faults.{at_place, too_many}}
use Rattle.frame_values.specs.Faults.{unless_fault}
use Rattle.frame_values.specs.declared.values.Value.TheVariants as value
use Rattle.value_groups.specs.declared.{line.RandomLine.RandomLine, value.SharedRandom.SharedRandom}
use Rattle.relay_entries.specs.{declared.{listed.Listed.Listed, said.EntryKind.EntryKind}, Listing.note_entry}
use Rattle.relay_entries.specs.Listing.{too_many_entries}
use Rattle.relay_entries.specs.declared.said.EntryKind.TheVariants as kind
use Rattle.authority_certs.specs.Tables.{cert_value}
use Rattle.vote_frame.specs.Across as across
use Rattle.vote_frame.specs.declared.across.Across as vote_across
use Rattle.vote_frame.specs.declared.frame.{VoteKind.VoteKind, VoteValue.VoteValue}
use Rattle.vote_frame.specs.declared.frame.VoteKind.TheVariants as item
use Rattle.vote_frame.specs.declared.frame.VoteValue.TheVariants as own
use Rattle.vote_frame.specs.Tables as vote
use Rattle.document_laws.specs.Known.{IsNoDoc}
use Rattle.vote_kinds.{specs.VoteKinds.VoteKindsHaveNoDoc, proofs.NoDocItems.{either_ok, entry, placed}}

-- ---- limits

many : (limit : Limit) (item : Item) → IsNoDoc (too_many limit item)
many limit item = either_ok (nat_lt (limit_number limit) (length (arguments_of item))) _ _ refl tt

after_limit : {V : Type 0} (first : Result (Unit {0}) FrameFault) (other : Result V FrameFault) → IsNoDoc first
    → IsNoDoc other
    → IsNoDoc (unless_fault first other)
after_limit (Ok _) other h k = k
after_limit (Err fault) other h k = h

entries : (listed : Listed) (of : EntryKind) (item : Item) → IsNoDoc (too_many_entries listed of item)
entries listed kind.Relay item = either_ok (nat_lt listed.count (limit_number limit.Entries)) _ _ tt refl
entries listed kind.Address item = tt
entries listed kind.Flags item = tt
entries listed kind.Rest item = tt
entries listed kind.Bandwidths item = tt
entries listed kind.Micro item = tt
entries listed kind.Ed item = tt

vote_limits : (listed : Listed) (of : VoteKind) (item : Item) → IsNoDoc (vote.over_limit listed of item)
vote_limits listed item.Version it = tt
vote_limits listed item.Status it = tt
vote_limits listed item.Methods it = many limit.Methods it
vote_limits listed item.Time it = tt
vote_limits listed item.Delays it = tt
vote_limits listed item.KnownFlags it = many limit.KnownFlags it
vote_limits listed item.Versions it = tt
vote_limits listed item.Protocols it = tt
vote_limits listed item.Params it = many limit.Params it
vote_limits listed item.Rest it = tt
vote_limits listed item.Source it = tt
vote_limits listed (item.Random line) it = tt
vote_limits listed item.Nothing it = tt
vote_limits listed item.Signature it = tt
vote_limits listed (item.Certificate of) it = tt
vote_limits listed (item.Entry of) it = entries listed of it

-- ---- what is remembered

vote_listed : (before : vote_across.Across) (noted : Result Listed FrameFault) → IsNoDoc noted
    → IsNoDoc (across.with_listed before noted)
vote_listed before (Ok listed) h = tt
vote_listed before (Err fault) h = h

random : (before : vote_across.Across) (line : RandomLine) (read : Result SharedRandom ℕ)
    → IsNoDoc (across.unless_wrong before line read)
random before line (Ok value) = tt
random before line (Err wrong) = refl

vote_note : (before : vote_across.Across) (place : ℕ) (text : Value VoteValue)
    → IsNoDoc (vote.note_value before place text)
vote_note before place value.Nothing = tt
vote_note before place (value.Text span) = tt
vote_note before place (value.Number number) = tt
vote_note before place (value.Fingerprint identity) = tt
vote_note before place (value.Object span) = tt
vote_note before place (value.Own (own.Delays one other)) = tt
vote_note before place (value.Own (own.Source source)) = tt
vote_note before place (value.Own (own.Random line read)) =
    either_ok (across.has_line before line) _ _ refl (random before line read)
vote_note before place (value.Own (own.Signature signature)) = tt
vote_note before place (value.Own (own.Entry text)) =
    vote_listed before (note_entry before.listed place text) (entry before.listed place text)

pub vote_kinds_have_no_doc : VoteKindsHaveNoDoc
vote_kinds_have_no_doc = record {
  certificates = record {
    values = λ across kind item. placed (cert_value kind item);
    notes = λ across one. tt;
  };
  votes = record {
    values = λ across kind item.
        after_limit (vote.over_limit across.listed kind item) (at_place (vote.value_at kind item))
        (vote_limits across.listed kind item) (placed (vote.value_at kind item));
    notes = λ across one. vote_note across one.place one.value;
  };
}
