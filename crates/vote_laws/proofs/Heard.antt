-- Of what an item of a vote says nothing is remembered, but of a relay and of an Ed25519 key.
use Rattle.std.proofs.Common.{◌≡◌, ℕ, Bool, true, false, Ok, refl}
use Rattle.item_terms.specs.Items.{Item}
use Rattle.frame_values.specs.declared.values.Value.{Value}
use Rattle.frame_values.specs.declared.values.Value.TheVariants as value
use Rattle.frame_laws.proofs.Passing.{IsForgotten, KindsPass}
use Rattle.authority_certs.specs.declared.frame.CertKind.TheVariants as cert
use Rattle.relay_entries.specs.{Lines.{entry_value, lifted_entry_value}, declared.said.EntryKind.EntryKind}
use Rattle.relay_entries.specs.declared.said.EntryValue.{EntryValue}
use Rattle.vote_frame.specs.declared.{across.Across.Across, frame.{VoteKind.VoteKind, VoteValue.VoteValue}}
use Rattle.vote_frame.specs.Tables.{note_value, over_limit, value_at, vote_tables}
use Rattle.relay_entries.specs.declared.said.EntryKind.TheVariants as entry
use Rattle.relay_entries.specs.declared.said.EntryValue.TheVariants as said
use Rattle.row_laws.proofs.{ReadSteps.{ReadAs, next_reads}, SaidByKinds.{made_of_any, says_as_read}}
use Rattle.vote_frame.specs.declared.frame.VoteKind.TheVariants as kind
use Rattle.vote_frame.specs.declared.frame.VoteValue.TheVariants as own

-- it says nothing of a relay, of a microdescriptor or of an Ed25519 identity
abbrev pub is_quiet : Value VoteValue → Bool
is_quiet (value.Own (own.Entry (said.Relay relay))) = false
is_quiet (value.Own (own.Entry (said.Micro line))) = false
is_quiet (value.Own (own.Entry (said.Ed opinion))) = false
is_quiet (value.Own (own.Random line read)) = false
is_quiet _ = true

-- the kinds whose items say none of these
abbrev pub is_quiet_kind : VoteKind → Bool
is_quiet_kind (kind.Entry entry.Relay) = false
is_quiet_kind (kind.Entry entry.Micro) = false
is_quiet_kind (kind.Entry entry.Ed) = false
is_quiet_kind (kind.Random line) = false
is_quiet_kind _ = true

-- ---- nothing is remembered of it

unheard : (across : Across) (place : ℕ) (v : Value VoteValue) → is_quiet v ≡ true
    → note_value across place v ≡ Ok across
unheard across place (value.Own (own.Random line read)) is = absurd cc
unheard across place (value.Own (own.Entry (said.Relay relay))) is = absurd cc
unheard across place (value.Own (own.Entry (said.Micro line))) is = absurd cc
unheard across place (value.Own (own.Entry (said.Ed opinion))) is = absurd cc
unheard across place v is = refl

pub forgotten : IsForgotten vote_tables is_quiet
forgotten across one is = unheard across one.place one.value is

-- ---- kinds

abbrev Quiet : Value VoteValue → Type 0
Quiet v = is_quiet v ≡ true

-- an entry's item, in a vote
abbrev QuietEntry : Value EntryValue → Type 0
QuietEntry text = is_quiet (lifted_entry_value own.Entry text) ≡ true

entries_quiet : (of : EntryKind) (item : Item) → is_quiet_kind (kind.Entry of) ≡ true
    → ReadAs QuietEntry (entry_value of item)
entries_quiet entry.Relay item quiet = absurd (cc quiet)
entries_quiet entry.Micro item quiet = absurd (cc quiet)
entries_quiet entry.Ed item quiet = absurd (cc quiet)
entries_quiet entry.Rest item quiet = refl
entries_quiet of item quiet = made_of_any QuietEntry _ _ (λ a. refl)

kinds_quiet : (of : VoteKind) (item : Item) → is_quiet_kind of ≡ true → ReadAs Quiet (value_at of item)
kinds_quiet (kind.Random line) item quiet = absurd (cc quiet)
kinds_quiet kind.Rest item quiet = refl
kinds_quiet kind.Nothing item quiet = refl
kinds_quiet (kind.Entry of) item quiet =
    next_reads QuietEntry Quiet (entry_value of item) _ (entries_quiet of item quiet) (λ text is. is)
kinds_quiet (kind.Certificate cert.Version) item quiet = made_of_any Quiet _ _ (λ a. refl)
kinds_quiet of item quiet = made_of_any Quiet _ _ (λ a. refl)

pub kinds_pass : KindsPass vote_tables is_quiet is_quiet_kind
kinds_pass across of item v quiet is =
    says_as_read Quiet (over_limit across.listed of item) (value_at of item) v (kinds_quiet of item quiet) is
