-- What the private functions of this crate say.
use Rattle.std.specs.Prelude.{◌≡◌, ◌⊎◌, ℕ, ◌<◌, ◌≤◌, Bool, true, false, not, ◌&&◌, List, [], ◌∷◌, ◌++◌, length, codes}
use Rattle.std.specs.{Prelude.{drop, AllPairs, Option, Some, None, if◌then◌else◌}, Cmp.Lexicographic.slice_cmp}
use Rattle.std.specs.{Ordering.{nat_cmp, is_lt}, declared.cmp.Ordering.Ordering}
use Rattle.std.specs.FinSet as set
use Rattle.hex.specs.Hex.{IsBytes}
use Rattle.sha1.specs.Sha1.{sha1}
use Rattle.count_terms.specs.declared.newest.Newest.{Newest}
use Rattle.dir_values.specs.{Digests.identity_below, declared.digest.Fingerprint.Fingerprint}
use Rattle.dirdoc_grammar.specs.Writing.{item_text, items_text}
use Rattle.frame_terms.specs.declared.keyword.Keyword.TheVariants as the
use Rattle.frame_values.specs.Items.{bare}
use Rattle.authority_certs.specs.declared.cert.Cert.{Cert}
use Rattle.descriptor_doc.specs.declared.descriptor.Descriptor.{Descriptor}
use Rattle.flag_rules.specs.{Rules.AreAllowed, Rulings.is_reject, declared.flags.Flags.Flags}
use Rattle.flag_rules.specs.declared.{relay.RelayFacts.RelayFacts, ruling.Ruling.Ruling}
use Rattle.key_port.specs.{Answers.Relation, Signing.{SignerSteps, signature_limit}}
use Rattle.key_port.specs.declared.signer.SignAnswer.{SignAnswer}
use Rattle.key_port.specs.declared.signer.SignAnswer.TheVariants as sign
use Rattle.key_port.specs.declared.verifier.KeyKind.TheVariants as kind
use Rattle.relay_entries.specs.declared.said.EdOpinion.{EdOpinion}
use Rattle.relay_entries.specs.declared.said.EdOpinion.TheVariants as opinion
use Rattle.station_input.specs.declared.{frame_said.MeasuredRelay.MeasuredRelay, facts.StationFacts.StationFacts}
use Rattle.vote_terms.specs.{declared.{entry.EntryFacts.EntryFacts, facts.VoteFacts.VoteFacts}, Votes.max_vote}
use Rattle.vote_text.specs.{Entries.entries_items, Made.{made_signed, signature_rest}, Texts.authority_items}
use Rattle.vote_text.specs.Texts.{preamble_items}
use Rattle.vote_pool.specs.Kept.{signer_of}
use Rattle.vote_maker.specs.{Entries.made_entry, Listings.JudgedRelay, Made.{Basis, basis, entries_under, made}}
use Rattle.vote_maker.specs.{Made.{relays_in, signature_by}, Making.fails, Relays.{known_relays, measured_for}}
use Rattle.vote_maker.specs.declared.refusal.MakeRefusal.{MakeRefusal}
use Rattle.vote_maker.specs.declared.refusal.MakeRefusal.TheVariants as refusal

-- ---- what was measured

-- measured relays by identity
abbrev pub measure_order : MeasuredRelay → MeasuredRelay → Ordering
measure_order a b = slice_cmp nat_cmp a.identity.0 b.identity.0

-- whether one comes before another
abbrev pub is_measure_before : MeasuredRelay → MeasuredRelay → Bool
is_measure_before a b = is_lt (measure_order a b)

-- measured relays, of which none stands behind one of a greater identity
abbrev pub MeasuresAscend : List MeasuredRelay → Type 0
MeasuresAscend relays =
    AllPairs (λ (earlier later : MeasuredRelay). identity_below later.identity earlier.identity ≡ false) relays

-- The same was measured of each relay.
abbrev pub MeasureAlike : List MeasuredRelay → List MeasuredRelay → Type 0
MeasureAlike relays others = (identity : Fingerprint) → measured_for others identity ≡ measured_for relays identity

-- ---- the entries, one after the other

-- a set of Ed25519 keys
abbrev pub Keys : Type 0
Keys = set.FinSet (slice_cmp nat_cmp)

-- whether no relay before has a key, where there is one
abbrev pub is_free : Keys → Option (List ℕ) → Bool
is_free keys None = true
is_free keys (Some key) = not (set.contains keys key)

-- whether a relay with a key has an entry behind others, of which these are the keys
abbrev pub is_listed : Keys → Ruling → Option (List ℕ) → Bool
is_listed keys ruling key = not (is_reject ruling) && is_free keys key

-- the keys with one more, where there is one
abbrev pub with_key : Keys → Option (List ℕ) → Keys
with_key keys None = keys
with_key keys (Some key) = set.insert keys key

-- the keys of relays with that of one more, unless it is rejected
abbrev pub keys_after : Keys → Ruling → Option (List ℕ) → Keys
keys_after keys ruling key = if is_reject ruling then keys else with_key keys key

-- the Ed25519 identity of a relay with a key, where there is one
abbrev pub opinion_of_key : Option (List ℕ) → EdOpinion
opinion_of_key None = opinion.None
opinion_of_key (Some key) = opinion.Key key

-- the entry of a relay, if it has one
abbrev pub entry_if : Newest → Bool → Descriptor → RelayFacts → Flags → List EntryFacts
entry_if newest listed d known flags = if listed then made_entry newest d known flags ∷ [] else []

-- the entries of relays that stand behind others, of which these are the keys
abbrev pub entries_from : Newest → Keys → List JudgedRelay → List EntryFacts
entries_from newest keys [] = []
entries_from newest keys (one ∷ relays) =
    entry_if newest (is_listed keys one.ruled.ruling (signer_of one.descriptor.identity_ed25519)) one.descriptor
    one.ruled.facts one.flags
    ++ entries_from newest (keys_after keys one.ruled.ruling (signer_of one.descriptor.identity_ed25519)) relays

-- These are the entries of the relays from one place to another, behind others that have these keys, and then those keys.
abbrev pub AreBetween : Newest → List JudgedRelay → ℕ → ℕ → Keys → List EntryFacts → Keys → Type 0
AreBetween newest relays start end old entries new =
    entries ++ entries_from newest new (drop end relays) ≡ entries_from newest old (drop start relays)

-- there is as much of each: of what is known of relays, of rulings and of flags
pub record AreAsMany (relays : List Descriptor) (known : List RelayFacts) (rulings : List Ruling)
    (flags : List Flags) : Type 0 where
  pub known_are : length known ≡ length relays
  pub rulings_are : length rulings ≡ length relays
  pub flags_are : length flags ≡ length relays

-- ---- what the vote says

-- the text of entries
abbrev pub entries_text : List EntryFacts → List ℕ
entries_text entries = items_text (entries_items entries)

-- the text that is signed before its entries
abbrev pub front_text : VoteFacts → List ℕ → List ℕ
front_text facts bytes = items_text (preamble_items facts) ++ items_text (authority_items facts) ++ bytes

-- the text that is signed behind its entries
abbrev pub back_text : List ℕ
back_text = item_text (bare the.DirectoryFooter []) ++ codes "directory-signature "

-- what a vote says that is made of this, but for its entries
abbrev pub said_around : StationFacts → ℕ → ℕ → VoteFacts
said_around station valid_after now = made (basis station [] valid_after now) []

-- The text of the entries of relays under some rulings that are allowed is appended.
pub record AppendsEntriesUnder (allows : RelayFacts → Ruling → Bool) (newest : Newest) (measured : List MeasuredRelay)
    (descriptors : List Descriptor) (now : ℕ) (old new : List ℕ) : Type 0 where
  pub rulings : List Ruling
  pub allowed : AreAllowed allows (known_relays measured descriptors) rulings
  pub new_is : new ≡ old ++ entries_text (entries_under newest measured descriptors now rulings)

-- This is the text that is signed of what is made of a basis, under some rulings that are allowed.
pub record IsSignedPart (allows : RelayFacts → Ruling → Bool) (its : Basis) (text : List ℕ) : Type 0 where
  pub rulings : List Ruling
  pub allowed : AreAllowed allows (relays_in its) rulings
  pub text_is : text ≡ made_signed (made its rulings) its.station.certificate_bytes

-- ---- the certificate

-- This refusal is one of the certificate's check: it does not hold, or the verifier failed.
abbrev pub IsOfCertificate : MakeRefusal → Type 0
IsOfCertificate (refusal.OwnCert found) = fails found ≡ true
IsOfCertificate refusal.SignerFault = ⊥
IsOfCertificate refusal.VerifierFault = Unit {0}
IsOfCertificate (refusal.TooLong count) = ⊥
IsOfCertificate refusal.Memory = ⊥

-- ---- signing a text

-- A signer is asked for the signature of a text by a certificate's signing key, and answers so.
abbrev pub AsksFor : {N : Type 0} → SignerSteps N → Cert → List ℕ → N → SignAnswer → N → Type 0
AsksFor steps cert text old result new = steps old kind.Signing cert.signing_key (sha1 text) result new

-- The whole is the text with the signature that the signer gave.
pub record IsSignedText {N : Type 0} (gives : Relation) (steps : SignerSteps N) (cert : Cert) (text whole : List ℕ)
    (old new : N) : Type 0 where
  pub signature : List ℕ
  pub given : gives kind.Signing cert.signing_key (sha1 text) signature ≡ true
  pub sound : IsBytes signature
  pub short : length signature ≤ signature_limit
  pub asked : AsksFor steps cert text old (sign.Signed signature) new
  pub whole_is : whole ≡ text ++ signature_rest (signature_by cert signature)

-- Why a text is not signed: the signer failed; the whole would be too long; want of memory, before the signer was asked or
-- behind that.
abbrev pub RefusesToSign : {N : Type 0} → Relation → SignerSteps N → Cert → List ℕ → MakeRefusal → N → N → Type 0
RefusesToSign gives steps cert text (refusal.OwnCert found) old new = ⊥
RefusesToSign gives steps cert text refusal.SignerFault old new = AsksFor steps cert text old sign.Fault new
RefusesToSign gives steps cert text refusal.VerifierFault old new = ⊥
RefusesToSign gives steps cert text (refusal.TooLong count) old new =
    (whole : List ℕ) × IsSignedText gives steps cert text whole old new × (count ≡ length whole) × (max_vote < count)
RefusesToSign gives steps cert text refusal.Memory old new =
    (new ≡ old) ⊎ ((result : SignAnswer) × AsksFor steps cert text old result new)
