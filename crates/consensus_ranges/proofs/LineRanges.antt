-- What is read of the lines that a consensus alone has is in range.
use Rattle.std.proofs.Common.{◌≡◌, ℕ, ◌≤◌, Bool, true, false, List, [], ◌∷◌, Option, Some, None, Result, Ok, Err, refl}
use Rattle.std.{proofs.{Common.subst, lemmas.Bool.cond_both}, specs.Prelude.{IfSome, codes, not, ◌||◌}}
use Rattle.std.specs.{Option.option_map, Str.bytes_eq}
use Rattle.base64.specs.GeneralPurpose.{IsBytes}
use Rattle.item_terms.specs.{Items.Item, Words.strip}
use Rattle.dir_values.specs.{Arguments.Argument, Digests.digest2, declared.algorithm.Algorithm.Algorithm}
use Rattle.dir_values.specs.declared.digest.{Digest1.Digest1, Digest2.Digest2}
use Rattle.frame_values.specs.{Arguments.{arguments_of, field, front, others}, Fields.is_there, Ranges.AreTwenty}
use Rattle.frame_values.specs.{Values.no_digest, Signatures.{after_algorithm, algorithm_if, known_signature_of}}
use Rattle.frame_values.specs.{Signatures.{signed_by, signed_if, space_of}, declared.found.VoteSignature.VoteSignature}
use Rattle.relay_entries.specs.{Fields.with_argument, declared.said.{Bandwidths.Bandwidths, RelayLine.RelayLine}}
use Rattle.group_laws.specs.Ranges.{AreBandwidthsInRange, AreThirtyTwo}
use Rattle.consensus_terms.specs.declared.flavour.Flavour.{Flavour, TheVariants.{Ns, Microdesc}}
use Rattle.consensus_terms.specs.declared.router.Bandwidth.{Bandwidth}
use Rattle.consensus_frame.specs.Lines.{after_digest, bandwidth_by, bandwidth_of, digest_here, micro_digest_of}
use Rattle.consensus_frame.specs.Lines.{nothing_said, relay_of, with_word, with_word_by, with_words}
use Rattle.consensus_frame.specs.{Tables.signature_of, declared.line.Said.Said}
use Rattle.consensus_laws.specs.Again.{IsDigestInRange}
use Rattle.row_laws.proofs.{ItemArguments.{AreFound, IsSound, are_found, others_found}, ReadSteps.{ReadAs, any_reads}}
use Rattle.row_laws.proofs.ReadSteps.{field_reads, front_bytes, if_reads, next_reads}
use Rattle.range_laws.proofs.{EntryReads.{thirty_two, with_either_ranged}, LineReads.{IsSigned, signed_reads}}
use Rattle.range_laws.proofs.RelayReads.{IsRelayOf, digest_reads, relay_with_reads}

-- ---- relays

-- the digest of a descriptor as a flavour has it: microdesc has none
abbrev pub IsDigestOf : Flavour → Digest1 → Type 0
IsDigestOf Ns digest = AreTwenty digest.0
IsDigestOf Microdesc digest = digest ≡ record { 0 = no_digest }

pub digest_ranged : (flavour : Flavour) (digest : Digest1) → IsDigestOf flavour digest → IsDigestInRange flavour digest
digest_ranged Ns digest is = is
digest_ranged Microdesc digest is = tt

-- a relay, as its flavour has it
abbrev pub IsRelayIn : Flavour → List ℕ → RelayLine → Type 0
IsRelayIn flavour = IsRelayOf (IsDigestOf flavour)

-- the digest of a descriptor, where the flavour has it
digest_here_reads : (flavour : Flavour) (bytes : List ℕ) (item : ℕ) (arguments : List Argument) → IsBytes bytes
    → AreFound bytes arguments
    → ReadAs (λ (digest : Digest1). IsDigestOf flavour digest) (digest_here flavour item arguments)
digest_here_reads Ns bytes item arguments are found =
    digest_reads (front item arguments) (front item arguments).text (front_bytes bytes item arguments are found)
digest_here_reads Microdesc bytes item arguments are found = refl

pub relay_reads : (flavour : Flavour) (bytes : List ℕ) (item : Item) → IsBytes bytes → IsSound bytes item
    → ReadAs (IsRelayIn flavour bytes) (relay_of flavour item)
relay_reads flavour bytes item are sound =
    let from_key = others (arguments_of item) in
    let from_digest = others from_key in
    let found = others_found bytes from_key (others_found bytes (arguments_of item) (are_found sound)) in
    relay_with_reads (IsDigestOf flavour) bytes item (digest_here flavour item.place from_digest)
    (after_digest flavour from_digest) are sound
    (digest_here_reads flavour bytes item.place from_digest are found)

-- ---- the digest of a microdescriptor

abbrev pub IsDigest : Digest2 → Type 0
IsDigest digest = AreThirtyTwo digest.0

pub micro_digest_reads : (bytes : List ℕ) (item : Item) → IsBytes bytes → IsSound bytes item
    → ReadAs IsDigest (micro_digest_of item)
micro_digest_reads bytes item are sound =
    let first = front item.place (arguments_of item) in
    field_reads IsDigest first (digest2 first.text) (λ digest is.
    thirty_two first.text digest (front_bytes bytes item.place (arguments_of item) are (are_found sound)) is)

-- ---- bandwidth

-- what is said so far has 32 bits
abbrev AreSmall : Said → Type 0
AreSmall said = AreBandwidthsInRange said.bandwidths

with_word_small : (said : Said) (text : List ℕ) → AreSmall said → IfSome (with_word said text) AreSmall
with_word_small said text are = by (strip (codes "Unmeasured=") text)
  where
    number : (found : Option Bandwidths) → with_argument said.bandwidths text ≡ found
        → IfSome (option_map (λ (b : Bandwidths). record { bandwidths = b; unmeasured = said.unmeasured }) found)
        AreSmall
    number None got = tt
    number (Some b) got =
        with_either_ranged said.bandwidths (strip (codes "Bandwidth=") text) (strip (codes "Measured=") text) b are got

    by : (found : Option (List ℕ)) → IfSome (with_word_by said text found) AreSmall
    by (Some value) =
        cond_both (said.unmeasured || not (bytes_eq value (codes "1"))) None
        (Some (record { bandwidths = said.bandwidths; unmeasured = true })) (λ (o : Option Said). IfSome o AreSmall)
        (λ wrong. tt) (λ fine. are)
    by None = number (with_argument said.bandwidths text) refl

with_words_read : (arguments : List Argument) (said : Said) → AreSmall said
    → ReadAs AreSmall (with_words said arguments)
unfolding with_words
with_words_read [] said are = are
with_words_read (argument ∷ rest) said are =
    next_reads AreSmall AreSmall (field argument (with_word said argument.text)) (λ more. with_words more rest)
    (field_reads AreSmall argument (with_word said argument.text)
    (λ more is. subst (λ (o : Option Said). IfSome o AreSmall) is (with_word_small said argument.text are)))
    (λ more is. with_words_read rest more is)

abbrev pub IsSmall : Bandwidth → Type 0
IsSmall w = w.value ≤ 4294967295

pub bandwidth_reads : (item : Item) → ReadAs IsSmall (bandwidth_of item)
bandwidth_reads item =
    next_reads AreSmall IsSmall (with_words nothing_said (arguments_of item))
    (λ said. bandwidth_by item.place said said.bandwidths.bandwidth)
    (with_words_read (arguments_of item) nothing_said (record { bandwidth = tt; measured = tt }))
    (λ said are. by said said.bandwidths.bandwidth are.bandwidth)
  where
    by : (said : Said) (found : Option ℕ) → IfSome found (λ n. n ≤ 4294967295)
        → ReadAs IsSmall (bandwidth_by item.place said found)
    by said None is = tt
    by said (Some n) is = is

-- ---- signatures

-- a signature, where its algorithm is known
abbrev pub IsSignedIf : Option VoteSignature → Type 0
IsSignedIf signature = IfSome signature IsSigned

signed_if_reads : (item : Item) (name : Result (Option Algorithm) ℕ) → ReadAs IsSignedIf (signed_if item name)
signed_if_reads item (Err place) = tt
signed_if_reads item (Ok name) =
    next_reads IsSigned IsSignedIf (signed_by name (after_algorithm name (arguments_of item)) item)
    (λ (signature : VoteSignature). Ok (Some signature))
    (signed_reads name (after_algorithm name (arguments_of item)) item)
    (λ signature is. is)

known_reads : (item : Item) → ReadAs IsSignedIf (known_signature_of item)
known_reads item =
    let first = front item.place (arguments_of item) in
    if_reads IsSignedIf (is_there first.text) (signed_if item (algorithm_if first)) item.place
    (signed_if_reads item (algorithm_if first))

pub signature_reads : (is_signed : Bool) (item : Item) → ReadAs IsSignedIf (signature_of is_signed item)
signature_reads true item = known_reads item
signature_reads false item =
    next_reads (λ (done : Unit {0}). Unit {0}) IsSignedIf (space_of item) (λ done. known_signature_of item)
    (any_reads (space_of item)) (λ done is. known_reads item)
