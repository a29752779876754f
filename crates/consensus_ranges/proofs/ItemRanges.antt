-- What the items of a consensus say is in range, by their kinds, and so are its signatures.
use Rattle.std.proofs.Common.{◌≡◌, ℕ, Bool, true, cond, List, [], ◌∷◌, Option, Some, None, Result, Ok, Err, refl, sym}
use Rattle.std.proofs.{Common.{ap, subst, ◌∙◌}, lemmas.List.Elements.{All-append, All-cons, All-head, All-nil}}
use Rattle.std.{proofs.lemmas.List.Elements.All-tail, specs.{Prelude.{All, IfSome}, List.filter}}
use Rattle.base64.specs.GeneralPurpose.{IsBytes}
use Rattle.dir_bytes.specs.Fields.{hex}
use Rattle.dirdoc_grammar.specs.Writers.{is_argument}
use Rattle.dir_values.specs.{Digests.fingerprint, declared.algorithm.Algorithm.{Algorithm, TheVariants.{Sha1, Sha256}}}
use Rattle.dir_values.specs.declared.digest.{Digest1.Digest1, Digest2.Digest2}
use Rattle.frame_terms.specs.declared.document.Taken.{Taken}
use Rattle.frame_values.specs.{Arguments.{arguments_of, front, next}, Faults.at_place, Lines.{delays_of, flags_of}}
use Rattle.frame_values.specs.{Lines.{rest_of, source_of}, Ranges.AreTwenty, declared.found.DirSource.DirSource}
use Rattle.frame_values.specs.declared.{found.{Span.Span, VoteSignature.VoteSignature}, values.Value.Value}
use Rattle.frame_values.specs.declared.values.Value.TheVariants as value
use Rattle.value_groups.specs.{Lines.random_of, declared.value.SharedRandom.SharedRandom}
use Rattle.group_laws.specs.LineAgain.{IsRandomInRange}
use Rattle.relay_entries.specs.{Lines.{address_of, lifted_entry_value}, declared.said.EntryValue.EntryValue}
use Rattle.relay_entries.specs.declared.said.RelayLine.{RelayLine}
use Rattle.relay_entries.specs.declared.said.EntryKind.TheVariants as entry
use Rattle.relay_entries.specs.declared.said.EntryValue.TheVariants as said
use Rattle.consensus_terms.specs.declared.{flavour.Flavour.Flavour, router.Bandwidth.Bandwidth}
use Rattle.consensus_terms.specs.declared.signature.SignatureLine.{SignatureLine}
use Rattle.consensus_frame.specs.Lines.{bandwidth_of, micro_digest_of, relay_of, vote_digest_of}
use Rattle.consensus_frame.specs.Tables.{consensus_tables, signature_of, value_at}
use Rattle.consensus_frame.specs.declared.{rows.ConsensusKind.ConsensusKind, value.ConsensusValue.ConsensusValue}
use Rattle.consensus_frame.specs.declared.rows.ConsensusKind.TheVariants as kind
use Rattle.consensus_frame.specs.declared.rows.ConsensusSection.TheVariants as section
use Rattle.consensus_frame.specs.declared.value.ConsensusValue.TheVariants as own
use Rattle.consensus_doc.specs.Drafts as drafts
use Rattle.consensus_doc.specs.Drafts.{algorithm_name, all_signatures, signatures_in}
use Rattle.consensus_laws.specs.Again.{IsSignatureInRange, is_known, known_signatures}
use Rattle.row_laws.proofs.{KindRanges.{KindIs, kind_read, kind_unless}, ReadSteps.{key_digest_reads, placed, was_read}}
use Rattle.row_laws.proofs.{SaidByKinds.said_of_any, Saying.{EachStands, Says}}
use Rattle.range_laws.proofs.LineReads.{AreDelays, IsSigned, IsSourceIn, delays_read, source_reads}
use Rattle.range_laws.proofs.{RandomReads.random_reads, RelayReads.{AreNamesAt, IsAddressAt, address_reads, flags_read}}
use Rattle.range_laws.proofs.VoteStands.{any_says}
use Rattle.consensus_ranges.proofs.LineRanges.{IsDigest, IsRelayIn, IsSignedIf, IsSmall, bandwidth_reads}
use Rattle.consensus_ranges.proofs.LineRanges.{micro_digest_reads, relay_reads, signature_reads}

-- what an item of an entry says is what is read of it, among the values of a consensus
pub lifted_value : {A : Type 0} (read : Result A ℕ) (of : A → Value EntryValue)
    → at_place (next (next read (λ a. Ok (of a))) (λ text. Ok (lifted_entry_value own.Entry text)))
    ≡ at_place (next read (λ a. Ok (lifted_entry_value own.Entry (of a))))
lifted_value (Ok a) of = refl
lifted_value (Err place) of = refl

module _ (flavour : Flavour) where
  -- items of this kind say such
  abbrev ConsensusIs : {A : Type 0} → ConsensusKind → (A → Value ConsensusValue) → (List ℕ → A → Type 0) → Type 0
  ConsensusIs kind of Is = KindIs (consensus_tables flavour) kind of Is

  pub delays_are : ConsensusIs kind.Delays (λ (d : ℕ × ℕ). value.Own (own.Delays d.0 d.1)) (λ bytes d. AreDelays d)
  delays_are = kind_read delays_of (λ across item. refl) (λ bytes are item sound. delays_read item)

  pub known_flags_are : ConsensusIs kind.KnownFlags (λ (span : Span). value.Text span) AreNamesAt
  known_flags_are = kind_read flags_of (λ across item. refl) (λ bytes are item sound. flags_read bytes item sound)

  pub random_is : ConsensusIs kind.Random (λ (random : SharedRandom). value.Own (own.Random random))
      (λ bytes random. IsRandomInRange random)
  random_is = kind_read random_of (λ across item. refl) (λ bytes are item sound. random_reads bytes item are sound)

  pub source_is : ConsensusIs kind.Source (λ (source : DirSource). value.Own (own.Source source)) IsSourceIn
  source_is = kind_read source_of (λ across item. refl) (λ bytes are item sound. source_reads bytes item sound)

  pub vote_digest_is : ConsensusIs kind.VoteDigest (λ (digest : Digest1). value.Own (own.VoteDigest digest))
      (λ bytes digest. AreTwenty digest.0)
  vote_digest_is =
      kind_read vote_digest_of (λ across item. refl) (λ bytes are item sound.
      let first = front item.place (arguments_of item) in key_digest_reads first first.text)

  pub relay_is : ConsensusIs kind.Relay (λ (line : RelayLine). value.Own (own.Entry (said.Relay line)))
      (IsRelayIn flavour)
  relay_is =
      kind_read (relay_of flavour) (λ across item. refl)
      (λ bytes are item sound. relay_reads flavour bytes item are sound)

  pub address_is : ConsensusIs (kind.Entry entry.Address) (λ (span : Span). value.Text span) IsAddressAt
  address_is =
      kind_read address_of (λ across item. lifted_value (address_of item) (λ (span : Span). value.Text span))
      (λ bytes are item sound. address_reads bytes item sound)

  pub flags_are : ConsensusIs (kind.Entry entry.Flags) (λ (span : Span). value.Text span) AreNamesAt
  flags_are =
      kind_read flags_of (λ across item. lifted_value (flags_of item) (λ (span : Span). value.Text span))
      (λ bytes are item sound. flags_read bytes item sound)

  pub bandwidth_is : ConsensusIs kind.Bandwidth (λ (w : Bandwidth). value.Own (own.Bandwidth w)) (λ bytes w. IsSmall w)
  bandwidth_is = kind_read bandwidth_of (λ across item. refl) (λ bytes are item sound. bandwidth_reads item)

  pub micro_digest_is : ConsensusIs kind.MicroDigest (λ (digest : Digest2). value.Own (own.MicroDigest digest))
      (λ bytes digest. IsDigest digest)
  micro_digest_is =
      kind_read micro_digest_of (λ across item. refl) (λ bytes are item sound. micro_digest_reads bytes item are sound)

  pub signature_is : ConsensusIs kind.Signature (λ (s : Option VoteSignature). value.Own (own.Signature s))
      (λ bytes s. IsSignedIf s)
  signature_is =
      kind_unless (λ across item. Ok tt) (λ across item. signature_of across.is_signed item) (λ across item. refl)
      (λ bytes are across item sound passes. signature_reads across.is_signed item)

-- ---- which items are signatures: those of their kind alone

-- it is a signature that is such, if it is one
abbrev SignatureIs : Value ConsensusValue → Type 0
SignatureIs (value.Own (own.Signature signature)) = IfSome signature IsSigned
SignatureIs _ = Unit {0}

-- what an entry's item says is no signature
entry_signature : (text : Value EntryValue) → SignatureIs (lifted_entry_value own.Entry text)
entry_signature value.Nothing = tt
entry_signature _ = tt

-- whatever the kind of an item, a signature that it is is such
signature_says : (flavour : Flavour) (bytes : List ℕ) → IsBytes bytes → (of : ConsensusKind)
    (v : Value ConsensusValue) → Says (consensus_tables flavour) bytes of v → SignatureIs v
signature_says flavour bytes are kind.Signature v says =
    let its = (signature_is flavour).says bytes are v says in subst SignatureIs (sym its.1) its.2
signature_says flavour bytes are kind.Rest v says =
    was_read SignatureIs (Ok (value.Text (rest_of says.item))) v tt
    (placed (value_at flavour says.remembered kind.Rest says.item) v says.says)
signature_says flavour bytes are kind.Nothing v says =
    was_read SignatureIs (Ok value.Nothing) v tt
    (placed (value_at flavour says.remembered kind.Nothing says.item) v says.says)
signature_says flavour bytes are (kind.Entry of) v says =
    said_of_any SignatureIs _ _ v (placed (value_at flavour says.remembered (kind.Entry of) says.item) v says.says)
    entry_signature
signature_says flavour bytes are of v says =
    said_of_any SignatureIs _ _ v (placed (value_at flavour says.remembered of says.item) v says.says) (λ a. tt)

-- ---- those that are kept

-- a signature that is read is in range, and of a known algorithm
abbrev pub IsSignatureRead : SignatureLine → Type 0
IsSignatureRead line = IsSignatureInRange line × (is_known line.algorithm ≡ true)

-- the name of an algorithm is a word that spells no identity, and is known
named : (a : Option Algorithm)
    → (is_argument (algorithm_name a) ≡ true) × (fingerprint (algorithm_name a) ≡ None)
    × (is_known (algorithm_name a) ≡ true)
unfolding hex
named None = (refl, refl, refl)
named (Some Sha1) = (refl, refl, refl)
named (Some Sha256) = (refl, refl, refl)

signature_read : (bytes : List ℕ) (v : Value ConsensusValue) → SignatureIs v
    → All IsSignatureRead (signatures_in bytes v)
signature_read bytes (value.Own (own.Signature (Some signature))) is =
    let name = named signature.algorithm in
    All-cons IsSignatureRead (drafts.signature_of bytes signature) []
    (record { algorithm = name.0; no_identity = name.1; identity = is.0; key_digest = is.1 }, name.2)
    (All-nil IsSignatureRead)
signature_read bytes _ is = All-nil IsSignatureRead

-- the signatures of a footer
pub signatures_read : (flavour : Flavour) (bytes : List ℕ) → IsBytes bytes
    → (taken : List (Taken (Value ConsensusValue)))
    → EachStands (consensus_tables flavour) bytes section.Footer taken
    → All IsSignatureRead (all_signatures bytes taken)
signatures_read flavour bytes are [] each = All-nil IsSignatureRead
signatures_read flavour bytes are (one ∷ taken) each =
    let says = any_says each.0 in
    All-append IsSignatureRead (signatures_in bytes one.value) (all_signatures bytes taken)
    (signature_read bytes one.value (signature_says flavour bytes are says.0 one.value says.1))
    (signatures_read flavour bytes are taken each.1)

-- of a list whose members all pass none is left out
pub none_left_out : {X : Type 0} (passes : X → Bool) (xs : List X) → All (λ x. passes x ≡ true) xs
    → filter passes xs ≡ xs
none_left_out passes [] all = refl
none_left_out {X} passes (x ∷ xs) all =
    ap (λ (t : Bool). cond t (x ∷ filter passes xs) (filter passes xs)) (All-head (λ x. passes x ≡ true) x xs all)
    ∙ ap (λ (l : List X). x ∷ l) (none_left_out passes xs (All-tail (λ x. passes x ≡ true) x xs all))

pub signatures_whole : (lines : List SignatureLine) → All IsSignatureRead lines → known_signatures lines ≡ lines
signatures_whole lines each =
    none_left_out (λ (line : SignatureLine). is_known line.algorithm) lines (λ k d lt. (each k d lt).1)
