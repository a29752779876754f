-- The facts of each kind of item of detached signatures.
use Rattle.std.proofs.Common.{◌≡◌, ℕ, Bool, true, false, List, Option, Some, None, refl, sym, ap, ◌∙◌}
use Rattle.std.specs.{Prelude.{IfSome, codes, if◌then◌else◌, ◌||◌}, Option.option_map, Str.bytes_eq}
use Rattle.base64.specs.GeneralPurpose.{IsBytes}
use Rattle.dir_bytes.specs.Fields as fields
use Rattle.item_terms.specs.{Items.Item, Words.words_of}
use Rattle.dirdoc_grammar.specs.{Bodies.body_text, Writers.is_argument, Writing.{IsLineRest, IsWritableObject}}
use Rattle.dir_values.{proofs.Orders.same_text, specs.{Digests.fingerprint, Names.algorithm}}
use Rattle.dir_values.specs.declared.algorithm.Algorithm.{Algorithm, TheVariants.{Sha1, Sha256}}
use Rattle.dir_values.specs.declared.digest.{Digest1.Digest1, Fingerprint.Fingerprint}
use Rattle.frame_values.specs.{Ranges.AreTwenty, declared.found.{Span.Span, VoteSignature.VoteSignature}}
use Rattle.frame_values.specs.declared.values.Value.TheVariants as value
use Rattle.frame_laws.proofs.Words.{IsWord}
use Rattle.consensus_terms.specs.{Signed.signer_text, declared.signature.SignatureLine.SignatureLine}
use Rattle.consensus_doc.specs.Drafts.{algorithm_name}
use Rattle.consensus_laws.proofs.SignatureLines.{name_if, name_of, signer_same}
use Rattle.detached_frame.specs.Tables.{detached_tables, value_at}
use Rattle.detached_frame.specs.declared.said.AdditionalDigestLine.{AdditionalDigestLine}
use Rattle.detached_frame.specs.declared.said.AdditionalSignatureLine.{AdditionalSignatureLine}
use Rattle.detached_frame.specs.declared.said.DetachedKind.{DetachedKind}
use Rattle.detached_frame.specs.declared.said.DetachedKind.TheVariants as kind
use Rattle.detached_frame.specs.declared.said.DetachedValue.TheVariants as own
use Rattle.row_laws.proofs.Columns.{AreSomeBytes, a_hex, a_key, a_word, an_identity, before, before_laws, hex_laws}
use Rattle.row_laws.proofs.{Columns.{identity_laws, key_laws, last, last_laws, word_laws}, ItemKinds.{IsKind, KindLaws}}
use Rattle.row_laws.proofs.ItemKinds.{a_time, four_with, kind_tied, of_line_laws, three, time_laws, with_any_laws}
use Rattle.row_laws.proofs.{ItemArguments.IsSound, Signatures.{AreSignedIf, Signed, known_again, known_gives}}
use Rattle.row_laws.proofs.{Signatures.{known_means, known_tied, named, signed_in, signed_so}, Rows.RowLaws}
use Rattle.row_laws.proofs.{Spoken.{Words, new_words, words_in}, Ties.{Gives, Tied, and_said, said_gives}}
use Rattle.detached_laws.{specs.Again.IsLineInRange, proofs.DetachedMeaning.{IsRead, MayWrite, Saying, as_said, digest}}
use Rattle.detached_laws.proofs.DetachedMeaning.{digest_kind, meaning, means, moment, other, other_kind, other_of, over}
use Rattle.detached_laws.proofs.DetachedMeaning.{over_kind, over_of, said, signed, signed_if, unknown, write}

-- ---- each kind, by its columns

digest_laws : KindLaws digest_kind (λ d. AreTwenty d.0) (λ d. AreTwenty d.0)
digest_laws = of_line_laws (last a_key) _ (last_laws a_key _ key_laws)

abbrev OtherFits : List ℕ × (List ℕ × List ℕ) → Type 0
OtherFits x = IsWord x.0 × (IsWord x.1.0 × AreSomeBytes x.1.1)

other_laws : KindLaws other_kind OtherFits OtherFits
other_laws =
    of_line_laws (before a_word (before a_word (last a_hex))) OtherFits
    (before_laws a_word (before a_word (last a_hex)) IsWord _ word_laws
    (before_laws a_word (last a_hex) IsWord AreSomeBytes word_laws (last_laws a_hex AreSomeBytes hex_laws)))

abbrev OverFits : (List ℕ × (List ℕ × (Fingerprint × Digest1))) × List ℕ → Type 0
OverFits x = IsWord x.0.0 × (IsWord x.0.1.0 × (AreTwenty x.0.1.1.0.0 × AreTwenty x.0.1.1.1.0))

over_laws : KindLaws over_kind OverFits OverFits
over_laws =
    with_any_laws (codes "SIGNATURE") (before a_word (before a_word (before an_identity (last a_key)))) _
    (before_laws a_word (before a_word (before an_identity (last a_key))) IsWord _ word_laws
    (before_laws a_word (before an_identity (last a_key)) IsWord _ word_laws
    (before_laws an_identity (last a_key) _ _ identity_laws (last_laws a_key _ key_laws))))

tied : (across : Unit {0}) (k : DetachedKind) (bytes : List ℕ) (item : Item) → IsSound bytes item
    → Tied (said bytes) (detached_tables.value_of across k item) (means k (words_in item))
tied across kind.Digest bytes item sound =
    let is : IsKind digest_kind (value_at kind.Digest) said (λ (d : Digest1). value.Own (own.Digest d)) digest =
    record { same = λ item. refl; says = λ bytes d. refl } in
    kind_tied is digest_laws bytes item sound
tied across kind.Time bytes item sound =
    let is : IsKind a_time (value_at kind.Time) said (λ (n : ℕ). value.Number n) moment =
    record { same = λ item. refl; says = λ bytes n. refl } in
    kind_tied is time_laws bytes item sound
tied across kind.AdditionalDigest bytes item sound =
    let is : IsKind other_kind (value_at kind.AdditionalDigest) said
    (λ (x : Span × (Span × Span)). value.Own (own.AdditionalDigest
    (record { flavour = x.0; algorithm = x.1.0; digest = x.1.1 }))) other_of =
    record {
      same = λ item. three _ _ _ (λ f a d. record { flavour = f; algorithm = a; digest = d })
          (λ (l : AdditionalDigestLine). value.Own (own.AdditionalDigest l));
      says = λ bytes x. refl;
    } in
    kind_tied is other_laws bytes item sound
tied across kind.AdditionalSignature bytes item sound =
    let is : IsKind over_kind (value_at kind.AdditionalSignature) said
    (λ (x : (Span × (Span × (Fingerprint × Digest1))) × Span). value.Own (own.AdditionalSignature (record {
      flavour = x.0.0;
      algorithm = x.0.1.0;
      identity = x.0.1.1.0;
      key_digest = x.0.1.1.1;
      signature =
          x.1;
    }))) over_of =
    record {
      same = λ item. four_with _ _ _ _ _ (λ f a i k s. record {
        flavour = f;
        algorithm = a;
        identity = i;
        key_digest = k;
        signature = s;
      })
          (λ (l : AdditionalSignatureLine). value.Own (own.AdditionalSignature l));
      says = λ bytes x. refl;
    } in
    kind_tied is over_laws bytes item sound
tied across kind.Signature bytes item sound =
    and_said (option_map (signed_in bytes)) (said bytes) (λ (s : Option VoteSignature). value.Own
    (own.Signature s)) signed_if
    _ _ (λ s. refl) (known_tied sound)

-- a signature says its algorithm, where that is known
signed_again : (line : SignatureLine) → IsLineInRange (record { flavour = None; line = line }) → IsBytes line.signature
    → option_map signed_if (known_means (words_of (signer_text line))
    (Some (record { words = codes "SIGNATURE"; start = 0; text = body_text line.signature })))
    ≡ Some (as_said kind.Signature (signed line))
signed_again line are bytes =
    ap (λ (t : List ℕ). option_map signed_if (known_means (words_of t)
    (Some (record { words = codes "SIGNATURE"; start = 0; text = body_text line.signature })))) (signer_same line)
    ∙ ap (λ (o : Option (Option Signed)). option_map signed_if o)
    (known_again (name_of line) line.identity line.key_digest line.signature (record {
      name_is = by (bytes_eq line.algorithm (codes "sha1"));
      identity_is = are.identity;
      key_is = are.key_digest;
      bytes_are = bytes;
    }))
    ∙ by_name (bytes_eq line.algorithm (codes "sha1")) (bytes_eq line.algorithm (codes "sha256")) refl refl
  where
    by : (t : Bool)
        → IfSome (name_if t line.algorithm) (λ (n : List ℕ). (is_argument n ≡ true) × (fingerprint n ≡ None))
    by true = tt
    by false = are.named

    so : Option Algorithm → Signed
    so found = signed_so line.identity line.key_digest line.signature found

    known : (name : List ℕ) (b : Bool) → bytes_eq name (codes "sha1") ≡ false → bytes_eq name (codes "sha256") ≡ b
        → algorithm name ≡ (if b then Some Sha256 else None)
    known name b not_first is = rw (not_first, is) refl

    called : (wanted : List ℕ) → bytes_eq line.algorithm wanted ≡ true
        → signed (record line { algorithm = wanted }) ≡ signed line
    called wanted is = λ i. signed (record line { algorithm = sym (same_text line.algorithm wanted is) i })

    by_name : (a b : Bool) → bytes_eq line.algorithm (codes "sha1") ≡ a → bytes_eq line.algorithm (codes "sha256") ≡ b
        → Some (signed_if (option_map so (named (name_if a line.algorithm))))
        ≡ Some (if a || b then signed line else unknown)
    by_name true b first second = ap (λ (s : Saying). Some s) (called (codes "sha1") first)
    by_name false true first second =
        ap (λ (o : Option Algorithm). Some (signed_if (option_map so (option_map (λ (a : Algorithm). Some a) o))))
        (known line.algorithm true first second)
        ∙ ap (λ (s : Saying). Some s) (called (codes "sha256") second)
    by_name false false first second =
        ap (λ (o : Option Algorithm). Some (signed_if (option_map so (option_map (λ (a : Algorithm). Some a) o))))
        (known line.algorithm false first second)

again : (k : DetachedKind) (s : Saying) → MayWrite k s → IfSome (write k s).object IsWritableObject
    → means k (new_words (write k s)) ≡ Some (as_said k s)
again kind.Digest (digest d) may object = ap (λ (o : Option Digest1). option_map digest o)
    (digest_laws.again d may object)
again kind.Time (moment m) may object = ap (λ (o : Option ℕ). option_map moment o) (time_laws.again m may object)
again kind.AdditionalDigest (other d) may object =
    ap (λ (o : Option (List ℕ × (List ℕ × List ℕ))). option_map other_of o)
    (other_laws.again (d.flavour, (d.algorithm, d.digest)) (
      may.flavour,
      (may.algorithm, (may.bytes, may.some)),
    ) object)
again kind.AdditionalSignature (over flavour line) may object =
    ap (λ (o : Option ((List ℕ × (List ℕ × (Fingerprint × Digest1))) × List ℕ)). option_map over_of o)
    (over_laws.again ((flavour, (line.algorithm, (line.identity, line.key_digest))), line.signature)
    (may.named.0, (may.named.1, (may.identity, may.key_digest))) object)
again kind.Signature (signed line) may object = signed_again line may object.bytes
again _ _ may object = absurd may

names_are : (found : Option Algorithm)
    → (is_argument (algorithm_name found) ≡ true) × (fingerprint (algorithm_name found) ≡ None)
unfolding fields.hex
names_are None = (refl, refl)
names_are (Some Sha1) = (refl, refl)
names_are (Some Sha256) = (refl, refl)

signed_fits : (s : Option Signed) → AreSignedIf s → IsRead kind.Signature (signed_if s)
signed_fits None is = tt
signed_fits (Some s) is =
    record { named = names_are s.algorithm; identity = is.identity; key_digest = is.key_digest }

fits : (k : DetachedKind) (words : Words) → IsLineRest words.arguments → Gives (IsRead k) (means k words)
fits kind.Digest words rest = said_gives _ (IsRead kind.Digest) _ digest (digest_laws.fits words rest) (λ d is. is)
fits kind.Time words rest = said_gives _ (IsRead kind.Time) _ moment (time_laws.fits words rest) (λ n is. is)
fits kind.AdditionalDigest words rest =
    said_gives OtherFits (IsRead kind.AdditionalDigest) _ other_of (other_laws.fits words rest)
    (λ x is. record { flavour = is.0; algorithm = is.1.0; bytes = is.1.1.0; some = is.1.1.1 })
fits kind.AdditionalSignature words rest =
    said_gives OverFits (IsRead kind.AdditionalSignature) _ over_of (over_laws.fits words rest)
    (λ x is. record { named = (is.0, is.1.0); identity = is.1.1.0; key_digest = is.1.1.1 })
fits kind.Signature words rest =
    said_gives AreSignedIf (IsRead kind.Signature) _ signed_if (known_gives (words_of words.arguments) words.object)
    signed_fits

-- ---- all of them

pub laws : RowLaws detached_tables meaning MayWrite IsRead
laws = record { tied = tied; again = again; fits = fits; known = λ k item. refl; steady = λ a b k item. refl }
