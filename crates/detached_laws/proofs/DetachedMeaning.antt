-- What the items of detached signatures mean, without places, and how they are written.
use Rattle.std.{proofs.Common.{ℕ, ◌≤◌, List, [], Option, Some, None}, specs.Prelude.{codes, if◌then◌else◌}}
use Rattle.std.specs.Option.{option_map}
use Rattle.dir_bytes.specs.Causes.{last_moment}
use Rattle.item_terms.specs.Words.{words_of}
use Rattle.dir_values.specs.declared.digest.{Digest1.Digest1, Fingerprint.Fingerprint}
use Rattle.frame_values.specs.{Parts.part, declared.{found.Span.Span, values.Value.Value}, Ranges.AreTwenty}
use Rattle.frame_values.specs.declared.values.Value.TheVariants as value
use Rattle.consensus_terms.specs.{Signed.signer_text, declared.signature.SignatureLine.SignatureLine}
use Rattle.consensus_doc.specs.Drafts.{algorithm_name}
use Rattle.consensus_laws.specs.Again.{is_known}
use Rattle.detached_frame.specs.declared.said.{DetachedKind.DetachedKind, DetachedValue.DetachedValue}
use Rattle.detached_frame.specs.declared.said.DetachedKind.TheVariants as kind
use Rattle.detached_frame.specs.declared.said.DetachedValue.TheVariants as own
use Rattle.detached_doc.specs.{Facts.{additional_in, digest_in}, declared.detached.AdditionalDigest.AdditionalDigest}
use Rattle.row_laws.proofs.{ItemKinds.{Kind, a_time, of_line, with_any}, Columns.{a_hex, a_key, a_word, an_identity}}
use Rattle.row_laws.proofs.{Columns.{before, last}, Signatures.{Signed, known_means, signed_in}, Rows.Meaning}
use Rattle.row_laws.proofs.Spoken.{Rest, Words}
use Rattle.detached_laws.specs.Again.{IsDigestInRange, IsLineInRange}

-- what an item says
pub data Saying : Type 0 where
  digest : Digest1 → Saying
  moment : ℕ → Saying
  other : AdditionalDigest → Saying
  over : List ℕ → SignatureLine → Saying
  signed : SignatureLine → Saying
  unknown : Saying

-- ---- in the input's bytes

abbrev pub line_of : Signed → SignatureLine
line_of s = record {
  algorithm = algorithm_name s.algorithm;
  identity = s.identity;
  key_digest = s.key_digest;
  signature = s.signature;
}

abbrev pub signed_if : Option Signed → Saying
signed_if None = unknown
signed_if (Some s) = signed (line_of s)

abbrev pub said : List ℕ → Value DetachedValue → Saying
said bytes (value.Number n) = moment n
said bytes (value.Own (own.Digest d)) = digest d
said bytes (value.Own (own.AdditionalDigest line)) = other (digest_in bytes line)
said bytes (value.Own (own.AdditionalSignature line)) = over (part bytes line.flavour) (additional_in bytes line)
said bytes (value.Own (own.Signature s)) = signed_if (option_map (signed_in bytes) s)
said bytes _ = unknown

-- ---- the kinds of its items

abbrev pub digest_kind : Kind Digest1 Digest1
digest_kind = of_line (last a_key)

abbrev pub other_kind : Kind (Span × (Span × Span)) (List ℕ × (List ℕ × List ℕ))
other_kind = of_line (before a_word (before a_word (last a_hex)))

abbrev pub over_kind : Kind ((Span × (Span × (Fingerprint × Digest1))) × Span)
    ((List ℕ × (List ℕ × (Fingerprint × Digest1))) × List ℕ)
over_kind = with_any (codes "SIGNATURE") (before a_word (before a_word (before an_identity (last a_key))))

abbrev pub other_of : List ℕ × (List ℕ × List ℕ) → Saying
other_of x = other (record { flavour = x.0; algorithm = x.1.0; digest = x.1.1 })

abbrev pub over_of : (List ℕ × (List ℕ × (Fingerprint × Digest1))) × List ℕ → Saying
over_of x = over x.0.0 (record { algorithm = x.0.1.0; identity = x.0.1.1.0; key_digest = x.0.1.1.1; signature = x.1 })

abbrev pub means : DetachedKind → Words → Option Saying
means kind.Digest words = option_map digest (digest_kind.means words)
means kind.Time words = option_map moment (a_time.means words)
means kind.AdditionalDigest words = option_map other_of (other_kind.means words)
means kind.AdditionalSignature words = option_map over_of (over_kind.means words)
means kind.Signature words = option_map signed_if (known_means (words_of words.arguments) words.object)

-- ---- as they are written

abbrev pub write : DetachedKind → Saying → Rest
write k (digest d) = digest_kind.write d
write k (moment m) = a_time.write m
write k (other d) = other_kind.write (d.flavour, (d.algorithm, d.digest))
write k (over flavour line) =
    over_kind.write ((flavour, (line.algorithm, (line.identity, line.key_digest))), line.signature)
write k (signed line) =
    record { rest = signer_text line; object = Some (record { words = codes "SIGNATURE"; bytes = line.signature }) }
write k unknown = record { rest = []; object = None }

-- as they are read then
abbrev pub as_said : DetachedKind → Saying → Saying
as_said k (signed line) = if is_known line.algorithm then signed line else unknown
as_said k s = s

abbrev pub meaning : Meaning DetachedKind (Value DetachedValue) Saying
meaning = record { said = said; means = means; write = write; as_read = as_said; none = value.Nothing }

-- ---- what is in range

-- what may be written of a kind
abbrev pub MayWrite : DetachedKind → Saying → Type 0
MayWrite kind.Digest (digest d) = AreTwenty d.0
MayWrite kind.Time (moment m) = m ≤ last_moment
MayWrite kind.AdditionalDigest (other d) = IsDigestInRange d
MayWrite kind.AdditionalSignature (over flavour line) =
    IsLineInRange (record { flavour = Some flavour; line = line })
MayWrite kind.Signature (signed line) = IsLineInRange (record { flavour = None; line = line })
MayWrite _ _ = ⊥

-- what is read
abbrev pub InRange : Saying → Type 0
InRange (digest d) = AreTwenty d.0
InRange (other d) = IsDigestInRange d
InRange (over flavour line) = IsLineInRange (record { flavour = Some flavour; line = line })
InRange (signed line) = IsLineInRange (record { flavour = None; line = line })
InRange _ = Unit {0}

abbrev pub IsRead : DetachedKind → Saying → Type 0
IsRead k s = InRange s
