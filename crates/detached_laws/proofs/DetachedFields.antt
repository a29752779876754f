-- The fields of detached signatures as a table, and what is kept with places is what they say.
use Rattle.std.{proofs.Common.{◌≡◌, ℕ, List, [], ◌∷◌, Option, Some, None, refl}, specs.{Prelude.map, List.filter_map}}
use Rattle.std.specs.Option.{option_map}
use Rattle.dir_values.specs.declared.digest.Digest1.{Digest1}
use Rattle.frame_terms.specs.{Keywords.same, Rows.row, declared.{document.Taken.Taken, row.Count.TheVariants.Many}}
use Rattle.frame_terms.specs.declared.row.{Count.TheVariants.One, Row.Row}
use Rattle.frame_terms.specs.declared.keyword.Keyword.TheVariants as the
use Rattle.frame_values.specs.{Parts.moment_of, Values.{no_digest, number_in}, declared.values.Value.Value}
use Rattle.frame_values.specs.declared.values.Value.TheVariants as value
use Rattle.consensus_terms.specs.declared.signature.SignatureLine.{SignatureLine}
use Rattle.detached_frame.specs.{Tables.detached_tables, declared.said.DetachedKind.DetachedKind}
use Rattle.detached_frame.specs.declared.said.DetachedValue.{DetachedValue}
use Rattle.detached_frame.specs.declared.said.DetachedKind.TheVariants as kind
use Rattle.detached_frame.specs.declared.said.DetachedValue.TheVariants as own
use Rattle.detached_doc.specs.{Facts.{detached_in, digest_in, line_in}, Kept.{kept_with, none_kept}, Order.in_order}
use Rattle.detached_doc.specs.declared.detached.{AdditionalDigest.AdditionalDigest, Detached.Detached}
use Rattle.detached_doc.specs.declared.detached.DetachedLine.{DetachedLine}
use Rattle.detached_doc.specs.Saying as saying
use Rattle.row_laws.proofs.{Again.IsOneSection, Lookups.{collected, first_said, looked_up, say_if}, Spoken.Field}
use Rattle.row_laws.proofs.Spoken.{Spoken, SpokenRow, field_rows, rows_at, spoken}
use Rattle.detached_laws.proofs.DetachedMeaning.{Saying, digest, moment, other, over, said, signed}

-- ---- its fields

abbrev pub over_if : DetachedLine → Option Saying
over_if line = option_map (λ (flavour : List ℕ). over flavour line.line) line.flavour

abbrev pub signed_of : Option (List ℕ) → SignatureLine → Option Saying
signed_of None line = Some (signed line)
signed_of (Some flavour) line = None

abbrev pub signed_if_plain : DetachedLine → Option Saying
signed_if_plain line = signed_of line.flavour line.line

abbrev pub first_row : Row DetachedKind
first_row = row the.ConsensusDigest One kind.Digest

abbrev pub opens : Detached → Saying
opens d = digest d.ns

abbrev pub fields : List (Field Detached DetachedKind Saying)
fields =
    record { row = row the.ValidAfter One kind.Time; values = λ d. moment d.valid_after ∷ [] }
    ∷ record { row = row the.FreshUntil One kind.Time; values = λ d. moment d.fresh_until ∷ [] }
    ∷ record { row = row the.ValidUntil One kind.Time; values = λ d. moment d.valid_until ∷ [] }
    ∷ record { row = row the.AdditionalDigest Many kind.AdditionalDigest; values = λ d. map other d.additional }
    ∷ record {
      row = row the.AdditionalSignature Many kind.AdditionalSignature;
      values = λ d. filter_map over_if (in_order d.signatures);
    }
    ∷ record {
      row = row the.DirectorySignature Many kind.Signature;
      values = λ d. filter_map signed_if_plain (in_order d.signatures);
    }
    ∷ []

abbrev pub others : Detached → List (SpokenRow DetachedKind Saying)
others d = rows_at d fields

pub table : IsOneSection detached_tables first_row (field_rows fields)
unfolding same
table = record {
  table = refl;
  apart = refl;
  plain = refl;
  begins = record { begins = refl; row_there = refl };
  ends = refl;
  forgets = λ across one. refl;
}

-- ---- what it says by what stands in it

abbrev pub digest_of : Option Saying → Digest1
digest_of (Some (digest d)) = d
digest_of _ = record { 0 = no_digest }

abbrev pub number_of : Option Saying → ℕ
number_of (Some (moment m)) = m
number_of _ = 0

abbrev pub other_if : Saying → Option AdditionalDigest
other_if (other d) = Some d
other_if _ = None

abbrev pub line_if : Saying → Option DetachedLine
line_if (over flavour line) = Some (record { flavour = Some flavour; line = line })
line_if (signed line) = Some (record { flavour = None; line = line })
line_if _ = None

abbrev pub lines_of : List (Spoken Saying) → List DetachedLine
lines_of all = filter_map (λ (one : Spoken Saying). line_if one.value) all

abbrev pub others_of : List (Spoken Saying) → List AdditionalDigest
others_of all = filter_map (λ (one : Spoken Saying). other_if one.value) all

abbrev pub facts_of : List (Spoken Saying) → Detached
facts_of all = record {
  ns = digest_of (first_said all the.ConsensusDigest);
  valid_after = moment_of (number_of (first_said all the.ValidAfter));
  fresh_until = moment_of (number_of (first_said all the.FreshUntil));
  valid_until = moment_of (number_of (first_said all the.ValidUntil));
  additional = others_of all;
  signatures = lines_of all;
}

-- ---- what is kept with places is that

module _ (bytes : List ℕ) where
  pub digest_same : (o : Option (Taken (Value DetachedValue))) → saying.digest_in o ≡ digest_of (say_if (said bytes) o)
  digest_same None = refl
  digest_same (Some one) = by one.value
    where
      by : (v : Value DetachedValue)
          → saying.digest_in (Some (record one { value = v })) ≡ digest_of (Some (said bytes v))
      by (value.Own (own.Signature None)) = refl
      by (value.Own (own.Signature (Some s))) = refl
      by _ = refl

  number_same : (o : Option (Taken (Value DetachedValue)))
      → moment_of (number_in o) ≡ moment_of (number_of (say_if (said bytes) o))
  number_same None = refl
  number_same (Some one) = by one.value
    where
      by : (v : Value DetachedValue)
          → moment_of (number_in (Some (record one { value = v }))) ≡ moment_of (number_of (Some (said bytes v)))
      by (value.Own (own.Signature None)) = refl
      by (value.Own (own.Signature (Some s))) = refl
      by _ = refl

  pub other_same : (v : Value DetachedValue) → option_map (digest_in bytes) (saying.digest_if v) ≡ other_if
      (said bytes v)
  other_same (value.Own (own.Signature None)) = refl
  other_same (value.Own (own.Signature (Some s))) = refl
  other_same _ = refl

  pub line_same : (v : Value DetachedValue) → option_map (line_in bytes) (saying.line_if v) ≡ line_if (said bytes v)
  line_same (value.Own (own.Signature None)) = refl
  line_same (value.Own (own.Signature (Some s))) = refl
  line_same _ = refl

  pub kept_same : (taken : List (Taken (Value DetachedValue)))
      → detached_in bytes (kept_with none_kept tt taken)
      ≡ facts_of (map (λ (one : Taken (Value DetachedValue)). spoken one.keyword (said bytes one.value)) taken)
  kept_same taken = λ i. record {
    ns = looked_up (said bytes) saying.digest_in digest_of digest_same taken the.ConsensusDigest i;
    valid_after =
        looked_up (said bytes) (λ o. moment_of (number_in o))
        (λ o. moment_of (number_of o)) number_same taken the.ValidAfter i;
    fresh_until =
        looked_up (said bytes) (λ o. moment_of (number_in o))
        (λ o. moment_of (number_of o)) number_same taken the.FreshUntil i;
    valid_until =
        looked_up (said bytes) (λ o. moment_of (number_in o))
        (λ o. moment_of (number_of o)) number_same taken the.ValidUntil i;
    additional = collected (said bytes) (digest_in bytes) saying.digest_if other_if other_same taken i;
    signatures = collected (said bytes) (line_in bytes) saying.line_if line_if line_same taken i;
  }
