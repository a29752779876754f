-- Votes hold certificates.
use Rattle.std.proofs.Common.{◌≡◌, ℕ, ◌+◌, refl, Ok}
use Rattle.std.specs.Prelude.{}
use Rattle.frame_terms.specs.Keywords.{same}
use Rattle.frame_values.specs.declared.values.Value.TheVariants as value
use Rattle.certificate_laws.proofs.{CertRows.HasCertificates, Holding.{HoldsCertificates, Said}, StandInside.stand_is}
use Rattle.certificate_laws.specs.{Inside.GivenStandInside, Lifted.lifted_value}
use Rattle.vote_frame.specs.{Tables.{note_value, vote_tables}, declared.across.Across.Across}
use Rattle.vote_frame.specs.declared.frame.VoteSection.TheVariants.{Authority, Certificate}
use Rattle.vote_frame.specs.declared.frame.VoteKind.TheVariants as kind

-- nothing is remembered of a certificate's items
quiet : (across : Across) (place n : ℕ) (said : Said) → note_value across place (lifted_value n said) ≡ Ok across
quiet across place n value.Nothing = refl
quiet across place n (value.Text span) = refl
quiet across place n (value.Number number) = refl
quiet across place n (value.Fingerprint identity) = refl
quiet across place n (value.Object lines) = refl
quiet across place n (value.Own own) = refl

has_certificates : HasCertificates vote_tables Certificate kind.Certificate
unfolding same
has_certificates = record {
  rows = refl;
  shape = refl;
  plain = λ cert. refl;
  known = λ of item. refl;
  values = λ across of item. refl;
}

pub votes_hold : HoldsCertificates vote_tables Authority Certificate kind.Certificate kind.Version
unfolding same
votes_hold = record {
  has = has_certificates;
  none_follow = refl;
  inside = refl;
  among = record { row_there = refl; not_last = refl; begins_nothing = refl };
  known = λ item. refl;
  value = λ across item. refl;
  quiet = λ across n one. quiet across (one.place + n) n one.value;
}

pub given_stand : GivenStandInside
given_stand bytes cert given =
    stand_is vote_tables Authority Certificate kind.Certificate kind.Version votes_hold bytes cert given
