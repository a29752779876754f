-- What stands in the section of a station, and in the certificate's inside it.
use Rattle.std.proofs.{Common.{◌≡◌, ℕ, true, List, [], ◌∷◌, Option, Some, None, refl}, lemmas.List.Elements.All-cons}
use Rattle.std.{proofs.lemmas.List.Elements.All-nil, specs.Prelude.{All, IfSome, is_some}}
use Rattle.frame_terms.specs.{declared.keyword.Keyword.Keyword, Keywords.same, Order.inner}
use Rattle.frame_terms.specs.declared.keyword.Keyword.TheVariants as the
use Rattle.frame_values.specs.Values.{item_at}
use Rattle.document_laws.specs.Counts.{RowsStand}
use Rattle.row_laws.proofs.{KindRanges.{IsNotInside, once_there}, Saying.EachStands}
use Rattle.range_laws.proofs.{CertRanges.HaveCertificates, VoteStands.any_says}
use Rattle.station_input.specs.{Tables.station_tables, declared.frame.StationSection.StationSection}
use Rattle.station_input.specs.{declared.frame_said.MeasuredRelay.MeasuredRelay, Saying.{measured_if, measured_in}}
use Rattle.station_input.specs.Saying.{onto_if}
use Rattle.station_input.specs.declared.frame.StationKind.TheVariants as kind
use Rattle.station_input.specs.declared.frame.StationSection.TheVariants as its
use Rattle.maker_laws.{specs.Ranges.IsMeasuredInRange, proofs.StationReads.measured_says}
use Rattle.station_laws.proofs.KeptLines.{StationTaken, only_certificate}

-- ---- a section inside another

-- it is the certificate, which begins with its opener
only_certificates : (around : StationSection) (keyword : Keyword) (name : StationSection)
    → inner station_tables around keyword ≡ Some name
    → (name ≡ its.Certificate) × (same the.DirKeyCertificateVersion keyword ≡ true)
only_certificates its.Station keyword name e = only_certificate keyword name e
only_certificates its.Certificate keyword name e = absurd (cc (e))

pub certificates : HaveCertificates station_tables its.Certificate kind.Certificate
certificates = record {
  rows = refl;
  values = λ across of item. refl;
  apart = λ around keyword begins. (only_certificates around keyword its.Certificate begins).1;
}

-- no item begins the station's section inside another
pub never_station : (keyword : Keyword) → IsNotInside station_tables its.Station keyword
never_station keyword around other named begins = absurd (cc ((only_certificates around other its.Station begins).0))

-- the line of the authority itself stands
pub own_there : (taken : List StationTaken) → RowsStand station_tables its.Station taken
    → is_some (item_at taken the.Own) ≡ true
unfolding same
own_there taken counts =
    by (item_at taken the.Own) (λ none. once_there station_tables its.Station taken the.Own kind.Source refl counts none)
  where
    by : (one : Option StationTaken) → (one ≡ None → ⊥) → is_some one ≡ true
    by None there = absurd (there refl)
    by (Some one) there = refl

-- ---- what was measured

pub measured_ranged : (bytes : List ℕ) (name : StationSection) (taken : List StationTaken)
    → EachStands station_tables bytes name taken → All IsMeasuredInRange (measured_in taken)
measured_ranged bytes name [] each = All-nil IsMeasuredInRange
measured_ranged bytes name (one ∷ taken) each =
    by (measured_if one.value) (measured_says (any_says each.0).1) (measured_ranged bytes name taken each.1)
  where
    by : (relay : Option MeasuredRelay) → IfSome relay IsMeasuredInRange → All IsMeasuredInRange (measured_in taken)
        → All IsMeasuredInRange (onto_if relay (measured_in taken))
    by None is more = more
    by (Some relay) is more = All-cons IsMeasuredInRange relay (measured_in taken) is more
