-- The tables of a station input are sound and clear.
use Rattle.std.proofs.{Common.{◌≡◌, true, false, [], Option, Some, None, refl, ap, subst}, lemmas.Option.none-some}
use Rattle.std.specs.{Prelude.IfSome, List.{AllByRecursion, IsDistinct}}
use Rattle.item_terms.specs.Items.{Item}
use Rattle.frame_terms.specs.declared.keyword.Keyword.TheVariants as the
use Rattle.frame_terms.specs.{declared.row.{Count.TheVariants.One, Row.Row}, Keywords.same, Order.following_sections}
use Rattle.frame_terms.specs.{Order.opener, Rows.row, Sections.row_of}
use Rattle.authority_certs.specs.declared.frame.CertKind.TheVariants as cert
use Rattle.station_input.specs.declared.frame.{StationKind.StationKind, StationSection.StationSection}
use Rattle.station_input.specs.Tables.{station_tables}
use Rattle.station_input.specs.declared.frame.StationKind.TheVariants as item
use Rattle.station_input.specs.declared.frame.StationSection.TheVariants as its
use Rattle.document_laws.specs.{Sound.{AreSound, IsInner, StandsOnce, ends_document}, Clear.{AreClear, IsEnd}}
use Rattle.document_laws.{specs.Clear.IsEntrance, proofs.Exact.are_exact}
use Rattle.station_laws.specs.Stations.{StationsAreExact}

-- ---- sound

openers : (section : StationSection) → StandsOnce station_tables section (opener station_tables section)
unfolding same
openers its.Station = record { row = row the.Station One item.Version; has_row = refl; once = refl }
openers its.Certificate =
    record {
      row = row the.DirKeyCertificateVersion One (item.Certificate cert.Version);
      has_row = refl;
      once = refl;
    }

lasts : (section : StationSection) → ends_document station_tables section ≡ true
    → following_sections station_tables section ≡ []
unfolding same
lasts its.Station ends = refl
lasts its.Certificate ends = refl

-- the certificate, which stands inside the station's section
inside_it : IsInner station_tables its.Certificate
unfolding same
inside_it = record {
  apart = refl;
  again = refl;
  plain = refl;
  last = the.DirKeyCertification;
  ends = refl;
  last_once = record {
    row = row the.DirKeyCertification One (item.Certificate cert.Certification);
    has_row = refl;
    once = refl;
  };
  later = refl;
}

section_or : Option StationSection → StationSection
section_or None = its.Station
section_or (Some section) = section

inners : (section inside : StationSection) → (station_tables.shape section).inner ≡ Some inside
    → IsInner station_tables inside
unfolding section_or
inners its.Station inside e = subst (λ (s : StationSection). IsInner station_tables s) (ap section_or e) inside_it
inners its.Certificate inside e = absurd (none-some inside e)

sound : AreSound station_tables
unfolding same IsDistinct
sound = record {
  others = [];
  begins = refl;
  apart = (tt, tt);
  opener_once = openers;
  ends_last = lasts;
  inner = inners;
}

-- ---- clear

rows_are_apart : (section : StationSection) → AllByRecursion
    (λ (row : Row StationKind). row_of (station_tables.rows section) row.keyword ≡ Some row)
    (station_tables.rows section)
unfolding same
rows_are_apart its.Station = (
  refl,
  (
    refl,
    (
      refl,
      (
        refl,
        (
          refl,
          (
            refl,
            (
              refl,
              (
                refl,
                (
                  refl,
                  (
                    refl,
                    (
                      refl,
                      (
                        refl,
                        (
                          refl,
                          (
                            refl,
                            (
                              refl,
                              (refl, tt),
                            ),
                          ),
                        ),
                      ),
                    ),
                  ),
                ),
              ),
            ),
          ),
        ),
      ),
    ),
  ),
)
rows_are_apart its.Certificate = (refl, (refl, (refl, (refl, (refl, (refl, (refl, (refl, (refl, tt)))))))))

openers_are_apart : (section : StationSection) → AllByRecursion
    (λ (later : StationSection). row_of (station_tables.rows section) (opener station_tables later) ≡ None)
    (following_sections station_tables section)
unfolding same
openers_are_apart its.Station = tt
openers_are_apart its.Certificate = tt

regarded : (section : StationSection) → IfSome (row_of (station_tables.rows section) (opener station_tables section))
    (λ (row : Row StationKind). (item : Item) → station_tables.ignores row.kind item ≡ false)
unfolding same
regarded its.Station = λ item. refl
regarded its.Certificate = λ item. refl

ends : (section : StationSection)
    → IfSome ((station_tables.shape section).last) (λ last. IsEnd station_tables section last)
unfolding same
ends its.Station = record {
  last_once = record { row = row the.EndStation One item.Nothing; has_row = refl; once = refl };
  later = refl;
  stands_once = refl;
}
ends its.Certificate = record {
  last_once = record {
    row = row the.DirKeyCertification One (item.Certificate cert.Certification);
    has_row = refl;
    once = refl;
  };
  later = refl;
  stands_once = refl;
}

entrances : (section : StationSection)
    → IfSome ((station_tables.shape section).inner) (λ inside. IsEntrance station_tables section inside)
unfolding same
entrances its.Station = record {
  row = row the.DirKeyCertificateVersion One (item.Certificate cert.Version);
  has_row = refl;
  few = refl;
  regarded = λ it. refl;
  goes_on = refl;
}
entrances its.Certificate = tt

clear : AreClear station_tables
clear = record {
  sound = sound;
  first_stands = refl;
  rows_apart = rows_are_apart;
  openers_apart = openers_are_apart;
  regarded = regarded;
  ends = ends;
  entrance = entrances;
}

pub stations_are_exact : StationsAreExact
stations_are_exact = record { sound = sound; clear = clear; exact = are_exact station_tables clear }
