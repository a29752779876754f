-- An item of the certificate inside a station input is one of a certificate that stands alone.
use Rattle.std.proofs.Common.{◌≡◌, ℕ, Bool, true, false, List, Option, Some, None, Result, Ok, refl, sym, ap, ◌∙◌, inl}
use Rattle.std.{proofs.{Common.inr, lemmas.Bool.false≢true}, specs.Prelude.{IfSome, is_some, option_map, ◌||◌}}
use Rattle.std.specs.List.{AllByRecursion}
use Rattle.item_terms.specs.Items.{Item}
use Rattle.frame_terms.specs.{Keywords.{same, word_of}, Order.{is_strange, knows, knows_in, knows_with}}
use Rattle.frame_terms.specs.{Sections.{row_of, taken_of}, declared.keyword.Keyword.Keyword}
use Rattle.frame_terms.specs.{declared.row.{Count.TheVariants.One, Row.Row}, Rows.row}
use Rattle.frame_terms.specs.declared.keyword.Keyword.TheVariants as the
use Rattle.frame_values.specs.{Faults.at_place, declared.values.Value.Value}
use Rattle.authority_certs.specs.{Tables.{cert_tables, cert_value}, declared.frame.CertKind.CertKind}
use Rattle.authority_certs.specs.declared.frame.CertKind.TheVariants as cert
use Rattle.certificate_laws.proofs.{CertRows.HasCertificates, Holding.{CertTaken, Said, alone_rows, row_inside}}
use Rattle.certificate_laws.proofs.{Holding.row_there, CertMakes.object_there, MovedValues.said_back}
use Rattle.certificate_laws.{proofs.Simulated.taken_of_moved, specs.{Given.IsNoStranger, Lifted.moved_taken}}
use Rattle.document_laws.{specs.{Items.IsItemOf, Passing.IsPassedIn}, proofs.Openers.{row_of-one, row_of-same}}
use Rattle.frame_laws.proofs.KnownWords.{same-through}
use Rattle.grammar_laws.specs.Moved.{moved_item}
use Rattle.row_laws.proofs.ReadSteps.{placed}
use Rattle.vote_frame.specs.Tables.{vote_tables}
use Rattle.vote_frame.specs.declared.frame.VoteSection.TheVariants as vote
use Rattle.station_input.specs.{Tables.station_tables, declared.{across.Across.Across, frame.StationKind.StationKind}}
use Rattle.station_input.specs.declared.frame_said.StationValue.{StationValue}
use Rattle.station_input.specs.declared.frame.StationKind.TheVariants as kind
use Rattle.station_input.specs.declared.frame.StationSection.TheVariants as its
use Rattle.station_laws.proofs.KeptLines.{StationTaken}

-- ---- rows

pub has : HasCertificates station_tables its.Certificate kind.Certificate
unfolding same
has = record {
  rows = refl;
  shape = refl;
  plain = λ cert. refl;
  known = λ of item. refl;
  values = λ across of item. refl;
}

abbrev pub in_station : Row CertKind → Row StationKind
in_station row = row_inside kind.Certificate row

-- the row of a keyword is one of a certificate's
record HasRow (keyword : Keyword) (row : Row StationKind) : Type 0 where
  alone : Row CertKind
  there : row_of alone_rows keyword ≡ Some alone
  is : in_station alone ≡ row

abbrev row_or : Row StationKind → Option (Row StationKind) → Row StationKind
row_or other (Some row) = row
row_or other None = other

row_back : (keyword : Keyword) (row : Row StationKind)
    → row_of (station_tables.rows its.Certificate) keyword ≡ Some row
    → HasRow keyword row
row_back keyword row there =
    by (row_of alone_rows keyword) refl (sym
    (row_there station_tables its.Certificate kind.Certificate has keyword) ∙ there)
  where
    by : (found : Option (Row CertKind)) → row_of alone_rows keyword ≡ found → option_map in_station found ≡ Some row
        → HasRow keyword row
    by None e is = absurd (cc (is))
    by (Some alone) e is = record { alone = alone; there = e; is = ap (row_or row) is }

-- the row of the first item is that of a certificate's version
abbrev opening_row : Row CertKind
opening_row = row the.DirKeyCertificateVersion One cert.Version

-- ---- an item

-- what is taken of an item is taken of it where the certificate stands alone
pub record WasTaken (n : ℕ) (item : Item) (one : StationTaken) : Type 0 where
  pub alone : CertTaken
  pub is : moved_taken n alone ≡ one
  pub of : IsItemOf cert_tables tt tt item alone

-- by a row that is one of a certificate's
taken_back : (n : ℕ) (item : Item) (one : StationTaken) (keyword : Keyword) (alone : Row CertKind)
    (v : Value StationValue) → word_of item.keyword ≡ Some keyword → row_of alone_rows keyword ≡ Some alone
    → cert_value {V = StationValue} alone.kind (moved_item n item) ≡ Ok v → one ≡ taken_of alone.keyword (moved_item n item) v
    → WasTaken n item one
taken_back n item one keyword alone v known there says stands =
    let was = said_back n alone.kind item v says in
    record {
      alone = taken_of alone.keyword item was.said;
      is = sym (taken_of_moved n alone.keyword item was.said)
          ∙ ap (λ (w : Value StationValue). taken_of alone.keyword (moved_item n item) w) was.lifts
          ∙ sym stands;
      of = record {
        keyword = keyword;
        row = alone;
        known = known;
        has_row = there;
        value = was.said;
        says = ap (λ (r : Result Said ℕ). at_place r) was.is;
        stands = refl;
      };
    }

-- an item of the certificate's section
pub of_back : (n : ℕ) (item : Item) (one : StationTaken) (remembered : Across)
    → IsItemOf station_tables remembered its.Certificate (moved_item n item) one → WasTaken n item one
of_back n item one remembered of =
    let found = row_back of.keyword of.row of.has_row in
    let says : station_tables.value_of remembered (in_station found.alone).kind (moved_item n item) ≡ Ok of.value =
    ap (λ (r : Row StationKind). station_tables.value_of remembered r.kind (moved_item n item)) found.is ∙ of.says in
    let read : cert_value {V = StationValue} found.alone.kind (moved_item n item) ≡ Ok of.value =
    placed (cert_value found.alone.kind (moved_item n item)) of.value says in
    taken_back n item one of.keyword found.alone of.value of.known found.there read
    (of.stands ∙ ap (λ (r : Row StationKind). taken_of r.keyword (moved_item n item) of.value) (sym found.is))

abbrev station_rows : List (Row StationKind)
station_rows = station_tables.rows its.Station

opens_there : row_of station_rows the.DirKeyCertificateVersion ≡ Some (in_station opening_row)
unfolding same
opens_there = refl

opens_alone : row_of alone_rows the.DirKeyCertificateVersion ≡ Some opening_row
unfolding same
opens_alone = refl

-- the first item, which is one of the station's section
pub first_back : (n : ℕ) (item : Item) (one : StationTaken) (remembered : Across)
    → IsItemOf station_tables remembered its.Station (moved_item n item) one
    → same the.DirKeyCertificateVersion one.keyword ≡ true → WasTaken n item one
first_back n item one remembered of opens =
    let k = of.keyword in
    let named : same of.row.keyword k ≡ true = row_of-same station_rows k of.row of.has_row in
    let opens_row : same the.DirKeyCertificateVersion of.row.keyword ≡ true =
    ap (λ (o : StationTaken). same the.DirKeyCertificateVersion o.keyword) (sym of.stands) ∙ opens in
    let opens_k : same the.DirKeyCertificateVersion k ≡ true =
    same-through the.DirKeyCertificateVersion of.row.keyword k opens_row ∙ named in
    let both : Some (in_station opening_row) ≡ Some of.row =
    sym opens_there ∙ row_of-one station_rows the.DirKeyCertificateVersion k opens_k ∙ of.has_row in
    let row_is : in_station opening_row ≡ of.row = ap (row_or of.row) both in
    let there : row_of alone_rows k ≡ Some opening_row =
    sym (row_of-one alone_rows the.DirKeyCertificateVersion k opens_k) ∙ opens_alone in
    let says : station_tables.value_of remembered (in_station opening_row).kind (moved_item n item) ≡ Ok of.value =
    ap (λ (r : Row StationKind). station_tables.value_of remembered r.kind (moved_item n item)) row_is ∙ of.says in
    let read : cert_value {V = StationValue} cert.Version (moved_item n item) ≡ Ok of.value =
    placed (cert_value cert.Version (moved_item n item)) of.value says in
    taken_back n item one k opening_row of.value of.known there read
    (of.stands ∙ ap (λ (r : Row StationKind). taken_of r.keyword (moved_item n item) of.value) (sym row_is))

-- ---- strangers

-- none of these is a stranger in a vote's certificate
abbrev pub NoStrangers : List Item → Type 0
NoStrangers items = AllByRecursion (λ (item : Item). IsNoStranger vote_tables vote.Certificate item) items

-- an item of a row is none
pub no_stranger_of : (item : Item) (keyword : Keyword) (row : Row CertKind) → word_of item.keyword ≡ Some keyword
    → row_of alone_rows keyword ≡ Some row → IsNoStranger vote_tables vote.Certificate item
no_stranger_of item keyword row known there = by (word_of item.keyword) known
  where
    by : (word : Option Keyword) → word ≡ Some keyword
        → IfSome word (λ k. row_of alone_rows k ≡ None → is_strange vote_tables vote.Certificate k ≡ false)
    by None is = tt
    by (Some k) is = λ none.
        let same_word : k ≡ keyword = cc in
        let both : Some row ≡ None = sym there ∙ ap (λ (w : Keyword). row_of alone_rows w) (sym same_word) ∙ none in
        absurd (cc (both))

-- an item that the station's certificate passes over is passed over alone, and is none
pub record IsPassedBoth (item : Item) : Type 0 where
  pub alone : IsPassedIn cert_tables tt item
  pub none : IsNoStranger vote_tables vote.Certificate item

-- what is no stranger to the certificate of a station is no keyword of a certificate nor of a vote
known_to_neither : (keyword : Keyword) → is_strange station_tables its.Certificate keyword ≡ false
    → (is_strange cert_tables tt keyword ≡ false) × (is_strange vote_tables vote.Certificate keyword ≡ false)
known_to_neither keyword is =
    let parts = or_false (knows station_tables keyword) (knows vote_tables keyword) is in
    let sections = or_false (knows_with station_tables its.Station keyword) false parts.0 in
    let inside =
    or_false (knows_in station_tables its.Station keyword)
    (knows_in station_tables its.Certificate keyword) sections.0 in (
      both_false (knows_in station_tables its.Certificate keyword) inside.1,
      vote_false
          (knows vote_tables keyword) parts.1,
    )
  where
    or_false : (a b : Bool) → (a || b) ≡ false → (a ≡ false) × (b ≡ false)
    or_false false b e = (refl, e)
    or_false true b e = absurd (cc (e))

    both_false : (a : Bool) → a ≡ false → (((a || false) || false) || false) ≡ false
    both_false false e = refl
    both_false true e = absurd (cc (e))

    vote_false : (a : Bool) → a ≡ false → (a || false) ≡ false
    vote_false false e = refl
    vote_false true e = absurd (cc (e))

abbrev Unknown : Option Keyword → Type 0
Unknown word = IfSome word (λ k. is_strange station_tables its.Certificate k ≡ false)

pub passed_both : (n : ℕ) (item : Item) → IsPassedIn station_tables its.Certificate (moved_item n item) → IsPassedBoth item
passed_both n item (inl unknown) = by (word_of item.keyword) refl unknown
  where
    unknown_alone : (word : Option Keyword) → Unknown word → IfSome word (λ k. is_strange cert_tables tt k ≡ false)
    unknown_alone None is = tt
    unknown_alone (Some k) is = (known_to_neither k is).0

    unknown_vote : (word : Option Keyword) → Unknown word
        → IfSome word (λ k. row_of alone_rows k ≡ None → is_strange vote_tables vote.Certificate k ≡ false)
    unknown_vote None is = tt
    unknown_vote (Some k) is = λ none. (known_to_neither k is).1

    by : (word : Option Keyword) → word_of item.keyword ≡ word → Unknown (word_of item.keyword) → IsPassedBoth item
    by word e is = record {
      alone = inl (unknown_alone (word_of item.keyword) is);
      none = unknown_vote (word_of item.keyword) is;
    }
passed_both n item (inr ignored) = absurd (false≢true ignored.ignored)

-- ---- its last item

last_there : row_of alone_rows the.DirKeyCertification ≡ Some (row the.DirKeyCertification One cert.Certification)
unfolding same
last_there = refl

abbrev alone_or : Row CertKind → Option (Row CertKind) → Row CertKind
alone_or other (Some row) = row
alone_or other None = other

-- it has an object
pub has_object : (item : Item) (one : StationTaken) (remembered : Across)
    → IsItemOf station_tables remembered its.Certificate item one → same the.DirKeyCertification one.keyword ≡ true
    → is_some item.object ≡ true
has_object item one remembered of ends =
    let k = of.keyword in
    let found = row_back k of.row of.has_row in
    let named : same of.row.keyword k ≡ true =
    row_of-same (station_tables.rows its.Certificate) k of.row of.has_row in
    let ends_row : same the.DirKeyCertification of.row.keyword ≡ true =
    ap (λ (o : StationTaken). same the.DirKeyCertification o.keyword) (sym of.stands) ∙ ends in
    let ends_k : same the.DirKeyCertification k ≡ true =
    same-through the.DirKeyCertification of.row.keyword k ends_row ∙ named in
    let both : Some (row the.DirKeyCertification One cert.Certification) ≡ Some found.alone =
    sym last_there ∙ row_of-one alone_rows the.DirKeyCertification k ends_k ∙ found.there in
    let row_is : in_station (row the.DirKeyCertification One cert.Certification) ≡ of.row =
    ap (λ (o : Option (Row CertKind)). in_station (alone_or found.alone o)) both ∙ found.is in
    let says : station_tables.value_of remembered (kind.Certificate cert.Certification) item ≡ Ok of.value =
    ap (λ (r : Row StationKind). station_tables.value_of remembered r.kind item) row_is ∙ of.says in
    object_there cert.Certification item of.value refl (placed (cert_value cert.Certification item) of.value says)
