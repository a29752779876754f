-- The sections of a station input, and what it is given of which these were read.
use Rattle.std.proofs.Common.{◌≡◌, ◌⊎◌, ℕ, Bool, true, false, List, [], ◌∷◌, ◌++◌, Option, Some, None, Result, Ok, Err}
use Rattle.std.{proofs.Common.{refl, ap, subst, ◌∙◌, inl, inr, map}, specs.Prelude.{length, replicate, if◌then◌else◌}}
use Rattle.std.specs.List.{fold}
use Rattle.count_terms.specs.declared.newest.Newest.{Newest}
use Rattle.frame_terms.specs.{Documents.{Document, document_of, group}, Keywords.same, Order.inner}
use Rattle.frame_terms.specs.declared.{document.{Group.Group, Taken.Taken}, fault.ReadRefusal.ReadRefusal}
use Rattle.frame_terms.specs.declared.keyword.Keyword.{Keyword}
use Rattle.frame_terms.specs.declared.keyword.Keyword.TheVariants as the
use Rattle.frame_values.specs.declared.values.Value.{Value}
use Rattle.item_terms.specs.Items.{items_of}
use Rattle.document_laws.specs.{Order.{AreInOrder, Part, sections_of}, Documents.AreParts, Parts.{AreOthers, IsPart}}
use Rattle.station_input.specs.{Tables.station_tables, declared.across.Across.Across}
use Rattle.station_input.specs.declared.{frame.StationSection.StationSection, frame_said.StationValue.StationValue}
use Rattle.station_input.specs.{declared.facts.StationFacts.StationFacts, Facts.facts_of, Kept.{kept_with, none_kept}}
use Rattle.station_input.specs.Reading.{max_station}
use Rattle.station_input.specs.declared.frame.StationSection.TheVariants as its
use Rattle.station_laws.proofs.StationTables.{stations_are_exact}

abbrev pub StationTaken : Type 0
StationTaken = Taken (Value StationValue)

abbrev pub StationGroup : Type 0
StationGroup = Group StationSection (Value StationValue)

abbrev pub StationPart : Type 0
StationPart = Part StationSection (Value StationValue)

-- ---- the sections of a station input

-- What is read is the station's section, with the certificate inside it or none.
pub record HasSections (document : Document StationSection (Value StationValue)) : Type 0 where
  pub part : StationPart
  pub next : Across
  pub section : part.whole.section ≡ its.Station
  pub is_part : IsPart station_tables station_tables.start part next
  pub are : document.groups ≡ part.inside ++ part.whole ∷ []

one_part : (parts : List StationPart) → map (λ (part : StationPart). part.whole.section) parts ≡ its.Station ∷ []
    → (part : StationPart) × (parts ≡ part ∷ []) × (part.whole.section ≡ its.Station)
one_part [] is = absurd (cc (is))
one_part (part ∷ []) is = (part, refl, cc)
one_part (part ∷ other ∷ parts) is = absurd (cc (is))

names_are : (names : List StationSection) → AreInOrder station_tables (its.Station ∷ []) names
    → names ≡ its.Station ∷ []
names_are names is =
    is.2 ∙ ap (λ (k : ℕ). replicate k its.Station ++ is.1) is.3
    ∙ ap (λ (l : List StationSection). its.Station ∷ l) is.4

pub sections_are : (bytes : List ℕ) (document : Document StationSection (Value StationValue))
    → document_of station_tables (length bytes) (items_of max_station bytes) ≡ Ok document → HasSections document
sections_are bytes document is =
    let exact = (stations_are_exact.exact (length bytes) (items_of max_station bytes) document).0 is in
    let names =
    names_are (map (λ (part : StationPart). part.whole.section) exact.parts) exact.in_order in
    let one = one_part exact.parts names in
    let each = subst (AreParts station_tables station_tables.start) one.1 exact.each in
    record {
      part = one.0;
      next = each.0;
      section = one.2;
      is_part = each.1;
      are = exact.are ∙ ap (λ (l : List StationPart). sections_of l) one.1;
    }

-- the certificate's section where its opener is there
abbrev pub certificate_if : Bool → Option StationSection
certificate_if test = if test then Some its.Certificate else None

-- only the certificate stands inside a station's section, and it begins with its opener
pub only_certificate : (keyword : Keyword) (name : StationSection)
    → inner station_tables its.Station keyword ≡ Some name
    → (name ≡ its.Certificate) × (same the.DirKeyCertificateVersion keyword ≡ true)
only_certificate keyword name e = by (same the.DirKeyCertificateVersion keyword) refl e
  where
    by : (t : Bool) → same the.DirKeyCertificateVersion keyword ≡ t → certificate_if t ≡ Some name
        → (name ≡ its.Certificate) × (same the.DirKeyCertificateVersion keyword ≡ true)
    by true is found = (cc, is)
    by false is found = absurd (cc (found))

-- the sections themselves: the station's, and before it the certificate's or none
abbrev pub AreSections : List StationGroup → List StationTaken → Type 0
AreSections groups others =
    (groups ≡ group its.Station others ∷ [])
    ⊎ ((taken : List StationTaken) × (groups ≡ group its.Certificate taken ∷ group its.Station others ∷ []))

pub groups_are : (document : Document StationSection (Value StationValue)) (has : HasSections document)
    → AreSections document.groups has.part.whole.taken
groups_are document has = by has.part.inside has.section has.is_part.others
  where
    whole : StationGroup
    whole = has.part.whole

    named : has.part.whole.section ≡ its.Station → whole ≡ group its.Station whole.taken
    named e = ap (λ (s : StationSection). group s whole.taken) e

    by : (inside : List StationGroup) → has.part.whole.section ≡ its.Station
        → AreOthers station_tables has.part.whole.section has.is_part.with_first has.is_part.items_between
        has.part.inside has.is_part.between has.is_part.before_last
        → AreSections document.groups has.part.whole.taken
    by inside e (inl none) =
        inl (has.are ∙ ap (λ (l : List StationGroup). l ++ whole ∷ []) none.0
        ∙ ap (λ (g : StationGroup). g ∷ []) (named e))
    by inside e (inr have) =
        let opens : inner station_tables its.Station have.one.keyword ≡ Some have.whole.section =
        subst (λ (s : StationSection). inner station_tables s have.one.keyword
        ≡ Some have.whole.section) e have.is.opens in
        let certificate = (only_certificate have.one.keyword have.whole.section opens).0 in
        inr (
          have.whole.taken,
          has.are ∙ ap (λ (l : List StationGroup). l ++ whole ∷ []) have.only
              ∙ ap (λ (s : StationSection). group s have.whole.taken ∷ whole ∷ []) certificate
              ∙ ap (λ (g : StationGroup). group its.Certificate have.whole.taken ∷ g ∷ []) (named e),
        )

-- what a station is given of which these sections were read
abbrev pub facts_in : Newest → List ℕ → List StationGroup → StationFacts
facts_in newest bytes groups =
    facts_of newest bytes (fold (λ kept (g : StationGroup). kept_with kept g.section g.taken) none_kept groups)

-- ---- what is read

abbrev facts_or : StationFacts → Result (StationFacts × ℕ) ReadRefusal → StationFacts
facts_or other (Ok found) = found.0
facts_or other (Err refusal) = other

abbrev as_facts : StationFacts → ℕ → Result (StationFacts × ℕ) ReadRefusal
as_facts facts used = Ok (facts, used)

pub same_facts : (a b : StationFacts) (m n : ℕ) → as_facts a m ≡ as_facts b n → a ≡ b
same_facts a b m n is = ap (facts_or a) is
