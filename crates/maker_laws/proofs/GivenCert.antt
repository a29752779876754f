-- The certificate inside a station input may stand in a vote.
use Rattle.std.proofs.Common.{◌≡◌, ℕ, ◌+◌, ◌-◌, Bool, true, false, List, [], ◌∷◌, ◌++◌, length, map, Some, None, Result}
use Rattle.std.proofs.Common.{Ok, Err, refl, sym, ap, subst, ◌∙◌, arith, append_assoc, append-nil, inl, inr}
use Rattle.std.{proofs.lemmas.List.take_all, specs.{Prelude.{replicate, slice_range}, List.fold}}
use Rattle.item_terms.specs.Items.{Item, items_of}
use Rattle.count_terms.specs.declared.newest.Newest.{Newest}
use Rattle.frame_terms.specs.{Documents.{Document, document_of, finish, group}, Keywords.same, Order.{inner, opener}}
use Rattle.frame_terms.specs.{Rows.row, declared.{fault.ReadRefusal.ReadRefusal, keyword.Keyword.Keyword}}
use Rattle.frame_terms.specs.declared.row.Count.TheVariants.{One}
use Rattle.frame_terms.specs.declared.keyword.Keyword.TheVariants as the
use Rattle.frame_values.specs.declared.values.Value.{Value}
use Rattle.authority_certs.specs.{Certs.{cert_in, whole_part}, Heads.head_of, declared.head.CertHead.CertHead}
use Rattle.authority_certs.specs.declared.cert.Cert.{Cert}
use Rattle.authority_certs.specs.declared.frame.CertKind.TheVariants as cert
use Rattle.document_laws.specs.{Counts.{RowsStand, times}, Order.{Part, sections_of}, Documents.AreParts}
use Rattle.document_laws.{specs.Parts.{AreBetween, AreOthers, HasLast, IsInside, IsPart}, proofs.Times.once}
use Rattle.document_laws.proofs.Times.{times-append, times-first}
use Rattle.document_laws.specs.Order as order
use Rattle.frame_laws.proofs.KnownWords.{same-sym, same-through}
use Rattle.certificate_laws.{specs.Given.IsGiven, proofs.{Holding.all_moved, MovedParts.certs_say}}
use Rattle.vote_frame.specs.Tables.{vote_tables}
use Rattle.vote_frame.specs.declared.frame.VoteSection.TheVariants as vote
use Rattle.station_input.specs.{Tables.station_tables, declared.across.Across.Across}
use Rattle.station_input.specs.declared.{frame.StationSection.StationSection, frame_said.StationValue.StationValue}
use Rattle.station_input.specs.{declared.facts.StationFacts.StationFacts, Facts.facts_of, Kept.{kept_with, none_kept}}
use Rattle.station_input.specs.Reading.{max_station, with_facts}
use Rattle.station_input.specs.declared.frame.StationKind.TheVariants as kind
use Rattle.station_input.specs.declared.frame.StationSection.TheVariants as its
use Rattle.station_laws.proofs.{StationTables.stations_are_exact, KeptLines.{StationGroup, StationTaken}}
use Rattle.station_laws.proofs.KeptLines.{certificate_if, only_certificate, same_facts}
use Rattle.maker_laws.{specs.CertsGiven.StationsCertificatesAreGiven, proofs.CertPlace.{HasCert, cut_inside}}

-- ---- the input

-- the sections of a station input: the certificate, and the one around it
record IsStationInput (input : List ℕ) (groups : List StationGroup) : Type 0 where
  taken : List StationTaken
  others : List StationTaken
  are : groups ≡ group its.Certificate taken ∷ group its.Station others ∷ []
  has : HasCert input taken

-- without a certificate inside there is none of its opener
none_between : (items : List Item) (taken : List StationTaken) (before after : Across)
    → AreBetween station_tables its.Station before items taken after → times the.DirKeyCertificateVersion taken ≡ 0
none_between [] taken before after is = ap (λ (l : List StationTaken). times the.DirKeyCertificateVersion l) is.0
none_between (item ∷ items) taken before after (inl is) = none_between items taken before after is.1
none_between (item ∷ items) taken before after (inr (one, rest, then_, come, ordinary, more)) =
    let later = none_between items rest then_ after more in
    let not_here = never_opens one.keyword ordinary.begins_none in
    let here : times the.DirKeyCertificateVersion (one ∷ rest) ≡ 0 + times the.DirKeyCertificateVersion rest =
    times-first the.DirKeyCertificateVersion one rest
    ∙ ap (λ (t : Bool). once t + times the.DirKeyCertificateVersion rest)
    (same-sym one.keyword the.DirKeyCertificateVersion ∙ not_here) in
    let all : times the.DirKeyCertificateVersion taken ≡ times the.DirKeyCertificateVersion (one ∷ rest) =
    ap (λ (l : List StationTaken). times the.DirKeyCertificateVersion l) come in
    omega (arith, all, here, later)
  where
    never_opens : (keyword : Keyword) → inner station_tables its.Station keyword ≡ None
        → same the.DirKeyCertificateVersion keyword ≡ false
    never_opens keyword e = by (same the.DirKeyCertificateVersion keyword) e
      where
        by : (t : Bool) → certificate_if t ≡ None → t ≡ false
        by false found = refl
        by true found = absurd (cc (found))

-- an item of another keyword is none of its opener
not_opener : (a b : Keyword) → same a b ≡ true → same the.DirKeyCertificateVersion a ≡ false
    → same b the.DirKeyCertificateVersion ≡ false
not_opener a b is other = sym (same-through a b the.DirKeyCertificateVersion is)
    ∙ same-sym a the.DirKeyCertificateVersion ∙ other

section_is : (part : Part StationSection (Value StationValue)) (next : Across)
    → part.whole.section ≡ its.Station → IsPart station_tables station_tables.start part next
    → (items : List Item) (left : List Item) → items ≡ part.items ++ left
    → (input : List ℕ) → (items_of max_station input).items ≡ items
    → IsStationInput input (part.inside ++ part.whole ∷ [])
unfolding same
section_is part next section is items left come input contents =
    by part.inside part.whole.section section is.others
  where
    around : List Item
    around = part.items ++ left

    five : (a b c d e : List Item) → ((a ++ (b ++ c)) ++ d) ++ e ≡ a ++ (b ++ (c ++ (d ++ e)))
    five a b c d e = simp append_assoc refl

    none_last : (last : List StationTaken)
        → HasLast station_tables its.Station (Some the.EndStation) is.before_last is.items_last last next
        → times the.DirKeyCertificateVersion last ≡ 0
    none_last last ends =
        ap (λ (l : List StationTaken). times the.DirKeyCertificateVersion l) ends.3
        ∙ times-first the.DirKeyCertificateVersion ends.1 []
        ∙ ap (λ (t : Bool). once t + 0) (not_opener the.EndStation ends.1.keyword ends.5 refl)

    never_once : times the.DirKeyCertificateVersion part.whole.taken ≡ 1
        → AreBetween station_tables part.whole.section is.with_first is.items_between is.between is.before_last → ⊥
    never_once once_ between =
        let first : same is.first_one.keyword the.DirKeyCertificateVersion ≡ false =
        not_opener the.Station is.first_one.keyword
        (subst (λ (s : StationSection). same (opener station_tables s) is.first_one.keyword
        ≡ true) section is.opens) refl in
        let middle = none_between is.items_between is.between is.with_first is.before_last
        (subst (λ (s : StationSection). AreBetween station_tables s is.with_first is.items_between is.between
        is.before_last)
        section between) in
        let last = none_last is.last (subst (λ (s : StationSection). HasLast station_tables s
        ((station_tables.shape s).last) is.before_last is.items_last is.last next) section is.ends) in
        let all : times the.DirKeyCertificateVersion part.whole.taken
        ≡ times the.DirKeyCertificateVersion (is.first_one ∷ (is.between ++ is.last)) =
        ap (λ (l : List StationTaken). times the.DirKeyCertificateVersion l) is.are in
        let here : times the.DirKeyCertificateVersion (is.first_one ∷ (is.between ++ is.last))
        ≡ 0 + times the.DirKeyCertificateVersion (is.between ++ is.last) =
        times-first the.DirKeyCertificateVersion is.first_one (is.between ++ is.last)
        ∙ ap (λ (t : Bool). once t + times the.DirKeyCertificateVersion (is.between ++ is.last)) first in
        let both = times-append the.DirKeyCertificateVersion is.between is.last in
        omega (arith, once_, all, here, both, middle, last)

    by : (inside : List StationGroup) (name : StationSection) → name ≡ its.Station
        → AreOthers station_tables part.whole.section is.with_first is.items_between inside is.between is.before_last
        → IsStationInput input (inside ++ part.whole ∷ [])
    by inside name named (inl none) =
        let counts =
        subst (λ (s : StationSection). RowsStand station_tables s part.whole.taken) section is.counts in
        let once_ : times the.DirKeyCertificateVersion part.whole.taken ≡ 1 =
        counts the.DirKeyCertificateVersion
        (row the.DirKeyCertificateVersion One (kind.Certificate cert.Version)) refl in
        absurd (never_once once_ none.1)
    by inside name named (inr have) =
        let whole = have.whole in
        let opens = only_certificate have.one.keyword whole.section
        (subst (λ (s : StationSection). inner station_tables s have.one.keyword
        ≡ Some whole.section) section have.is.opens) in
        let inside_is : IsInside station_tables have.when_begun its.Station have.items_inside have.one
        (group its.Certificate whole.taken) have.when_left =
        subst (λ (s : StationSection). IsInside station_tables have.when_begun its.Station have.items_inside have.one
        (group s whole.taken) have.when_left) opens.0
        (subst (λ (s : StationSection). IsInside station_tables have.when_begun s have.items_inside have.one whole
        have.when_left) section have.is) in
        let all : (items_of max_station input).items
        ≡ is.first_item ∷ (have.items_before ++ (have.items_inside ++ (have.items_behind ++ (is.items_last
        ++ left)))) =
        contents ∙ come
        ∙ ap (λ (l : List Item). l ++ left) (is.come
        ∙ ap (λ (l : List Item). is.first_item ∷ (l ++ is.items_last)) have.come)
        ∙ ap (λ (l : List Item). is.first_item ∷ l)
        (five have.items_before have.items_inside have.items_behind is.items_last left) in
        let groups : inside ++ part.whole ∷ []
        ≡ group its.Certificate whole.taken ∷ group its.Station part.whole.taken ∷ [] =
        ap (λ (l : List StationGroup). l ++ part.whole ∷ []) have.only
        ∙ ap (λ (s : StationSection). group s whole.taken ∷ part.whole ∷ []) opens.0
        ∙ ap (λ (s : StationSection). group its.Certificate whole.taken ∷ group s part.whole.taken ∷ []) section in
        record {
          taken = whole.taken;
          others = part.whole.taken;
          are = groups;
          has = cut_inside input is.first_item have.items_before have.items_inside
              (have.items_behind ++ (is.items_last
              ++ left)) whole.taken have.one have.when_begun have.when_left all inside_is;
        }

-- ---- the law

-- what is read of such an input has a certificate that is given
given_in : (newest : Newest) (input : List ℕ) (groups : List StationGroup) → IsStationInput input groups
    → IsGiven vote_tables vote.Certificate
    (facts_of newest input (fold (λ k (g : StationGroup). kept_with k g.section g.taken) none_kept
    groups)).certificate_bytes
    (facts_of newest input (fold (λ k (g : StationGroup). kept_with k g.section g.taken) none_kept groups)).certificate
given_in newest input groups is =
    let has = is.has in
    let own = has.own in
    let alone = has.is_alone in
    let head = head_of has.alone in
    let say = certs_say StationValue has.front own has.rest has.alone alone.within in
    let taken_is : head_of {V = StationValue} (all_moved (length has.front) has.alone) ≡ head_of is.taken =
    ap head_of has.are in
    let says : cert_in input (head_of is.taken) ≡ cert_in own head =
    ap (λ (h : CertHead). cert_in input h) (sym taken_is)
    ∙ ap (λ (l : List ℕ). cert_in l (head_of (all_moved {W = StationValue} (length has.front) has.alone))) has.parts
    ∙ say.says in
    let whole : whole_part input (head_of is.taken) ≡ own =
    ap (λ (h : CertHead). whole_part input h) (sym taken_is)
    ∙ ap (λ (l : List ℕ). whole_part l (head_of (all_moved {W = StationValue} (length has.front) has.alone))) has.parts
    ∙ say.whole
    ∙ ap (λ (k : ℕ). slice_range own k head.end) has.begin
    ∙ ap (λ (k : ℕ). slice_range own 0 k) alone.end
    ∙ take_all (length own - 0) own (omega arith) in
    let given : IsGiven vote_tables vote.Certificate own (cert_in own head) =
    record { read = alone.read; first = has.first; strangers = has.none } in
    subst (λ (l : List StationGroup). IsGiven vote_tables vote.Certificate
    (facts_of newest input (fold (λ k (g : StationGroup). kept_with k g.section g.taken) none_kept l)).certificate_bytes
    (facts_of newest input (fold (λ k (g : StationGroup). kept_with k g.section g.taken) none_kept l)).certificate)
    (sym is.are)
    (subst (λ (b : List ℕ). IsGiven vote_tables vote.Certificate b (cert_in input (head_of is.taken))) (sym whole)
    (subst (λ (c : Cert). IsGiven vote_tables vote.Certificate own c) (sym says) given))

one_part : (parts : List (Part StationSection (Value StationValue)))
    → map (λ (part : Part StationSection (Value StationValue)). part.whole.section) parts ≡ its.Station ∷ []
    → (part : Part StationSection (Value StationValue)) × (parts ≡ part ∷ []) × (part.whole.section ≡ its.Station)
one_part [] is = absurd (cc (is))
one_part (part ∷ []) is = (part, refl, cc)
one_part (part ∷ other ∷ parts) is = absurd (cc (is))

pub certificates_are_given : StationsCertificatesAreGiven
certificates_are_given newest input facts used is =
    by (document_of station_tables (length input) (items_of max_station input)) refl is
  where
    by : (read : Result (Document StationSection (Value StationValue)) ReadRefusal)
        → document_of station_tables (length input) (items_of max_station input) ≡ read
        → with_facts newest input (finish kept_with none_kept read) ≡ Ok (facts, used)
        → IsGiven vote_tables vote.Certificate facts.certificate_bytes facts.certificate
    by (Err refusal) got e = absurd (cc (e))
    by (Ok document) got e =
        let exact = (stations_are_exact.exact (length input) (items_of max_station input) document).0 got in
        let names_in = exact.in_order in
        let names : map (λ (part : Part StationSection (Value StationValue)). part.whole.section) exact.parts
        ≡ its.Station ∷ [] =
        names_in.2 ∙ ap (λ (k : ℕ). replicate k its.Station ++ names_in.1) names_in.3
        ∙ ap (λ (l : List StationSection). its.Station ∷ l) names_in.4 in
        let one = one_part exact.parts names in
        let each = subst (AreParts station_tables station_tables.start) one.1 exact.each in
        let come : (items_of max_station input).items ≡ one.0.items ++ exact.left =
        exact.come
        ∙ ap (λ (l : List (Part StationSection (Value StationValue))). order.items_of l ++ exact.left) one.1
        ∙ ap (λ (l : List Item). l ++ exact.left) (append-nil one.0.items) in
        let groups : document.groups ≡ one.0.inside ++ one.0.whole ∷ [] =
        exact.are ∙ ap (λ (l : List (Part StationSection (Value StationValue))). sections_of l) one.1 in
        let station = section_is one.0 each.0 one.2 each.1 (one.0.items ++ exact.left) exact.left refl input come in
        let kept =
        fold (λ k (g : StationGroup). kept_with k g.section g.taken) none_kept document.groups in
        subst (λ (f : StationFacts). IsGiven vote_tables vote.Certificate f.certificate_bytes f.certificate)
        (same_facts (facts_of newest input kept) facts document.used used e)
        (given_in newest input document.groups (subst (IsStationInput input) (sym groups) station))
