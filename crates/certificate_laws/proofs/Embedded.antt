-- A certificate inside another document is read as it is read alone, so many bytes further on.
use Rattle.std.proofs.Common.{◌≡◌, ℕ, ◌+◌, ◌≤◌, Bool, true, false, List, [], ◌∷◌, ◌++◌, Option, Some, None, refl}
use Rattle.std.{proofs.{Common.{Result, Ok, Err, sym, ap, ◌∙◌}, lemmas.List.map-append}, specs.Prelude.{map, is_some}}
use Rattle.std.specs.{Prelude.{◌||◌, if◌then◌else◌}, List.AllByRecursion}
use Rattle.item_terms.specs.{Items.Item, declared.fault.DocFault.DocFault}
use Rattle.frame_terms.specs.{Decisions.made_by, Documents.{Document, after_made, after_noted, at_end, closed_at}}
use Rattle.frame_terms.specs.{Documents.{go_on, group, note_of_made, onto, read_items}, Keywords.same, Order.first_of}
use Rattle.frame_terms.specs.{Sections.{lacking_keyword, stands}, Tables.Tables, declared.document.Group.Group}
use Rattle.frame_terms.specs.declared.document.Made.{Made, TheVariants.{Ends, Enters, Leaves, Opens, Passes, Pushes}}
use Rattle.frame_terms.specs.declared.document.{Made.TheVariants.Stops, Open.Open, Taken.Taken}
use Rattle.frame_terms.specs.declared.{fault.{FrameFault.FrameFault, ReadRefusal.ReadRefusal}, keyword.Keyword.Keyword}
use Rattle.frame_terms.specs.declared.keyword.Keyword.TheVariants as the
use Rattle.frame_values.specs.{Values.item_at, declared.values.Value.Value}
use Rattle.authority_certs.specs.{Tables.cert_tables, declared.frame.CertKind.CertKind}
use Rattle.frame_laws.proofs.KnownWords.{same-sym}
use Rattle.grammar_laws.specs.Moved.{moved_item}
use Rattle.certificate_laws.{specs.{Given.IsNoStranger, Lifted.moved_taken}, proofs.CertMakes.{IsLastMade, lacks}}
use Rattle.certificate_laws.proofs.{CertMakes.made_is, Holding.{CertTaken, HoldsCertificates, Said, all_moved}}
use Rattle.certificate_laws.proofs.{Holding.alone_rows, Simulated.{alone, inside, item_moved, made_moved}}

abbrev pub CertDocument : Type 0
CertDocument = Document (Unit {0}) Said

-- an item that does not pass the certificate's limit
abbrev pub IsNear : ℕ → Item → Type 0
IsNear place item = item.after ≤ place + 65536

abbrev pub groups_or : Result CertDocument ReadRefusal → List (Group (Unit {0}) Said)
groups_or (Ok document) = document.groups
groups_or (Err r) = []

abbrev pub used_or : Result CertDocument ReadRefusal → ℕ
used_or (Ok document) = document.used
used_or (Err r) = 0

abbrev pub whole_document : List CertTaken → ℕ → Result CertDocument ReadRefusal
whole_document taken used = Ok (record { groups = group tt taken ∷ []; used = used })

neither : (a b : Bool) → (a || b) ≡ false → (a ≡ false) × (b ≡ false)
neither true b e = absurd (cc e)
neither false b e = (refl, e)

not_yet : (l : List CertTaken) (one : CertTaken) → stands the.DirKeyCertification l ≡ false
    → same the.DirKeyCertification one.keyword ≡ false → stands the.DirKeyCertification (l ++ one ∷ []) ≡ false
not_yet [] one none new = ap (λ (t : Bool). t || false) (same-sym one.keyword the.DirKeyCertification ∙ new)
not_yet (a ∷ l) one none new =
    let p = neither (same a.keyword the.DirKeyCertification) (stands the.DirKeyCertification l) none in
    ap (λ (t : Bool). t || stands the.DirKeyCertification (l ++ one ∷ [])) p.0 ∙ not_yet l one p.1 new

-- the one of a keyword behind others that are of none
found_behind : (keyword : Keyword) (l : List CertTaken) (one : CertTaken) → stands keyword l ≡ false
    → same one.keyword keyword ≡ true → item_at (l ++ one ∷ []) keyword ≡ Some one
found_behind keyword [] one none is = ap (λ (t : Bool). if t then Some one else None) is
found_behind keyword (a ∷ l) one none is =
    let p = neither (same a.keyword keyword) (stands keyword l) none in
    ap (λ (t : Bool). if t then Some a else item_at (l ++ one ∷ []) keyword) p.0 ∙ found_behind keyword l one p.1 is

-- where the input ends before the certificate does
abbrev pub closed_if : ℕ → Open (Unit {0}) Said → Option Keyword → Result CertDocument ReadRefusal
closed_if length_ open_ missing = closed_at length_ open_ (first_of missing None)

never_ends : (length_ : ℕ) (taken : List CertTaken) (fault : Option DocFault) (document : CertDocument)
    → stands the.DirKeyCertification taken ≡ false → at_end cert_tables length_ (alone taken) fault ≡ Ok document → ⊥
unfolding same
never_ends length_ taken (Some fault) document none is = cc is
never_ends length_ taken None document none is = by (lacking_keyword alone_rows taken) (lacks taken none) is
  where
    by : (missing : Option Keyword) → is_some missing ≡ true → closed_if length_ (alone taken) missing ≡ Ok document → ⊥
    by None some is = cc some
    by (Some keyword) some is = cc is

abbrev pub more_alone : ℕ → Option DocFault → List Item → Unit {0} → Open (Unit {0}) Said
    → Result CertDocument ReadRefusal
more_alone length_ fault items remembered next = read_items cert_tables length_ remembered next fault items

-- ---- inside another document

module _ {S K W X : Type 0} (tables : Tables S K (Value W) X) (outer name : S) (kind : CertKind → K) (opening : K)
    (holds : HoldsCertificates tables outer name kind opening) where
  -- the document from the last item of the certificate on
  abbrev pub rest_behind_certificate : ℕ → X → Group S (Value W) → Option DocFault → List Item
      → Result (Document S (Value W)) ReadRefusal
  rest_behind_certificate length_ across around fault rest =
      read_items tables length_ across
      (record { section = around.section; taken = around.taken; around = None }) fault rest

  -- What the items behind the first are of a certificate that is read alone: they go on to one that has an object and
  -- ends it; and in the document they are the same section, so many bytes further on.
  pub record GoesOn (first : CertTaken) (before : List CertTaken) (items : List Item)
      (document : CertDocument) : Type 0 where
    pub front : List Item
    pub item : Item
    pub back : List Item
    pub parts : items ≡ front ++ item ∷ back
    pub ends : item.after ≡ document.used
    pub object : is_some item.object ≡ true
    pub taken : List CertTaken
    pub groups : document.groups ≡ group tt (first ∷ taken) ∷ []
    pub last : CertTaken
    pub last_there : item_at (first ∷ taken) the.DirKeyCertification ≡ Some last
    pub last_ends : last.after ≡ document.used
    pub inside_it : (n length_ : ℕ) (across : X) (around : Group S (Value W)) (fault : Option DocFault)
        (rest : List Item)
        → AllByRecursion (IsNear first.place) (front ++ item ∷ [])
        → AllByRecursion (λ (item : Item). IsNoStranger tables name item) (front ++ item ∷ [])
        → read_items tables length_ across
        (inside tables outer name kind opening holds n across (first ∷ before) around) fault
        (map (moved_item n) (front ++ item ∷ []) ++ rest)
        ≡ onto (group name (all_moved n (first ∷ taken))) (rest_behind_certificate length_ across around fault rest)

  abbrev pub more_of : ℕ → Option DocFault → List Item → X → Open S (Value W)
      → Result (Document S (Value W)) ReadRefusal
  more_of length_ fault items remembered next = read_items tables length_ remembered next fault items

  -- one item in the document
  one_read : (n length_ : ℕ) (across : X) (around : Group S (Value W)) (fault : Option DocFault) (first : CertTaken)
      (before : List CertTaken) (item : Item) (items : List Item) (made : Made (Unit {0}) Said)
      → made_by cert_tables tt (alone (first ∷ before)) item ≡ Ok made → IsNear first.place item
      → IsNoStranger tables name item
      → note_of_made tables (made_moved {S = S} {W = W} n made) across ≡ Ok across
      → read_items tables length_ across
      (inside tables outer name kind opening holds n across (first ∷ before) around) fault
      (moved_item n item ∷ items)
      ≡ go_on (made_moved n made) (inside tables outer name kind opening holds n across (first ∷ before) around)
      (moved_item n item)
      (λ next. read_items tables length_ across next fault items)
  unfolding read_items
  one_read n length_ across around fault first before item items made is near known quiet =
      let there = inside tables outer name kind opening holds n across (first ∷ before) around in
      ap (λ (m : Result (Made S (Value W)) ReadRefusal).
      after_made tables m across there (moved_item n item) (more_of length_ fault items))
      (item_moved tables outer name kind opening holds n across around first before item made is near known)
      ∙ ap (λ (r : Result X FrameFault).
      after_noted r (made_moved n made) there (moved_item n item) (more_of length_ fault items)) quiet

  -- ---- the items one after the other

  passed : (first : CertTaken) (before : List CertTaken) (item : Item) (items : List Item) (document : CertDocument)
      → made_by cert_tables tt (alone (first ∷ before)) item ≡ Ok Passes
      → GoesOn first before items document → GoesOn first before (item ∷ items) document
  passed first before item items document is more = record {
    front = item ∷ more.front;
    item = more.item;
    back = more.back;
    parts = ap (λ (l : List Item). item ∷ l) more.parts;
    ends = more.ends;
    object = more.object;
    taken = more.taken;
    groups = more.groups;
    last = more.last;
    last_there = more.last_there;
    last_ends = more.last_ends;
    inside_it = λ n length_ across around fault rest near known.
        one_read n length_ across around fault first before item
        (map (moved_item n) (more.front ++ more.item ∷ []) ++ rest) Passes
        is near.0 known.0 refl
        ∙ more.inside_it n length_ across around fault rest near.1 known.1;
  }

  pushed : (first : CertTaken) (before : List CertTaken) (item : Item) (items : List Item) (document : CertDocument)
      (one : CertTaken) → made_by cert_tables tt (alone (first ∷ before)) item ≡ Ok (Pushes one)
      → GoesOn first (before ++ one ∷ []) items document → GoesOn first before (item ∷ items) document
  pushed first before item items document one is more = record {
    front = item ∷ more.front;
    item = more.item;
    back = more.back;
    parts = ap (λ (l : List Item). item ∷ l) more.parts;
    ends = more.ends;
    object = more.object;
    taken = more.taken;
    groups = more.groups;
    last = more.last;
    last_there = more.last_there;
    last_ends = more.last_ends;
    inside_it = λ n length_ across around fault rest near known.
        one_read n length_ across around fault first before item (map (moved_item n) (more.front ++ more.item ∷ []) ++ rest)
        (Pushes one) is near.0 known.0 (holds.quiet across n one)
        ∙ ap (λ (l : List (Taken (Value W))). read_items tables length_ across
        (record { section = name; taken = moved_taken n first ∷ l; around = Some around }) fault
        (map (moved_item n) (more.front ++ more.item ∷ []) ++ rest)) (sym (map-append (moved_taken n) before (one ∷ [])))
        ∙ more.inside_it n length_ across around fault rest near.1 known.1;
  }

  ended : (first : CertTaken) (before : List CertTaken) (item : Item) (items : List Item) (document : CertDocument)
      (one : CertTaken) → made_by cert_tables tt (alone (first ∷ before)) item ≡ Ok (Ends one)
      → stands the.DirKeyCertification (first ∷ before) ≡ false → IsLastMade item one
      → whole_document (first ∷ (before ++ one ∷ [])) item.after ≡ Ok document
      → GoesOn first before (item ∷ items) document
  ended first before item items document one is none made end_ = record {
    front = [];
    item = item;
    back = items;
    parts = refl;
    ends = ap used_or end_;
    object = made.object;
    taken = before ++ one ∷ [];
    groups = sym (ap groups_or end_);
    last = one;
    last_there =
        found_behind the.DirKeyCertification (first ∷ before) one none
        (same-sym one.keyword the.DirKeyCertification ∙ made.keyword);
    last_ends = made.after ∙ ap used_or end_;
    inside_it = λ n length_ across around fault rest near known.
        one_read n length_ across around fault first before item rest (Ends one) is near.0 known.0
        (holds.quiet across n one)
        ∙ ap (λ (l : List (Taken (Value W))).
        onto (group name (moved_taken n first ∷ l)) (rest_behind_certificate length_ across around fault rest))
        (sym (map-append (moved_taken n) before (one ∷ [])));
  }

  -- The items behind the first of a certificate that is read alone go on so.
  pub goes_on_so : (length_ : ℕ) (first : CertTaken) (before : List CertTaken) (fault : Option DocFault)
      (items : List Item)
      (document : CertDocument) → stands the.DirKeyCertification (first ∷ before) ≡ false
      → read_items cert_tables length_ tt (alone (first ∷ before)) fault items ≡ Ok document
      → GoesOn first before items document
  unfolding read_items
  goes_on_so length_ first before fault [] document none is =
      absurd (never_ends length_ (first ∷ before) fault document none is)
  goes_on_so length_ first before fault (item ∷ items) document none is =
      by (λ before none is. goes_on_so length_ first before fault items document none is)
      (made_by cert_tables tt (alone (first ∷ before)) item) refl is
    where
      by : ((before : List CertTaken) → stands the.DirKeyCertification (first ∷ before) ≡ false
          → read_items cert_tables length_ tt (alone (first ∷ before)) fault items ≡ Ok document
          → GoesOn first before items document)
          → (r : Result (Made (Unit {0}) Said) ReadRefusal) → made_by cert_tables tt (alone (first ∷ before)) item ≡ r
          → after_made cert_tables r tt (alone (first ∷ before)) item (more_alone length_ fault items) ≡ Ok document
          → GoesOn first before (item ∷ items) document
      by again (Err r) e is = absurd (cc is)
      by again (Ok Passes) e is = passed first before item items document e (again before none is)
      by again (Ok (Pushes one)) e is =
          pushed first before item items document one e
          (again (before ++ one ∷ []) (not_yet (first ∷ before) one none (made_is first before item (Pushes one) e)) is)
      by again (Ok (Ends one)) e is =
          ended first before item items document one e none (made_is first before item (Ends one) e) is
      by again (Ok (Leaves one)) e is = absurd (made_is first before item (Leaves one) e)
      by again (Ok (Opens section_ one)) e is = absurd (made_is first before item (Opens section_ one) e)
      by again (Ok (Enters section_ one)) e is = absurd (made_is first before item (Enters section_ one) e)
      by again (Ok Stops) e is = absurd (made_is first before item Stops e)
