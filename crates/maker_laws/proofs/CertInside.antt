-- The items of the certificate inside a station input are those of one that stands alone.
use Rattle.std.proofs.Common.{◌≡◌, ℕ, ◌+◌, false, List, [], ◌∷◌, ◌++◌, Some, refl, sym, ap, subst, ◌∙◌, inl, inr, map}
use Rattle.std.specs.Prelude.{option_map}
use Rattle.item_terms.specs.Items.{Item}
use Rattle.frame_terms.specs.{Documents.group, Keywords.same, Order.is_keyword, Sections.row_of}
use Rattle.frame_terms.specs.{declared.keyword.Keyword.Keyword, Rows.row}
use Rattle.frame_terms.specs.declared.keyword.Keyword.TheVariants as the
use Rattle.authority_certs.specs.Tables.{cert_tables}
use Rattle.document_laws.specs.{Counts.{IsCount, RowsStand, times}, Items.IsItemOf, Parts.{AreBetween, IsInside}}
use Rattle.document_laws.{specs.Parts.IsPart, proofs.Times.{once, times-first}}
use Rattle.grammar_laws.specs.Moved.{moved_item}
use Rattle.certificate_laws.{specs.Lifted.moved_taken, proofs.Holding.{CertTaken, all_moved, row_there}}
use Rattle.station_input.specs.{Tables.station_tables, declared.across.Across.Across}
use Rattle.station_input.specs.declared.frame_said.StationValue.{StationValue}
use Rattle.station_input.specs.declared.frame.StationKind.TheVariants as kind
use Rattle.station_input.specs.declared.frame.StationSection.TheVariants as its
use Rattle.station_laws.proofs.KeptLines.{StationGroup, StationTaken, only_certificate}
use Rattle.maker_laws.proofs.{FrontCut.{first_or, items_behind}, CertItems.{has, in_station, of_back, first_back}}
use Rattle.maker_laws.proofs.CertItems.{NoStrangers, no_stranger_of, passed_both}

-- ---- items between the first and the last

record WereBetween (n : ℕ) (items : List Item) (taken : List StationTaken) : Type 0 where
  alone : List CertTaken
  are : all_moved n alone ≡ taken
  between : AreBetween cert_tables tt tt items alone tt
  none : NoStrangers items

between_back : (n : ℕ) (items : List Item) (taken : List StationTaken) (before after : Across)
    → AreBetween station_tables its.Certificate before (map (moved_item n) items) taken after → WereBetween n items taken
between_back n [] taken before after is = record { alone = []; are = sym is.0; between = (refl, refl); none = tt }
between_back n (item ∷ items) taken before after (inl is) =
    let passed = passed_both n item is.0 in
    let later = between_back n items taken before after is.1 in
    record {
      alone = later.alone;
      are = later.are;
      between = inl (passed.alone, later.between);
      none = (passed.none, later.none);
    }
between_back n (item ∷ items) taken before after (inr (one, rest, then_, come, ordinary, more)) =
    let was = of_back n item one before ordinary.stands.said in
    let later = between_back n items rest then_ after more in
    let goes_on : is_keyword (Some the.DirKeyCertification) was.alone.keyword ≡ false =
    ap (λ (o : StationTaken). is_keyword (Some the.DirKeyCertification) o.keyword) was.is ∙ ordinary.goes_on in
    record {
      alone = was.alone ∷ later.alone;
      are = ap (λ (o : StationTaken). o ∷ all_moved n later.alone) was.is
          ∙ ap (λ (l : List StationTaken). one ∷ l) later.are ∙ sym come;
      between = inr (
        was.alone,
        later.alone,
        tt,
        refl,
        record {
          stands = record { said = was.of; regarded = refl; note = refl };
          goes_on = goes_on;
          begins_none = refl;
        },
        later.between,
      );
      none = (no_stranger_of item was.of.keyword was.of.row was.of.known was.of.has_row, later.none);
    }

-- ---- how often they stand

times_moved : (n : ℕ) (keyword : Keyword) (taken : List CertTaken)
    → times keyword (all_moved {W = StationValue} n taken) ≡ times keyword taken
times_moved n keyword [] = refl
times_moved n keyword (one ∷ taken) =
    times-first keyword (moved_taken {W = StationValue} n one) (all_moved n taken)
    ∙ ap (λ (k : ℕ). once (same one.keyword keyword) + k) (times_moved n keyword taken)
    ∙ sym (times-first keyword one taken)

counts_back : (n : ℕ) (taken : List CertTaken)
    → RowsStand station_tables its.Certificate (all_moved n taken) → RowsStand cert_tables tt taken
counts_back n taken counts keyword row there =
    let inside : row_of (station_tables.rows its.Certificate) keyword ≡ Some (in_station row) =
    row_there station_tables its.Certificate kind.Certificate has keyword ∙ ap (option_map in_station) there in
    subst (IsCount row.count) (times_moved n keyword taken) (counts keyword (in_station row) inside)

-- ---- parts of a list that is moved

record IsFirst (n : ℕ) (items : List Item) (first : Item) (rest : List Item) : Type 0 where
  one : Item
  others : List Item
  parts : items ≡ one ∷ others
  one_is : moved_item n one ≡ first
  others_are : map (moved_item n) others ≡ rest

first_of_moved : (n : ℕ) (items : List Item) (first : Item) (rest : List Item) → map (moved_item n) items ≡ first ∷ rest
    → IsFirst n items first rest
first_of_moved n [] first rest is = absurd (cc (is))
first_of_moved n (one ∷ others) first rest is = record {
  one = one;
  others = others;
  parts = refl;
  one_is = ap (first_or first) is;
  others_are = ap items_behind is;
}

record AreTwo (n : ℕ) (items front back : List Item) : Type 0 where
  first : List Item
  second : List Item
  parts : items ≡ first ++ second
  first_are : map (moved_item n) first ≡ front
  second_are : map (moved_item n) second ≡ back

two_of_moved : (n : ℕ) (items front back : List Item) → map (moved_item n) items ≡ front ++ back → AreTwo n items front back
two_of_moved n items [] back is =
    record { first = []; second = items; parts = refl; first_are = refl; second_are = is }
two_of_moved n items (item ∷ front) back is =
    let one = first_of_moved n items item (front ++ back) is in
    let later = two_of_moved n one.others front back one.others_are in
    record {
      first = one.one ∷ later.first;
      second = later.second;
      parts = one.parts ∙ ap (λ (l : List Item). one.one ∷ l) later.parts;
      first_are = ap (λ (i : Item). i ∷ map (moved_item n) later.first) one.one_is
          ∙ ap (λ (l : List Item). item ∷ l) later.first_are;
      second_are = later.second_are;
    }

-- ---- the certificate

-- The items are those of a certificate that stands alone, and none is a stranger in a vote's.
pub record WasInside (n : ℕ) (items : List Item) (whole : StationGroup) : Type 0 where
  pub taken : List CertTaken
  pub are : all_moved n taken ≡ whole.taken
  pub is_part : IsPart cert_tables tt (record { items = items; inside = []; whole = group tt taken }) tt
  pub last : Item
  pub before : List Item
  pub ends : items ≡ before ++ last ∷ []
  pub none : NoStrangers items

pub inside_back : (n : ℕ) (items : List Item) (one : StationTaken) (taken : List StationTaken) (before after : Across)
    → IsInside station_tables before its.Station (map (moved_item n) items) one (group its.Certificate taken) after
    → WasInside n items (group its.Certificate taken)
inside_back n items one taken before after is =
    let opens = (only_certificate one.keyword its.Certificate is.opens).1 in
    let cut = first_of_moved n items is.first_item (is.items_between ++ is.items_last) is.come in
    let first =
    first_back n cut.one one before
    (subst (λ (i : Item). IsItemOf station_tables before its.Station i one) (sym cut.one_is) is.begins.said) opens in
    let parts = two_of_moved n cut.others is.items_between is.items_last cut.others_are in
    let middle =
    between_back n parts.first is.between is.with_first is.before_last
    (subst (λ (l : List Item). AreBetween station_tables its.Certificate is.with_first l is.between is.before_last)
    (sym parts.first_are) is.others) in
    let ends = is.ends in
    let end =
    first_of_moved n parts.second ends.0 [] (parts.second_are ∙ ends.2) in
    let none_left : end.others ≡ [] = no_more n end.others end.others_are in
    let last =
    of_back n end.one ends.1 is.before_last
    (subst (λ (i : Item). IsItemOf station_tables is.before_last its.Certificate i ends.1)
    (sym end.one_is) ends.4.said) in
    let last_items : parts.second ≡ end.one ∷ [] = end.parts ∙ ap (λ (l : List Item). end.one ∷ l) none_left in
    let all : List CertTaken = first.alone ∷ (middle.alone ++ last.alone ∷ []) in
    let are : all_moved n all ≡ taken =
    ap (λ (o : StationTaken). o ∷ all_moved n (middle.alone ++ last.alone ∷ [])) first.is
    ∙ ap (λ (l : List StationTaken). one ∷ l)
    (moved_both n middle.alone (last.alone ∷ [])
    ∙ ap (λ (l : List StationTaken). l ++ all_moved n (last.alone ∷ [])) middle.are
    ∙ ap (λ (o : StationTaken). is.between ++ o ∷ []) last.is
    ∙ ap (λ (l : List StationTaken). is.between ++ l) (sym ends.3))
    ∙ sym is.are in
    let come : items ≡ cut.one ∷ (parts.first ++ end.one ∷ []) =
    cut.parts ∙ ap (λ (l : List Item). cut.one ∷ l) (parts.parts
    ∙ ap (λ (l : List Item). parts.first ++ l) last_items) in
    record {
      taken = all;
      are = are;
      is_part = record {
        first_item = cut.one;
        items_between = parts.first;
        items_last = end.one ∷ [];
        come = come;
        first_one = first.alone;
        between = middle.alone;
        last = last.alone ∷ [];
        are = refl;
        with_first = tt;
        before_last = tt;
        begins = record { said = first.of; regarded = refl; note = refl };
        opens = ap (λ (o : StationTaken). same the.DirKeyCertificateVersion o.keyword) first.is ∙ opens;
        others = inl (refl, middle.between);
        ends = (
          end.one,
          last.alone,
          refl,
          refl,
          record { said = last.of; regarded = refl; note = refl },
          ap (λ (o : StationTaken). same the.DirKeyCertification o.keyword) last.is ∙ ends.5,
        );
        counts = counts_back n all (subst (RowsStand station_tables its.Certificate) (sym are) is.counts);
      };
      last = end.one;
      before = cut.one ∷ parts.first;
      ends = come;
      none = subst NoStrangers (sym come) (
        no_stranger_of cut.one first.of.keyword first.of.row first.of.known first.of.has_row,
        all_none parts.first (end.one ∷ []) middle.none
            (no_stranger_of end.one last.of.keyword last.of.row last.of.known last.of.has_row, tt),
      );
    }
  where
    no_more : (n : ℕ) (items : List Item) → map (moved_item n) items ≡ [] → items ≡ []
    no_more n [] e = refl
    no_more n (item ∷ items) e = absurd (cc (e))

    moved_both : (n : ℕ) (a b : List CertTaken)
        → all_moved {W = StationValue} n (a ++ b) ≡ all_moved n a ++ all_moved n b
    moved_both n [] b = refl
    moved_both n (x ∷ a) b = ap (λ (l : List StationTaken). moved_taken n x ∷ l) (moved_both n a b)

    all_none : (a b : List Item) → NoStrangers a → NoStrangers b → NoStrangers (a ++ b)
    all_none [] b first second = second
    all_none (x ∷ a) b first second = (first.0, all_none a b first.1 second)
