-- Where the certificate stands in a station input, and that alone it is read as it stands there.
use Rattle.std.proofs.Common.{◌≡◌, ℕ, ◌+◌, ◌≤◌, Bool, true, false, List, [], ◌∷◌, ◌++◌, length, map, Some, None, refl}
use Rattle.std.{proofs.Common.{sym, ap, subst, ◌∙◌, arith, append_assoc}, specs.Prelude.{is_some, if◌then◌else◌}}
use Rattle.std.specs.List.{AllByRecursion}
use Rattle.item_terms.specs.{Items.{Contents, Item, contents_of, items_of, nothing}, Lines.{Line, lines}}
use Rattle.item_terms.specs.Words.{first_is, is_letter_or_digit}
use Rattle.frame_terms.specs.{Documents.group, Keywords.same}
use Rattle.frame_terms.specs.declared.row.Limit.TheVariants as limit
use Rattle.frame_terms.specs.declared.keyword.Keyword.TheVariants as the
use Rattle.frame_values.specs.Values.{item_at, place_in}
use Rattle.authority_certs.specs.{Heads.head_of, Reading.max_cert, Tables.cert_tables}
use Rattle.frame_laws.proofs.KnownWords.{same-sym}
use Rattle.document_laws.specs.Parts.{EndsWithin, IsInside, IsPart}
use Rattle.grammar_laws.{specs.Moved.{Reads, moved_item, sizes}, proofs.LastLines.{cut_lines, sizes_both}}
use Rattle.grammar_laws.proofs.{LinesTogether.AllEnded, FirstPlace.first_at, OwnLines.hold, SoundLines.ends_all}
use Rattle.grammar_laws.proofs.SoundLines.{within_all}
use Rattle.certificate_laws.proofs.Holding.{CertTaken, all_moved}
use Rattle.station_input.specs.{Tables.station_tables, declared.across.Across.Across, Reading.max_station}
use Rattle.station_input.specs.declared.frame.StationSection.TheVariants as its
use Rattle.maker_laws.proofs.{Backwards.reads_back, CertItems.{NoStrangers, has_object}, CertInside.WasInside}
use Rattle.maker_laws.proofs.{CertInside.inside_back, CutText.{begins_with_keyword, cut_text}, FrontCut.cut_front}
use Rattle.maker_laws.proofs.{FrontCut.{first_or, items_behind}, AloneCert.{IsAlone, alone_is, alone_part}}
use Rattle.station_laws.proofs.KeptLines.{StationTaken}

-- ---- where it stands in the input

-- The certificate's lines stand behind others and before the rest; its items are those of one that stands alone.
pub record HasCert (input : List ℕ) (taken : List StationTaken) : Type 0 where
  pub front : List ℕ
  pub own : List ℕ
  pub rest : List ℕ
  pub parts : input ≡ front ++ (own ++ rest)
  pub alone : List CertTaken
  pub are : all_moved (length front) alone ≡ taken
  pub is_alone : IsAlone own alone
  pub first : first_is is_letter_or_digit own ≡ true
  pub begin : (head_of alone).begin ≡ 0
  pub none : NoStrangers (items_of max_cert own).items

-- what ends where the lines end is as long as they are
same_end : (own after end n whole lines_size : ℕ) → after + n ≡ end → end ≡ 0 + whole → whole ≡ n + lines_size
    → own ≡ lines_size → own ≡ after
same_end own after end n whole lines_size there ends both size = omega (arith, there, ends, both, size)

-- the items up to the last one of the certificate
pub cut_inside : (input : List ℕ) (one : Item) (before inside : List Item) (back : List Item) (taken : List StationTaken)
    (its_opener : StationTaken) (remembered after : Across)
    → (items_of max_station input).items ≡ one ∷ (before ++ (inside ++ back))
    → IsInside station_tables remembered its.Station inside its_opener (group its.Certificate taken) after
    → HasCert input taken
unfolding contents_of
cut_inside input one before inside back taken its_opener remembered after come is =
    let ends = is.ends in
    let last = ends.0 in
    let object : is_some last.object ≡ true = has_object last ends.1 is.before_last ends.4.said ends.5 in
    let front : List Item = one ∷ (before ++ (is.first_item ∷ is.items_between)) in
    let inside_is : inside ≡ is.first_item ∷ (is.items_between ++ last ∷ []) =
    is.come ∙ ap (λ (l : List Item). is.first_item ∷ (is.items_between ++ l)) ends.2 in
    let all : one ∷ (before ++ (inside ++ back)) ≡ front ++ last ∷ back =
    ap (λ (l : List Item). one ∷ (before ++ (l ++ back))) inside_is
    ∙ ap (λ (l : List Item). one ∷ l) (regroup before is.first_item is.items_between last back) in
    let cut = cut_lines max_station 0 nothing (lines input) tt front last back (come ∙ all) object in
    let up_to : front ++ last ∷ [] ≡ one ∷ (before ++ is.first_item ∷ (is.items_between ++ last ∷ [])) =
    ap (λ (l : List Item). one ∷ l) (append_assoc before (is.first_item ∷ is.items_between) (last ∷ [])) in
    let reads =
    subst (λ (l : List Item). Reads max_station 0 nothing cut.first l nothing) up_to cut.reads in
    let split =
    cut_front max_station 0 nothing cut.first one before is.first_item (is.items_between ++ last ∷ []) reads in
    let n = sizes split.first in
    let middle : List Line = split.line ∷ split.more in
    let both : sizes cut.first ≡ n + sizes middle =
    ap sizes split.parts ∙ sizes_both split.first middle in
    let ended : AllEnded (split.first ++ middle) =
    subst AllEnded split.parts (ends_all max_station 0 nothing cut.first (front ++ last ∷ []) nothing cut.reads) in
    let text = cut_text input split.first middle cut.more ended
    (cut.parts ∙ ap (λ (l : List Line). l ++ cut.more) split.parts) in
    let first = begins_with_keyword text.own split.line split.more text.own_lines split.keyword in
    let behind : List Item = is.items_between ++ last ∷ [] in
    let place : is.first_item.place ≡ 0 + n =
    first_at max_station (0 + n) text.own is.first_item behind first
    (subst (λ (ls : List Line). Reads max_station (0 + n) nothing ls (is.first_item ∷ behind) nothing)
    (sym text.own_lines) split.reads) in
    let within = within_all max_station 0 nothing cut.first (front ++ last ∷ []) nothing cut.reads (omega arith) in
    let near = last_near is.first_item.place is.first_item last is.items_between
    (subst (λ (l : List Item). AllByRecursion (EndsWithin
    (Some limit.Certificate) is.first_item.place) l) inside_is is.within) in
    let few : sizes middle ≤ 65536 = omega (arith, near, place, cut.ends, both) in
    let back_ =
    reads_back max_station 65536 0 n nothing middle (is.first_item ∷ (is.items_between ++ last ∷ [])) split.reads
    (omega (arith, few)) (omega (arith, within, both)) in
    let items = back_.was in
    let was : WasInside n items (group its.Certificate taken) =
    inside_back n items its_opener taken remembered after
    (subst (λ (l : List Item). IsInside station_tables remembered its.Station l its_opener
    (group its.Certificate taken) after)
    (inside_is ∙ sym back_.are) is) in
    let contents : items_of max_cert text.own ≡ record { items = items; fault = None } =
    ap (λ (l : List Line). contents_of max_cert 0 nothing l) text.own_lines ∙ hold 65536 0 middle items back_.reads in
    let last_moved : moved_item n was.last ≡ last =
    last_same n was.before was.last (is.first_item ∷ is.items_between) last
    (ap (map (moved_item n)) (sym was.ends) ∙ back_.are) in
    let size : length text.own ≡ was.last.after =
    let there : was.last.after + n ≡ last.after = ap (λ (i : Item). i.after) last_moved in
    same_end (length text.own) was.last.after last.after n (sizes cut.first) (sizes middle) there cut.ends both
    text.own_size in
    let alone = alone_is text.own items was.taken was.before was.last contents was.is_part was.ends size in
    let begin : (head_of was.taken).begin ≡ 0 =
    begins_at_zero text.own items was.taken was.is_part
    (λ item others e. first_at 65536 0 text.own item others first
    (subst (λ (ls : List Line). Reads 65536 0 nothing ls (item ∷ others) nothing) (sym text.own_lines)
    (subst (λ (l : List Item). Reads 65536 0 nothing middle l nothing) e back_.reads))) in
    record {
      front = text.front;
      own = text.own;
      rest = text.rest;
      parts = text.parts;
      alone = was.taken;
      are = ap (λ (k : ℕ). all_moved k was.taken) text.front_size ∙ was.are;
      is_alone = alone;
      first = first;
      begin = begin;
      none = subst (λ (c : Contents). NoStrangers c.items) (sym contents) was.none;
    }
  where
    regroup : (before : List Item) (first : Item) (between : List Item) (last : Item) (back : List Item)
        → before ++ ((first ∷ (between ++ last ∷ [])) ++ back) ≡ (before ++ (first ∷ between)) ++ last ∷ back
    regroup before first between last back =
        ap (λ (l : List Item). before ++ first ∷ l) (append_assoc between (last ∷ []) back)
        ∙ sym (append_assoc before (first ∷ between) (last ∷ back))

    last_near : (place : ℕ) (first last : Item) (between : List Item)
        → AllByRecursion (EndsWithin (Some limit.Certificate) place) (first ∷ (between ++ last ∷ []))
        → last.after ≤ place + 65536
    last_near place first last between all = behind between all.1
      where
        behind : (items : List Item)
            → AllByRecursion (EndsWithin (Some limit.Certificate) place) (items ++ last ∷ [])
            → last.after ≤ place + 65536
        behind [] all = all.0
        behind (item ∷ items) all = behind items all.1

    last_same : (n : ℕ) (a : List Item) (x : Item) (b : List Item) (y : Item)
        → map (moved_item n) (a ++ x ∷ []) ≡ b ++ y ∷ [] → moved_item n x ≡ y
    last_same n [] x [] y e = ap (first_or y) e
    last_same n [] x (z ∷ []) y e = absurd (cc (ap items_behind e))
    last_same n [] x (z ∷ w ∷ b) y e = absurd (cc (ap items_behind e))
    last_same n (z ∷ []) x [] y e = absurd (cc (ap items_behind e))
    last_same n (z ∷ w ∷ a) x [] y e = absurd (cc (ap items_behind e))
    last_same n (z ∷ a) x (w ∷ b) y e = last_same n a x b y (ap items_behind e)

    begins_so : (one : CertTaken) (rest taken : List CertTaken) → taken ≡ one ∷ rest
        → same the.DirKeyCertificateVersion one.keyword ≡ true → one.place ≡ 0 → (head_of taken).begin ≡ 0
    begins_so one rest taken are opens zero =
        ap (λ (l : List CertTaken). (head_of l).begin) are
        ∙ by (same one.keyword the.DirKeyCertificateVersion) (same-sym one.keyword the.DirKeyCertificateVersion
        ∙ opens)
        ∙ zero
      where
        by : (t : Bool) → t ≡ true
            → place_in (if t then Some one else item_at rest the.DirKeyCertificateVersion) ≡ one.place
        by true e = refl
        by false e = absurd (cc (e))

    begins_at_zero : (bytes : List ℕ) (items : List Item) (taken : List CertTaken)
        → IsPart cert_tables tt (alone_part items taken) tt
        → ((item : Item) (others : List Item) → items ≡ item ∷ others → item.place ≡ 0) → (head_of taken).begin ≡ 0
    begins_at_zero bytes items taken is_part zero =
        begins_so is_part.first_one (is_part.between ++ is_part.last) taken is_part.are is_part.opens
        (ap (λ (o : CertTaken). o.place) is_part.begins.said.stands
        ∙ zero is_part.first_item (is_part.items_between ++ is_part.items_last) is_part.come)
