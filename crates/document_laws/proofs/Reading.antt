-- Items that are a document's parts are read as that document.
use Rattle.std.proofs.Common.{◌≡◌, ℕ, true, List, [], ◌∷◌, ◌++◌, Option, Some, None, Result, Ok, refl, sym, ap, subst}
use Rattle.std.{proofs.Common.{◌∙◌, append_assoc, append-nil, inl, inr}, specs.Prelude.{◌⊎◌, ◌||◌, is_some}}
use Rattle.item_terms.specs.{declared.fault.DocFault.DocFault, Items.Item}
use Rattle.frame_terms.specs.declared.document.{Group.Group, Made.TheVariants.{Ends, Opens, Pushes, Stops}, Taken.Taken}
use Rattle.frame_terms.specs.{declared.{fault.ReadRefusal.ReadRefusal, keyword.Keyword.Keyword}, Decisions.made_by}
use Rattle.frame_terms.specs.{Documents.{Document, at_end, closed_at, group, onto, read_items, start}, Keywords.same}
use Rattle.frame_terms.specs.{Order.{first_of, following_sections, is_keyword, must_open, opener}, Tables.Tables}
use Rattle.frame_terms.specs.declared.section.Again.TheVariants as again
use Rattle.frame_laws.proofs.{Reading.read_on, Steps.opening}
use Rattle.document_laws.specs.{Counts.RowsStand, Order.{Part, items_of, sections_of}, Passing.EndsWith}
use Rattle.document_laws.specs.{Passing.EndsWithInput, Sound.{begins_next, ends_document}, Clear.AreClear}
use Rattle.document_laws.specs.{Documents.{AreParts, DocumentsAreRead, EndsAt, EndsBeforeNext, EndsSo}, Parts.HasLast}
use Rattle.document_laws.{specs.Parts.{IsPart, Stands}, proofs.{Lists.IsAfter, Parts.{IsListed, names}}}
use Rattle.document_laws.proofs.Following.{ComeBehind, GoesOn, first_begins, first_is_listed, last_must, next_goes}
use Rattle.document_laws.proofs.{Following.none_goes, Opened.is_opened, Inside.{all_onto, others_read}}
use Rattle.document_laws.proofs.{Between.word_begins, Places.{end_of, last_begins, never_beyond}, Rows.is_new}
use Rattle.document_laws.proofs.{Rows.{none_lacks, whole}, Steps.{begins_later, begins_more, ends_it, starts, stops}}
use Rattle.document_laws.proofs.Steps.{word_opens}

-- ---- the last of some items

-- the place after the last of them
abbrev last_after : List Item → ℕ
last_after [] = 0
last_after (item ∷ []) = item.after
last_after (item ∷ next ∷ items) = last_after (next ∷ items)

after_last : (items : List Item) (last : Item) → last_after (items ++ last ∷ []) ≡ last.after
after_last [] last = refl
after_last (item ∷ []) last = refl
after_last (item ∷ next ∷ items) last = after_last (next ∷ items) last

module _ {S V : Type 0} where
  -- a document that is read
  abbrev as_read : List (Group S V) → ℕ → Result (Document S V) ReadRefusal
  as_read groups used = Ok (record { groups = groups; used = used })

  -- with sections in front
  onto_read : (front groups : List (Group S V)) (used : ℕ)
      → all_onto front (as_read groups used) ≡ as_read (front ++ groups) used
  onto_read [] groups used = refl
  onto_read (first ∷ front) groups used =
      ap (λ (r : Result (Document S V) ReadRefusal). onto first r) (onto_read front groups used)

module _ {S K V X : Type 0} (tables : Tables S K V X) (clear : AreClear tables) where
  -- ---- the end of a document

  -- before the next document, or with the input
  ends_open : (length : ℕ) (fault : Option DocFault) (section : S) (across : X) (first : Taken V) (taken : List (Taken V))
      (left : List Item) (used : ℕ) → same (opener tables section) first.keyword ≡ true
      → RowsStand tables section (first ∷ taken) → (tables.shape section).last ≡ None
      → must_open tables (following_sections tables section) ≡ None
      → EndsBeforeNext tables section left used ⊎ EndsWithInput length fault left used
      → read_items tables length across (opening section (first ∷ taken) None) fault left
      ≡ as_read (group section (first ∷ taken) ∷ []) used
  unfolding read_items
  ends_open length fault section across first taken left used opens counts no_last none (inl is) =
      ap (λ (l : List Item). read_items tables length across (opening section (first ∷ taken) None) fault l) is.parts
      ∙ read_on tables length across across (opening section (first ∷ taken) None) fault is.first is.others Stops
      (stops tables clear across section first taken is.first is.keyword is.known opens is.opens no_last is.next
      (whole tables section (clear.rows_apart section) (first ∷ taken) counts)) refl
      ∙ ap (λ (n : ℕ). as_read (group section (first ∷ taken) ∷ []) n) (sym is.ends)
  ends_open length fault section across first taken left used opens counts no_last none (inr is) =
      let open_ = opening section (first ∷ taken) None in
      ap (λ (l : List Item). read_items tables length across open_ fault l) is.none_left
      ∙ ap (λ (f : Option DocFault). at_end tables length open_ f) is.no_fault
      ∙ ap (λ (k : Option Keyword). closed_at length open_ (first_of k (must_open tables (following_sections tables section))))
      (whole tables section (clear.rows_apart section) (first ∷ taken) counts)
      ∙ ap (λ (k : Option Keyword). closed_at length open_ k) none
      ∙ ap (λ (n : ℕ). as_read (group section (first ∷ taken) ∷ []) n) (sym is.ends)

  -- with its own last item
  ends_last : (length : ℕ) (fault : Option DocFault) (section : S) (across next : X) (first : Taken V)
      (taken : List (Taken V)) (items : List Item) (last : Keyword) (lasts : List (Taken V)) (begin left : List Item)
      (used : ℕ) → RowsStand tables section (first ∷ (taken ++ lasts)) → (tables.shape section).last ≡ Some last
      → HasLast tables section (Some last) across items lasts next → EndsWith (begin ++ items) used
      → read_items tables length across (opening section (first ∷ taken) None) fault (items ++ left)
      ≡ as_read (group section (first ∷ (taken ++ lasts)) ∷ []) used
  ends_last length fault section across next first taken items last lasts begin left used counts last_is
      (item, one, items_are, lasts_are, is, is_last) ends =
      let total : first ∷ (taken ++ lasts) ≡ (first ∷ taken) ++ one ∷ [] =
      ap (λ (l : List (Taken V)). first ∷ (taken ++ l)) lasts_are in
      let is_keyword_ : is_keyword ((tables.shape section).last) one.keyword ≡ true =
      ap (λ (l : Option Keyword). is_keyword l one.keyword) last_is ∙ is_last in
      let place : used ≡ item.after =
      ends.ends ∙ sym (after_last ends.before ends.last) ∙ ap last_after (sym ends.parts)
      ∙ ap (λ (l : List Item). last_after (begin ++ l)) items_are ∙ after_last begin item in
      ap (λ (l : List Item).
      read_items tables length across (opening section (first ∷ taken) None) fault (l ++ left)) items_are
      ∙ read_on tables length across next (opening section (first ∷ taken) None) fault item left (Ends one)
      (ends_it tables clear across next section None first taken item one is
      (never_beyond tables clear section None first taken item is.said.keyword tt
      (word_begins tables clear across section item one is.said ∙ last_begins tables clear section one.keyword is_keyword_))
      is_keyword_
      (is_new tables section across item one is.said (first ∷ taken) [] (first ∷ (taken ++ lasts)) counts total)
      (none_lacks tables section (clear.rows_apart section) one (first ∷ taken) (first ∷ (taken ++ lasts)) counts total))
      is.note
      ∙ ap (λ (l : List (Taken V)). as_read (group section l ∷ []) item.after) (sym total)
      ∙ ap (λ (n : ℕ). as_read (group section (first ∷ (taken ++ lasts)) ∷ []) n) (sym place)

  -- ---- the next section

  -- its opener opens it
  opens_made : (across next : X) (section other : S) (first : Taken V) (taken : List (Taken V)) (item : Item) (one : Taken V)
      → IsListed tables section → same (opener tables section) first.keyword ≡ true
      → RowsStand tables section (first ∷ taken)
      → (tables.shape section).last ≡ None
      → ((other ≡ section) × ((tables.shape section).again ≡ again.Section))
      ⊎ IsAfter tables (following_sections tables section) other
      → Stands tables across other item one next → same (opener tables other) one.keyword ≡ true
      → made_by tables across (opening section (first ∷ taken) None) item ≡ Ok (Opens other one)
  opens_made across next section other first taken item one listed opens counts no_last (inl (is, repeats_)) stands opens_other =
      begins_more tables clear across next section first taken item one
      (subst (λ (s : S). Stands tables across s item one next) is stands) opens
      (subst (λ (s : S). same (opener tables s) one.keyword ≡ true) is opens_other) no_last repeats_
      (whole tables section (clear.rows_apart section) (first ∷ taken) counts)
      ∙ ap (λ (s : S). Ok (Opens s one)) (sym is)
  opens_made across next section other first taken item one listed opens counts no_last (inr is_after) stands opens_other =
      let opened = is_opened tables clear section other stands.said.keyword listed is_after
      (word_opens tables clear across next other item one stands opens_other) in
      begins_later tables clear across next section other first taken item one stands opened.not_here opened.opened
      opened.passes_none (whole tables section (clear.rows_apart section) (first ∷ taken) counts)

  -- ---- parts

  -- what is read of a part behind its opener, and of those behind it
  abbrev IsRead : ℕ → Option DocFault → (part : Part S V) → (remembered next : X) → IsPart tables remembered part next
      → List (Part S V) → List Item → ℕ → Type 0
  IsRead length fault part remembered next is parts left used =
      read_items tables length is.with_first (opening part.whole.section (is.first_one ∷ []) None) fault
      (is.items_between ++ (is.items_last ++ (items_of parts ++ left)))
      ≡ as_read (sections_of (part ∷ parts)) used

  -- a part, by what is read behind its items between
  by_rest : (length : ℕ) (fault : Option DocFault) (part : Part S V) (remembered next : X)
      (is : IsPart tables remembered part next) (parts : List (Part S V)) (left : List Item) (used : ℕ)
      → IsListed tables part.whole.section
      → read_items tables length is.before_last (opening part.whole.section (is.first_one ∷ is.between) None) fault
      (is.items_last ++ (items_of parts ++ left))
      ≡ as_read (part.whole ∷ sections_of parts) used
      → IsRead length fault part remembered next is parts left used
  by_rest length fault part remembered next is parts left used listed rest =
      others_read tables clear length fault part.whole.section is.with_first is.first_one is.items_between part.inside
      is.between is.before_last is.last part.whole.taken (is.items_last ++ (items_of parts ++ left)) listed is.opens
      is.counts is.are is.others
      ∙ ap (λ (r : Result (Document S V) ReadRefusal). all_onto part.inside r) rest
      ∙ onto_read part.inside (part.whole ∷ sections_of parts) used

  -- the last part
  last_rest : (length : ℕ) (fault : Option DocFault) (part : Part S V) (remembered next : X)
      (is : IsPart tables remembered part next) (left : List Item) (used : ℕ) (last : Option Keyword)
      → (tables.shape part.whole.section).last ≡ last
      → HasLast tables part.whole.section last is.before_last is.items_last is.last next
      → EndsAt tables length fault part.whole.section last part.items left used
      → must_open tables (following_sections tables part.whole.section) ≡ None
      → read_items tables length is.before_last (opening part.whole.section (is.first_one ∷ is.between) None) fault
      (is.items_last ++ left)
      ≡ as_read (part.whole ∷ []) used
  last_rest length fault part remembered next is left used None last_is (no_items, no_one, same_) ends none =
      let section = part.whole.section in
      let taken : part.whole.taken ≡ is.first_one ∷ is.between =
      is.are ∙ ap (λ (l : List (Taken V)). is.first_one ∷ (is.between ++ l)) no_one
      ∙ ap (λ (l : List (Taken V)). is.first_one ∷ l) (append-nil is.between) in
      ap (λ (l : List Item).
      read_items tables length is.before_last (opening section (is.first_one ∷ is.between) None) fault (l ++ left))
      no_items
      ∙ ends_open length fault section is.before_last is.first_one is.between left used is.opens
      (subst (λ (l : List (Taken V)). RowsStand tables section l) taken is.counts) last_is none ends
      ∙ ap (λ (l : List (Taken V)). as_read (group section l ∷ []) used) (sym taken)
  last_rest length fault part remembered next is left used (Some last) last_is has ends none =
      let section = part.whole.section in
      ends_last length fault section is.before_last next is.first_one is.between is.items_last last is.last
      (is.first_item ∷ is.items_between) left used
      (subst (λ (l : List (Taken V)). RowsStand tables section l) is.are is.counts) last_is has
      (subst (λ (l : List Item). EndsWith l used) is.come ends)
      ∙ ap (λ (l : List (Taken V)). as_read (group section l ∷ []) used) (sym is.are)

  -- a part behind which another comes
  more_rest : (length : ℕ) (fault : Option DocFault) (part : Part S V) (remembered next : X)
      (is : IsPart tables remembered part next) (other : Part S V) (after : X) (is_other : IsPart tables next other after)
      (parts : List (Part S V)) (left : List Item) (used : ℕ) (last : Option Keyword)
      → (tables.shape part.whole.section).last ≡ last
      → HasLast tables part.whole.section last is.before_last is.items_last is.last next
      → IsListed tables part.whole.section
      → ComeBehind tables part.whole.section (names (other ∷ parts))
      → GoesOn tables clear part.whole.section other.whole.section (names parts)
      → IsRead length fault other next after is_other parts left used
      → read_items tables length is.before_last (opening part.whole.section (is.first_one ∷ is.between) None) fault
      (is.items_last ++ (items_of (other ∷ parts) ++ left))
      ≡ as_read (part.whole ∷ sections_of (other ∷ parts)) used
  more_rest length fault part remembered next is other after is_other parts left used (Some last) last_is has listed
      behind goes read =
      absurd (none_goes tables clear part.whole.section other.whole.section (names parts)
      (end_of tables clear part.whole.section last last_is).stands_once
      (clear.sound.ends_last part.whole.section (ends_with last_is)) behind)
    where
      ends_with : (tables.shape part.whole.section).last ≡ Some last
          → ends_document tables part.whole.section ≡ true
      ends_with e = ap (λ (l : Option Keyword). is_some l || begins_next ((tables.shape part.whole.section).again)) e
  more_rest length fault part remembered next is other after is_other parts left used None last_is
      (no_items, no_one, same_) listed behind goes read =
      let section = part.whole.section in
      let open_ = opening section (is.first_one ∷ is.between) None in
      let rest = is_other.items_between ++ (is_other.items_last ++ (items_of parts ++ left)) in
      let taken : part.whole.taken ≡ is.first_one ∷ is.between =
      is.are ∙ ap (λ (l : List (Taken V)). is.first_one ∷ (is.between ++ l)) no_one
      ∙ ap (λ (l : List (Taken V)). is.first_one ∷ l) (append-nil is.between) in
      let come : items_of (other ∷ parts) ++ left ≡ is_other.first_item ∷ rest =
      append_assoc other.items (items_of parts) left
      ∙ ap (λ (l : List Item). l ++ (items_of parts ++ left)) is_other.come
      ∙ ap (λ (l : List Item). is_other.first_item ∷ l)
      (append_assoc is_other.items_between is_other.items_last (items_of parts ++ left)) in
      ap (λ (l : List Item). read_items tables length is.before_last open_ fault (l ++ (items_of (other ∷ parts) ++ left)))
      no_items
      ∙ ap (λ (l : List Item). read_items tables length is.before_last open_ fault l) come
      ∙ ap (λ (x : X). read_items tables length x open_ fault (is_other.first_item ∷ rest)) same_
      ∙ read_on tables length next is_other.with_first open_ fault is_other.first_item rest
      (Opens other.whole.section is_other.first_one)
      (opens_made next is_other.with_first section other.whole.section is.first_one is.between is_other.first_item
      is_other.first_one listed is.opens (subst (λ (l : List (Taken V)). RowsStand tables section l) taken is.counts)
      last_is goes.how is_other.begins is_other.opens) is_other.begins.note
      ∙ ap (λ (r : Result (Document S V) ReadRefusal). onto (group section (is.first_one ∷ is.between)) r) read
      ∙ ap (λ (l : List (Taken V)). as_read (group section l ∷ sections_of (other ∷ parts)) used) (sym taken)

  parts_read : (length : ℕ) (fault : Option DocFault) (part : Part S V) (remembered next : X)
      (is : IsPart tables remembered part next) (parts : List (Part S V)) (left : List Item) (used : ℕ)
      → IsListed tables part.whole.section → ComeBehind tables part.whole.section (names parts)
      → AreParts tables next parts → EndsSo tables length fault (part ∷ parts) left used
      → IsRead length fault part remembered next is parts left used
  parts_read length fault part remembered next is [] left used listed behind each ends =
      by_rest length fault part remembered next is [] left used listed
      (last_rest length fault part remembered next is left used ((tables.shape part.whole.section).last) refl is.ends ends
      (last_must tables part.whole.section behind))
  parts_read length fault part remembered next is (other ∷ parts) left used listed behind (after, is_other, each) ends =
      let goes = next_goes tables clear part.whole.section other.whole.section (names parts) listed behind in
      by_rest length fault part remembered next is (other ∷ parts) left used listed
      (more_rest length fault part remembered next is other after is_other parts left used
      ((tables.shape part.whole.section).last) refl is.ends listed behind goes
      (parts_read length fault other next after is_other parts left used goes.listed goes.behind each ends))

  -- ---- the document

  -- from its first item on
  all_read : (length : ℕ) (fault : Option DocFault) (parts : List (Part S V)) (standing : List S) (left : List Item)
      (used : ℕ) → names parts ≡ tables.first ∷ standing → ComeBehind tables tables.first standing
      → AreParts tables tables.start parts → EndsSo tables length fault parts left used
      → read_items tables length tables.start (start tables) fault (items_of parts ++ left)
      ≡ as_read (sections_of parts) used
  all_read length fault [] standing left used named behind each ends = absurd ends
  all_read length fault (part ∷ parts) standing left used named behind (next, is, each) ends =
      let section_is : part.whole.section ≡ tables.first = cc (named) in
      let names_are : names parts ≡ standing = cc (named) in
      let rest = is.items_between ++ (is.items_last ++ (items_of parts ++ left)) in
      let come : items_of (part ∷ parts) ++ left ≡ is.first_item ∷ rest =
      append_assoc part.items (items_of parts) left
      ∙ ap (λ (l : List Item). l ++ (items_of parts ++ left)) is.come
      ∙ ap (λ (l : List Item). is.first_item ∷ l)
      (append_assoc is.items_between is.items_last (items_of parts ++ left)) in
      ap (λ (l : List Item). read_items tables length tables.start (start tables) fault l) come
      ∙ read_on tables length tables.start is.with_first (start tables) fault is.first_item rest (Pushes is.first_one)
      (starts tables clear tables.start is.with_first is.first_item is.first_one
      (subst (λ (s : S). Stands tables tables.start s is.first_item is.first_one is.with_first) section_is is.begins)
      (subst (λ (s : S). same (opener tables s) is.first_one.keyword ≡ true) section_is is.opens)) is.begins.note
      ∙ ap (λ (s : S). read_items tables length is.with_first (opening s (is.first_one ∷ []) None) fault rest)
      (sym section_is)
      ∙ parts_read length fault part tables.start next is parts left used
      (subst (λ (s : S). IsListed tables s) (sym section_is) (first_is_listed tables clear))
      (subst (λ (s : S). ComeBehind tables s (names parts)) (sym section_is)
      (subst (λ (l : List S). ComeBehind tables tables.first l) (sym names_are) behind)) each ends

pub documents_are_read : {S K V X : Type 0} (tables : Tables S K V X) → DocumentsAreRead tables
documents_are_read tables clear length contents document is =
    let begins = first_begins tables clear (names is.parts) is.in_order in
    ap (λ (l : List Item). read_items tables length tables.start (start tables) contents.fault l) is.come
    ∙ all_read tables clear length contents.fault is.parts begins.names is.left document.used begins.are begins.behind
    is.each is.ends
    ∙ ap (λ (g : List (Group _ _)). Ok (record { groups = g; used = document.used })) (sym is.are)
