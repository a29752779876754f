-- A document's own part alone is read as that document.
use Rattle.std.proofs.Common.{inl, inr, ◌≡◌, ℕ, ◌+◌, true, List, [], ◌∷◌, ◌++◌, length, take, Option, Some, None}
use Rattle.std.proofs.{Common.{Result, Ok, Err, refl, sym, ap, subst, ◌∙◌, arith, ◌≤◌}, lemmas.List.take_all}
use Rattle.std.specs.Prelude.{◌⊎◌, is_some}
use Rattle.item_terms.specs.{Items.{Contents, Item, contents_of, items_of, nothing}, Lines.{Line, lines}}
use Rattle.item_terms.specs.declared.fault.DocFault.{DocFault}
use Rattle.frame_terms.specs.{Decisions.made_by, Documents.{Document, after_made, after_noted, at_end, closed_at}}
use Rattle.frame_terms.specs.Documents.{document_of, go_on, missing_at_end, note_of_made, onto, read_items, start}
use Rattle.frame_terms.specs.{Documents.{with_inner, with_next, with_one, without_inner}, Tables.Tables}
use Rattle.frame_terms.specs.declared.document.{Group.Group, Made.{Made, TheVariants.{Passes, Pushes, Leaves, Ends}}}
use Rattle.frame_terms.specs.declared.document.{Made.TheVariants.{Opens, Enters, Stops}, Open.Open}
use Rattle.frame_terms.specs.declared.{fault.{FrameFault.FrameFault, ReadRefusal.ReadRefusal}, keyword.Keyword.Keyword}
use Rattle.grammar_laws.{specs.{Moved.sizes, Parts.{EndWithObjects, OwnPartIsReadTheSame}}, proofs.LastLines.cut_lines}
use Rattle.grammar_laws.proofs.{LastLines.sizes_both, LinesTogether.sizes_all, OwnLines.{hold, lines_cut}}
use Rattle.grammar_laws.proofs.{SoundLines.ends_all, Endings.{HasObject, IsRight, made_right}}

-- ---- the items up to the end

module _ {S K V X : Type 0} (tables : Tables S K V X) where
  -- The document ends with one of the items, which has an object; up to it they are read so, whatever follows.
  record EndsWithItem (across : X) (open_ : Open S V) (items : List Item) (document : Document S V) : Type 0 where
    front : List Item
    item : Item
    back : List Item
    parts : items ≡ front ++ item ∷ back
    ends : item.after ≡ document.used
    object : is_some item.object ≡ true
    again : (length_ : ℕ) (fault : Option DocFault)
        → read_items tables length_ across open_ fault (front ++ item ∷ []) ≡ Ok document

  -- it ends so, or with the input
  abbrev Ended : ℕ → X → Open S V → List Item → Document S V → Type 0
  Ended length_ across open_ items document = (document.used ≡ length_) ⊎ EndsWithItem across open_ items document

  -- the same of the items behind one
  abbrev EndedAfter : ℕ → Option DocFault → List Item → Type 0
  EndedAfter length_ fault items = (remembered : X) (next : Open S V) (other : Document S V)
      → read_items tables length_ remembered next fault items ≡ Ok other → Ended length_ remembered next items other

  abbrev More : Type 0
  More = X → Open S V → Result (Document S V) ReadRefusal

  abbrev reading : ℕ → Option DocFault → List Item → More
  reading length_ fault items remembered next = read_items tables length_ remembered next fault items

  -- one item more in front
  longer : (length_ : ℕ) (across : X) (open_ : Open S V) (one : Item) (items : List Item)
      (document other : Document S V) (remembered : X) (next : Open S V)
      → document.used ≡ other.used
      → ((l : ℕ) (fault : Option DocFault) (more : List Item)
      → read_items tables l remembered next fault more ≡ Ok other
      → read_items tables l across open_ fault (one ∷ more) ≡ Ok document)
      → Ended length_ remembered next items other → Ended length_ across open_ (one ∷ items) document
  longer length_ across open_ one items document other remembered next used back (inl e) = inl (used ∙ e)
  longer length_ across open_ one items document other remembered next used back (inr is) = inr (record {
    front = one ∷ is.front;
    item = is.item;
    back = is.back;
    parts = ap (λ (l : List Item). one ∷ l) is.parts;
    ends = is.ends ∙ sym used;
    object = is.object;
    again = λ l fault. back l fault (is.front ++ is.item ∷ []) (is.again l fault);
  })

  abbrev used_or : ℕ → Result (Document S V) ReadRefusal → ℕ
  used_or other (Ok document) = document.used
  used_or other (Err refusal) = other

module _ {S K V X : Type 0} (tables : Tables S K V X) (end : EndWithObjects tables) where
  ends_here : (length_ : ℕ) (open_ : Open S V) (fault : Option DocFault) (document : Document S V)
      → at_end tables length_ open_ fault ≡ Ok document → document.used ≡ length_
  ends_here length_ open_ (Some fault) document is = absurd (cc is)
  ends_here length_ open_ None document is = by (missing_at_end tables open_.section open_.taken) is
    where
      by : (missing : Option Keyword) → closed_at length_ open_ missing ≡ Ok document → document.used ≡ length_
      by (Some keyword) is = absurd (cc is)
      by None is = sym (ap (used_or tables length_) is)

  read_to : (length_ : ℕ) (across : X) (open_ : Open S V) (fault : Option DocFault) (items : List Item)
      (document : Document S V)
      → read_items tables length_ across open_ fault items ≡ Ok document
      → Ended tables length_ across open_ items document
  unfolding read_items
  read_to length_ across open_ fault [] document is = inl (ends_here length_ open_ fault document is)
  read_to length_ across open_ fault (item ∷ items) document is =
      by_made (λ remembered next other is. read_to length_ remembered next fault items other is)
      (made_by tables across open_ item) refl is
    where
      -- what is read where an item makes this and this is remembered
      made_read : (made : Made S V) (remembered : X) → made_by tables across open_ item ≡ Ok made
          → note_of_made tables made across ≡ Ok remembered → (l : ℕ) (fault : Option DocFault) (more : List Item)
          → read_items tables l across open_ fault (item ∷ more)
          ≡ go_on made open_ item (λ next. read_items tables l remembered next fault more)
      made_read made remembered e known l fault more =
          ap (λ (m : Result (Made S V) ReadRefusal). after_made tables m across open_ item
          (reading tables l fault more)) e
          ∙ ap (λ (r : Result X FrameFault). after_noted r made open_ item (reading tables l fault more)) known

      by_more : EndedAfter tables length_ fault items → (made : Made S V) (remembered : X) (next : Open S V)
          → made_by tables across open_ item ≡ Ok made
          → note_of_made tables made across ≡ Ok remembered
          → ((more : Open S V → Result (Document S V) ReadRefusal) → go_on made open_ item more ≡ more next)
          → go_on made open_ item (λ next. read_items tables length_ remembered next fault items) ≡ Ok document
          → Ended tables length_ across open_ (item ∷ items) document
      by_more again made remembered next e known goes is =
          longer tables length_ across open_ item items document document remembered next refl
          (λ l fault more same. made_read made remembered e known l fault more
          ∙ goes (λ next. read_items tables l remembered next fault more) ∙ same)
          (again remembered next document
          (sym (goes (λ next. read_items tables length_ remembered next fault items)) ∙ is))

      by_group : EndedAfter tables length_ fault items
          → (made : Made S V) (remembered : X) (next : Open S V) (group : Group S V)
          → made_by tables across open_ item ≡ Ok made
          → note_of_made tables made across ≡ Ok remembered
          → ((more : Open S V → Result (Document S V) ReadRefusal)
          → go_on made open_ item more ≡ onto group (more next))
          → (r : Result (Document S V) ReadRefusal) → read_items tables length_ remembered next fault items ≡ r
          → onto group r ≡ Ok document → Ended tables length_ across open_ (item ∷ items) document
      by_group again made remembered next group e known goes (Err refusal) read is = absurd (cc is)
      by_group again made remembered next group e known goes (Ok other) read is =
          longer tables length_ across open_ item items document other remembered next
          (sym (ap (used_or tables length_) is))
          (λ l fault more same. made_read made remembered e known l fault more
          ∙ goes (λ next. read_items tables l remembered next fault more) ∙ ap (onto group) same ∙ is)
          (again remembered next other read)

      by_going : EndedAfter tables length_ fault items → (made : Made S V) (remembered : X) → HasObject item made
          → made_by tables across open_ item ≡ Ok made
          → note_of_made tables made across ≡ Ok remembered
          → go_on made open_ item (λ next. read_items tables length_ remembered next fault items) ≡ Ok document
          → Ended tables length_ across open_ (item ∷ items) document
      by_going again Passes remembered right e known is =
          by_more again Passes remembered open_ e known (λ more. refl) is
      by_going again (Pushes one) remembered right e known is =
          by_more again (Pushes one) remembered (with_one one open_) e known (λ more. refl) is
      by_going again (Enters section one) remembered right e known is =
          by_more again (Enters section one) remembered (with_inner section one open_) e known (λ more. refl) is
      by_going again (Opens section one) remembered right e known is =
          by_group again (Opens section one) remembered (with_next section one open_)
          (record { section = open_.section; taken = open_.taken }) e known (λ more. refl)
          (read_items tables length_ remembered (with_next section one open_) fault items) refl is
      by_going again (Leaves one) remembered right e known is =
          by_group again (Leaves one) remembered (without_inner open_.around open_)
          (record { section = open_.section; taken = open_.taken ++ one ∷ [] }) e known (λ more. refl)
          (read_items tables length_ remembered (without_inner open_.around open_) fault items) refl is
      by_going again (Ends one) remembered right e known is = inr (record {
        front = [];
        item = item;
        back = items;
        parts = refl;
        ends = ap (used_or tables 0) is;
        object = right;
        again = λ l fault. made_read (Ends one) remembered e known l fault [] ∙ is;
      })
      by_going again Stops remembered right e known is = absurd right

      by_noted : EndedAfter tables length_ fault items → (made : Made S V) → made_by tables across open_ item ≡ Ok made
          → (noted : Result X FrameFault) → note_of_made tables made across ≡ noted
          → after_noted noted made open_ item (reading tables length_ fault items) ≡ Ok document
          → Ended tables length_ across open_ (item ∷ items) document
      by_noted again made e (Err f) known is = absurd (cc is)
      by_noted again made e (Ok remembered) known is =
          by_going again made remembered (subst (IsRight item) e (made_right tables end across item open_)) e known is

      by_made : EndedAfter tables length_ fault items → (r : Result (Made S V) ReadRefusal)
          → made_by tables across open_ item ≡ r
          → after_made tables r across open_ item (reading tables length_ fault items) ≡ Ok document
          → Ended tables length_ across open_ (item ∷ items) document
      by_made again (Err refusal) e is = absurd (cc is)
      by_made again (Ok made) e is = by_noted again made e (note_of_made tables made across) refl is

  -- ---- the text

  own_part : (limit : ℕ) (text : List ℕ) (document : Document S V)
      → Ended tables (length text) tables.start (start tables) (items_of limit text).items document
      → document_of tables (length text) (items_of limit text) ≡ Ok document
      → document_of tables (length (take document.used text)) (items_of limit (take document.used text)) ≡ Ok document
  own_part limit text document (inl e) is =
      subst (λ (t : List ℕ). document_of tables (length t) (items_of limit t) ≡ Ok document)
      (sym (take_all document.used text (omega (arith, e)))) is
  own_part limit text document (inr of) is =
      let cut = cut_lines (0 + limit) 0 nothing (lines text) tt of.front of.item of.back of.parts of.object in
      let used : document.used ≡ sizes cut.first = sym of.ends ∙ cut.ends ∙ from_zero (sizes cut.first) in
      let ended = ends_all (0 + limit) 0 nothing cut.first (of.front ++ of.item ∷ []) nothing cut.reads in
      let there : lines (take document.used text) ≡ cut.first =
      ap (λ (n : ℕ). lines (take n text)) used ∙ lines_cut text cut.first cut.more ended cut.parts in
      let held : items_of limit (take document.used text) ≡ record { items = of.front ++ of.item ∷ []; fault = None } =
      ap (λ (l : List Line). contents_of (0 + limit) 0 nothing l) there
      ∙ hold (0 + limit) 0 cut.first (of.front ++ of.item ∷ []) cut.reads in
      ap (λ (c : Contents). document_of tables (length (take document.used text)) c) held
      ∙ of.again (length (take document.used text)) None
    where
      from_zero : (n : ℕ) → 0 + n ≡ n
      from_zero n = omega arith

pub own_part_same : {S K V X : Type 0} (tables : Tables S K V X) → OwnPartIsReadTheSame tables
own_part_same tables end limit text document is =
    own_part tables end limit text document
    (read_to tables end (length text) tables.start (start tables) (items_of limit text).fault
    (items_of limit text).items document is) is

-- a document ends within the text
pub within_text : {S K V X : Type 0} (tables : Tables S K V X) → EndWithObjects tables → (limit : ℕ) (text : List ℕ)
    (document : Document S V) → document_of tables (length text) (items_of limit text) ≡ Ok document
    → document.used ≤ length text
within_text {S} {K} {V} {X} tables end limit text document is =
    by (read_to tables end (length text) tables.start (start tables) (items_of limit text).fault
    (items_of limit text).items document is)
  where
    by : Ended tables (length text) tables.start (start tables) (items_of limit text).items document
        → document.used ≤ length text
    by (inl e) = omega (arith, e)
    by (inr of) =
        let cut = cut_lines (0 + limit) 0 nothing (lines text) tt of.front of.item of.back of.parts of.object in
        let ends : of.item.after ≡ 0 + sizes cut.first = cut.ends in
        let used = of.ends in
        let all = sizes_all text in
        let both : sizes (lines text) ≡ sizes cut.first + sizes cut.more =
        ap sizes cut.parts ∙ sizes_both cut.first cut.more in
        omega (arith, ends, used, all, both)
