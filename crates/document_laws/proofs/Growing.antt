-- The rest of a document from a section on, with one item more in front.
use Rattle.std.proofs.Common.{◌≡◌, ℕ, true, List, [], ◌∷◌, ◌++◌, Option, Some, None, refl, sym, ap, subst, ◌∙◌}
use Rattle.std.proofs.{Common.{append_assoc, append-nil, inl, inr}, lemmas.Bool.false≢true}
use Rattle.item_terms.specs.{declared.fault.DocFault.DocFault, Items.Item}
use Rattle.frame_terms.specs.declared.{document.{Group.Group, Taken.Taken}, keyword.Keyword.Keyword}
use Rattle.frame_terms.specs.{Documents.{Document, group}, Order.{following_sections, is_keyword}, Tables.Tables}
use Rattle.document_laws.specs.{Counts.RowsStand, Order.{AreInOrder, Part, items_of, sections_of}, Passing.IsPassedIn}
use Rattle.document_laws.specs.{Documents.{AreParts, EndsAt}, Parts.{EndsWithin, HasLast, IsOrdinary, Stands}}
use Rattle.document_laws.proofs.{Parts.names, Rules.alone, Following.ComeBehind, Middles.Extends, Tails.EndsBehind}
use Rattle.document_laws.proofs.Tails.{HasInnerTail, HasTail, ends_more}

module _ {S K V X : Type 0} (tables : Tables S K V X) where
  -- no section behind one
  pub none_behind : (section : S) → AreInOrder tables (following_sections tables section) [] → ComeBehind tables section []
  none_behind section in_order = record { number = 0; others = []; are = refl; may = inl refl; in_order = in_order }

  -- an item that is the last of its section
  pub last_has : (section : S) (last : Option Keyword) (across next : X) (item : Item) (one : Taken V)
      → is_keyword last one.keyword ≡ true → Stands tables across section item one next
      → HasLast tables section last across (item ∷ []) (one ∷ []) next
  last_has section None across next item one e is = absurd (false≢true e)
  last_has section (Some last) across next item one e is = (item, one, refl, refl, is, e)

  -- a section that has no last item ends with none
  pub no_last_has : (section : S) (last : Option Keyword) (across : X) → last ≡ None
      → HasLast tables section last across [] [] across
  no_last_has section None across e = (refl, refl, refl)
  no_last_has section (Some last) across e = absurd (cc (e))

module _ {S K V X : Type 0} (tables : Tables S K V X) (length : ℕ) (fault : Option DocFault) (section : S)
    (Middle : X → List Item → List (Group S V) → List (Taken V) → X → Type 0)
    (extends : Extends tables section Middle) where
  -- ---- a section inside no other

  -- one that is passed over
  pub passes_tail : (first : Taken V) (taken : List (Taken V)) (across : X) (item : Item) (items : List Item)
      (document : Document S V) → IsPassedIn tables section item
      → HasTail tables length fault Middle section first taken across items document
      → HasTail tables length fault Middle section first taken across (item ∷ items) document
  passes_tail first taken across item items document is tail = record {
    items_between = item ∷ tail.items_between;
    items_last = tail.items_last;
    parts = tail.parts;
    left = tail.left;
    come = ap (λ (l : List Item). item ∷ l) tail.come;
    inside = tail.inside;
    between = tail.between;
    last = tail.last;
    before_last = tail.before_last;
    next = tail.next;
    others = extends.passes across item tail.items_between tail.inside tail.between tail.before_last is tail.others;
    ends = tail.ends;
    are = tail.are;
    counts = tail.counts;
    each = tail.each;
    behind = tail.behind;
    stops = ends_more tables length fault section item (tail.items_between ++ tail.items_last) tail.parts tail.left
        document.used tail.stops;
  }

  -- an ordinary one
  pub adds_tail : (first : Taken V) (taken : List (Taken V)) (across next : X) (item : Item) (items : List Item)
      (document : Document S V) (one : Taken V) → IsOrdinary tables across section item one next
      → HasTail tables length fault Middle section first (taken ++ one ∷ []) next items document
      → HasTail tables length fault Middle section first taken across (item ∷ items) document
  adds_tail first taken across next item items document one is tail =
      let same_ : (taken ++ one ∷ []) ++ (tail.between ++ tail.last) ≡ taken ++ one ∷ (tail.between ++ tail.last) =
      append_assoc taken (one ∷ []) (tail.between ++ tail.last) in
      record {
        items_between = item ∷ tail.items_between;
        items_last = tail.items_last;
        parts = tail.parts;
        left = tail.left;
        come = ap (λ (l : List Item). item ∷ l) tail.come;
        inside = tail.inside;
        between = one ∷ tail.between;
        last = tail.last;
        before_last = tail.before_last;
        next = tail.next;
        others = extends.adds across next item one tail.items_between tail.inside tail.between tail.before_last is
            tail.others;
        ends = tail.ends;
        are = tail.are
            ∙ ap (λ (l : List (Taken V)). tail.inside ++ group section (first ∷ l) ∷ sections_of tail.parts) same_;
        counts = subst (λ (l : List (Taken V)). RowsStand tables section (first ∷ l)) same_ tail.counts;
        each = tail.each;
        behind = tail.behind;
        stops = ends_more tables length fault section item (tail.items_between ++ tail.items_last) tail.parts
            tail.left document.used tail.stops;
      }

  -- nothing more of the section
  pub done_tail : (first : Taken V) (taken : List (Taken V)) (across : X) (items : List Item) (document : Document S V)
      (parts : List (Part S V)) (left : List Item) → (tables.shape section).last ≡ None
      → RowsStand tables section (first ∷ taken) → items ≡ items_of parts ++ left
      → document.groups ≡ group section (first ∷ taken) ∷ sections_of parts → AreParts tables across parts
      → ComeBehind tables section (names parts) → EndsBehind tables length fault section [] parts left document.used
      → HasTail tables length fault Middle section first taken across items document
  done_tail first taken across items document parts left no_last counts come are each behind stops =
      let same_ : taken ≡ taken ++ [] = sym (append-nil taken) in
      record {
        items_between = [];
        items_last = [];
        parts = parts;
        left = left;
        come = come;
        inside = [];
        between = [];
        last = [];
        before_last = across;
        next = across;
        others = extends.none across;
        ends = no_last_has tables section ((tables.shape section).last) across no_last;
        are = are ∙ ap (λ (l : List (Taken V)). group section (first ∷ l) ∷ sections_of parts) same_;
        counts = subst (λ (l : List (Taken V)). RowsStand tables section (first ∷ l)) same_ counts;
        each = each;
        behind = behind;
        stops = stops;
      }

  -- the last one, which ends the document
  pub ends_tail : (first : Taken V) (taken : List (Taken V)) (across next : X) (item : Item) (items : List Item)
      (one : Taken V) → is_keyword ((tables.shape section).last) one.keyword ≡ true
      → Stands tables across section item one next → RowsStand tables section (first ∷ (taken ++ one ∷ []))
      → AreInOrder tables (following_sections tables section) []
      → HasTail tables length fault Middle section first taken across (item ∷ items)
      (alone (group section (first ∷ (taken ++ one ∷ []))) item.after)
  ends_tail first taken across next item items one last is counts in_order = record {
    items_between = [];
    items_last = item ∷ [];
    parts = [];
    left = items;
    come = refl;
    inside = [];
    between = [];
    last = one ∷ [];
    before_last = across;
    next = next;
    others = extends.none across;
    ends = last_has tables section ((tables.shape section).last) across next item one last is;
    are = refl;
    counts = counts;
    each = tt;
    behind = none_behind tables section in_order;
    stops = ends_at ((tables.shape section).last) last;
  }
    where
      ends_at : (found : Option Keyword) → is_keyword found one.keyword ≡ true
          → EndsAt tables length fault section found (item ∷ []) items item.after
      ends_at None e = absurd (false≢true e)
      ends_at (Some keyword) e = record { before = []; last = item; parts = refl; ends = refl }

module _ {S K V X : Type 0} (tables : Tables S K V X) (length : ℕ) (fault : Option DocFault) (section around : S)
    (first_around : Taken V) (taken_around : List (Taken V)) where
  -- ---- a section inside another

  pub passes_inner : (first : Taken V) (taken : List (Taken V)) (across : X) (item : Item) (items : List Item)
      (document : Document S V) → IsPassedIn tables section item
      → EndsWithin ((tables.shape section).limit) first.place item
      → HasInnerTail tables length fault section first taken around first_around taken_around across items document
      → HasInnerTail tables length fault section first taken around first_around taken_around across (item ∷ items)
      document
  passes_inner first taken across item items document is near tail = record {
    items_between = item ∷ tail.items_between;
    items_last = tail.items_last;
    more = tail.more;
    come = ap (λ (l : List Item). item ∷ l) tail.come;
    between = tail.between;
    last = tail.last;
    before_last = tail.before_last;
    next = tail.next;
    others = inl (is, tail.others);
    ends = tail.ends;
    near = (near, tail.near);
    groups = tail.groups;
    are = tail.are;
    counts = tail.counts;
    tail = tail.tail;
  }

  pub adds_inner : (first : Taken V) (taken : List (Taken V)) (across next : X) (item : Item) (items : List Item)
      (document : Document S V) (one : Taken V) → IsOrdinary tables across section item one next
      → EndsWithin ((tables.shape section).limit) first.place item
      → HasInnerTail tables length fault section first (taken ++ one ∷ []) around first_around taken_around next items
      document
      → HasInnerTail tables length fault section first taken around first_around taken_around across (item ∷ items)
      document
  adds_inner first taken across next item items document one is near tail =
      let same_ : (taken ++ one ∷ []) ++ (tail.between ++ tail.last) ≡ taken ++ one ∷ (tail.between ++ tail.last) =
      append_assoc taken (one ∷ []) (tail.between ++ tail.last) in
      record {
        items_between = item ∷ tail.items_between;
        items_last = tail.items_last;
        more = tail.more;
        come = ap (λ (l : List Item). item ∷ l) tail.come;
        between = one ∷ tail.between;
        last = tail.last;
        before_last = tail.before_last;
        next = tail.next;
        others = inr (one, tail.between, next, refl, is, tail.others);
        ends = tail.ends;
        near = (near, tail.near);
        groups = tail.groups;
        are = tail.are ∙ ap (λ (l : List (Taken V)). group section (first ∷ l) ∷ tail.groups) same_;
        counts = subst (λ (l : List (Taken V)). RowsStand tables section (first ∷ l)) same_ tail.counts;
        tail = tail.tail;
      }
