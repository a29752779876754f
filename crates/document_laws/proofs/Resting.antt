-- Each document that is read is parts, one behind the other.
use Rattle.std.proofs.Common.{◌≡◌, ℕ, ◌≤◌, Bool, true, false, List, [], ◌∷◌, ◌++◌, Option, Some, None, Ok, refl, sym}
use Rattle.std.proofs.{Common.{ap, subst, ◌∙◌, arith, inl, inr}, lemmas.{Bool.false≢true, List.Elements.All-head}}
use Rattle.std.{proofs.lemmas.{List.Elements.All-tail, Option.none-some}, specs.Prelude.{All, is_some, ◌||◌}}
use Rattle.item_terms.specs.{declared.fault.DocFault.DocFault, Items.Item}
use Rattle.frame_terms.specs.declared.{document.{Group.Group, Taken.Taken}, keyword.Keyword.Keyword}
use Rattle.frame_terms.specs.{declared.section.Again.Again, Decisions.beyond_inner, Documents.{Document, group}}
use Rattle.frame_terms.specs.{Keywords.{same, word_of}, Order.{following_sections, inner, is_keyword, must_open}}
use Rattle.frame_terms.specs.{Order.opener, Sections.lacking_keyword, Tables.Tables}
use Rattle.document_laws.specs.{Counts.{RowsStand, times}, Order.AreInOrder, Passing.IsPassedIn, Sound.begins_next}
use Rattle.document_laws.specs.{Sound.ends_document, Clear.AreClear, Documents.EndsAt, Parts.{AreOthers, IsOrdinary}}
use Rattle.document_laws.proofs.{Lists.in_order_none, Parts.IsListed, Placing.{IsNotEnded, not_ended_more, stands_once}}
use Rattle.document_laws.proofs.{Rules.alone, Times.none_stands, Ways.{IsAdded, IsEnding, IsStopping}}
use Rattle.document_laws.proofs.{Entering.{HasEntered, entered_more, within_of}, Growing.{adds_inner, adds_tail}}
use Rattle.document_laws.proofs.Growing.{done_tail, ends_tail, none_behind, passes_inner, passes_tail}
use Rattle.document_laws.proofs.{Making.IsNextOpener, Middles.{Extends, NoneInside, none_extends, others_extends}}
use Rattle.document_laws.proofs.{Places.end_of, Tails.{HasAll, HasInnerTail, HasTail}}

neither_way : (n : ℕ) → 1 ≤ n → n ≡ 0 → ⊥
neither_way n some no_ = omega (arith, some, no_)

module _ {S K V X : Type 0} (tables : Tables S K V X) (clear : AreClear tables) (length : ℕ) (fault : Option DocFault)
  where
    -- ---- what is open

    -- a section that stands inside no other
    pub record IsTop (section : S) (first : Taken V) (taken : List (Taken V)) : Type 0 where
      pub listed : IsListed tables section
      pub opens : same (opener tables section) first.keyword ≡ true
      pub not_ended : IsNotEnded tables section (first ∷ taken)

    -- one inside another
    pub record IsIn (section : S) (first : Taken V) (taken : List (Taken V)) (outer : Group S V) (first_around : Taken V)
        (taken_around : List (Taken V)) : Type 0 where
      pub around : outer.taken ≡ first_around ∷ taken_around
      pub top : IsTop outer.section first_around taken_around
      pub inner : (tables.shape outer.section).inner ≡ Some section
      pub opens : same (opener tables section) first.keyword ≡ true
      pub not_ended : IsNotEnded tables section (first ∷ taken)
      pub entered : HasEntered tables clear outer.section (first_around ∷ taken_around)

    -- each row's items stand as often as it asks
    abbrev pub Counts : List (Group S V) → Type 0
    Counts groups = All (λ (group : Group S V). RowsStand tables group.section group.taken) groups

    -- the rest of a section that stands inside no other: with one inside it, or with none where that has stood
    pub record HasRest (section : S) (first : Taken V) (taken : List (Taken V)) (across : X) (items : List Item)
        (document : Document S V) : Type 0 where
      pub any : HasTail tables length fault (AreOthers tables section) section first taken across items document
      pub none : HasEntered tables clear section (first ∷ taken)
          → HasTail tables length fault (NoneInside tables section) section first taken across items document

    abbrev pub RestOf : X → S → List (Taken V) → Option (Group S V) → List Item → Document S V → Type 0
    RestOf across section [] around items document =
        Counts document.groups → HasAll tables length fault tables.first across items document
    RestOf across section (first ∷ taken) None items document =
        Counts document.groups → IsTop section first taken → HasRest section first taken across items document
    RestOf across section (first ∷ taken) (Some outer) items document =
        Counts document.groups → (first_around : Taken V) (taken_around : List (Taken V))
        → IsIn section first taken outer first_around taken_around
        → HasInnerTail tables length fault section first taken outer.section first_around taken_around across items document

    -- with any middle
    pub has_rest : (section : S) (first : Taken V) (taken : List (Taken V)) (across : X) (items : List Item)
        (document : Document S V)
        → ((Middle : X → List Item → List (Group S V) → List (Taken V) → X → Type 0) → Extends tables section Middle
        → HasTail tables length fault Middle section first taken across items document)
        → HasRest section first taken across items document
    has_rest section first taken across items document tail = record {
      any = tail (AreOthers tables section) (others_extends tables section);
      none = λ entered. tail (NoneInside tables section) (none_extends tables section);
    }

    -- ---- the counts

    pub count_first : (first : Group S V) (groups : List (Group S V)) → Counts (first ∷ groups)
        → RowsStand tables first.section first.taken
    count_first first groups counts =
        All-head (λ (group : Group S V). RowsStand tables group.section group.taken) first groups counts

    pub count_rest : (first : Group S V) (groups : List (Group S V)) → Counts (first ∷ groups) → Counts groups
    count_rest first groups counts =
        All-tail (λ (group : Group S V). RowsStand tables group.section group.taken) first groups counts

    -- a section of which nothing lacks and that has not ended has no last item
    pub no_last : (section : S) (taken : List (Taken V)) → IsNotEnded tables section taken
        → lacking_keyword (tables.rows section) taken ≡ None → (tables.shape section).last ≡ None
    no_last section taken not_ended whole = by_last ((tables.shape section).last) refl
      where
        by_last : (last : Option Keyword) → (tables.shape section).last ≡ last → (tables.shape section).last ≡ None
        by_last None e = e
        by_last (Some last) e =
            absurd (neither_way (times last taken)
            (stands_once tables section taken last (end_of tables clear section last e).last_once whole)
            (none_stands last taken (not_ended last e)))

    -- one inside another has one
    pub has_last : (section : S) (outer : Group S V) → (tables.shape outer.section).inner ≡ Some section
        → (tables.shape section).last ≡ None → ⊥
    has_last section outer inner_is none =
        let is_inner = clear.sound.inner outer.section section inner_is in
        none-some is_inner.last (sym none ∙ is_inner.ends)

    -- ---- the end

    pub closes_rest : (across : X) (section : S) (taken : List (Taken V)) (around : Option (Group S V))
        → lacking_keyword (tables.rows section) taken ≡ None → must_open tables (following_sections tables section) ≡ None → fault ≡ None
        → RestOf across section taken around [] (alone (group section taken) length)
    closes_rest across section [] around whole none no_fault =
        absurd (neither_way (times {V = V} (opener tables section) [])
        (stands_once tables section [] (opener tables section) (clear.sound.opener_once section) whole) refl)
    closes_rest across section (first ∷ taken) None whole none no_fault = λ counts top.
        let ended = no_last section (first ∷ taken) top.not_ended whole in
        has_rest section first taken across [] (alone (group section (first ∷ taken)) length) (λ Middle extends.
        done_tail tables length fault section Middle extends first taken across []
        (alone (group section (first ∷ taken)) length) [] [] ended
        (count_first (group section (first ∷ taken)) [] counts) refl refl tt
        (none_behind tables section (in_order_none tables (following_sections tables section) none))
        (at_end ((tables.shape section).last) ended))
      where
        at_end : (last : Option Keyword) → last ≡ None → EndsAt tables length fault section last [] [] length
        at_end None e = inr (record { none_left = refl; no_fault = no_fault; ends = refl })
        at_end (Some last) e = absurd (cc (e))
    closes_rest across section (first ∷ taken) (Some outer) whole none no_fault = λ counts first_around taken_around is.
        absurd (has_last section outer is.inner (no_last section (first ∷ taken) is.not_ended whole))

    -- none follows a section that ends its document
    last_follows : (section : S) → ends_document tables section ≡ true
        → AreInOrder tables (following_sections tables section) []
    last_follows section ends =
        subst (λ (l : List S). AreInOrder tables l []) (sym (clear.sound.ends_last section ends)) refl

    pub ends_rest : (across next : X) (section : S) (first : Taken V) (taken : List (Taken V)) (item : Item)
        (items : List Item) (one : Taken V) → IsEnding tables across section (first ∷ taken) item one
        → tables.note across one ≡ Ok next
        → RestOf across section (first ∷ taken) None (item ∷ items)
        (alone (group section (first ∷ (taken ++ one ∷ []))) item.after)
    ends_rest across next section first taken item items one ending note = λ counts top.
        has_rest section first taken across (item ∷ items) (alone (group section (first ∷ (taken ++ one ∷ []))) item.after)
        (λ Middle extends.
        ends_tail tables length fault section Middle extends first taken across next item items one ending.ends
        (record { said = ending.accepted.taken; regarded = ending.regarded; note = note })
        (count_first (group section (first ∷ (taken ++ one ∷ []))) [] counts)
        (last_follows section (is_last ((tables.shape section).last) ending.ends)))
      where
        is_last : (last : Option Keyword) → is_keyword last one.keyword ≡ true
            → (is_some last || begins_next ((tables.shape section).again)) ≡ true
        is_last None e = absurd (false≢true e)
        is_last (Some keyword) e = refl

    pub stops_rest : (across : X) (section : S) (first : Taken V) (taken : List (Taken V))
        (around : Option (Group S V)) (item : Item) (items : List Item) → IsStopping tables section (first ∷ taken)
        → IsNextOpener tables section item
        → RestOf across section (first ∷ taken) around (item ∷ items) (alone (group section (first ∷ taken)) item.place)
    stops_rest across section first taken None item items stopping is = λ counts top.
        let ended = no_last section (first ∷ taken) top.not_ended stopping.whole in
        has_rest section first taken across (item ∷ items) (alone (group section (first ∷ taken)) item.place)
        (λ Middle extends.
        done_tail tables length fault section Middle extends first taken across (item ∷ items)
        (alone (group section (first ∷ taken)) item.place) [] (item ∷ items) ended
        (count_first (group section (first ∷ taken)) [] counts) refl refl tt
        (none_behind tables section (last_follows section (either (is_some ((tables.shape section).last))
        (ap (λ (m : Again). begins_next m) stopping.stops))))
        (at_next ((tables.shape section).last) ended))
      where
        either : (test : Bool) → begins_next ((tables.shape section).again) ≡ true
            → (test || begins_next ((tables.shape section).again)) ≡ true
        either true e = refl
        either false e = e

        at_next : (last : Option Keyword) → last ≡ None
            → EndsAt tables length fault section last [] (item ∷ items) item.place
        at_next None e = inl (record {
          first = item;
          others = items;
          parts = refl;
          keyword = is.keyword;
          known = is.known;
          opens = is.opens;
          next = stopping.stops;
          ends = refl;
        })
        at_next (Some last) e = absurd (cc (e))
    stops_rest across section first taken (Some outer) item items stopping is = λ counts first_around taken_around in_.
        absurd (has_last section outer in_.inner (no_last section (first ∷ taken) in_.not_ended stopping.whole))

    -- ---- one item more

    pub passes_rest : (across : X) (section : S) (first : Taken V) (taken : List (Taken V))
        (around : Option (Group S V)) (item : Item) (items : List Item) (document : Document S V)
        → IsPassedIn tables section item
        → beyond_inner tables section (first ∷ taken) around item (word_of item.keyword) ≡ None
        → RestOf across section (first ∷ taken) around items document
        → RestOf across section (first ∷ taken) around (item ∷ items) document
    passes_rest across section first taken None item items document is near rest = λ counts top.
        let tails = rest counts top in
        record {
          any = passes_tail tables length fault section (AreOthers tables section) (others_extends tables section) first
              taken across item items document is tails.any;
          none = λ entered. passes_tail tables length fault section (NoneInside tables section)
              (none_extends tables section) first taken across item items document is (tails.none entered);
        }
    passes_rest across section first taken (Some outer) item items document is near rest =
        λ counts first_around taken_around in_.
        passes_inner tables length fault section outer.section first_around taken_around first taken across item items
        document is (within_of ((tables.shape section).limit) first.place item near)
        (rest counts first_around taken_around in_)

    -- an ordinary item
    ordinary : (across next : X) (section : S) (before : List (Taken V)) (item : Item) (one : Taken V)
        → IsAdded tables across section before item one → inner tables section one.keyword ≡ None
        → tables.note across one ≡ Ok next → IsOrdinary tables across section item one next
    ordinary across next section before item one added none note = record {
      stands = record { said = added.accepted.taken; regarded = added.regarded; note = note };
      goes_on = added.goes_on;
      begins_none = none;
    }

    pub adds_rest : (across next : X) (section : S) (first : Taken V) (taken : List (Taken V))
        (around : Option (Group S V)) (item : Item) (items : List Item) (document : Document S V) (one : Taken V)
        → IsAdded tables across section (first ∷ taken) item one → inner tables section one.keyword ≡ None
        → beyond_inner tables section (first ∷ taken) around item (word_of item.keyword) ≡ None
        → tables.note across one ≡ Ok next
        → RestOf next section (first ∷ (taken ++ one ∷ [])) around items document
        → RestOf across section (first ∷ taken) around (item ∷ items) document
    adds_rest across next section first taken None item items document one added none near note rest = λ counts top.
        let is = ordinary across next section (first ∷ taken) item one added none note in
        let tails = rest counts (record {
          listed = top.listed;
          opens = top.opens;
          not_ended = not_ended_more tables across section (first ∷ taken) item one added top.not_ended;
        }) in
        record {
          any = adds_tail tables length fault section (AreOthers tables section) (others_extends tables section) first
              taken across next item items document one is tails.any;
          none = λ entered. adds_tail tables length fault section (NoneInside tables section)
              (none_extends tables section) first taken across next item items document one is
              (tails.none (entered_more tables clear section (first ∷ taken) (one ∷ []) entered));
        }
    adds_rest across next section first taken (Some outer) item items document one added none near note rest =
        λ counts first_around taken_around in_.
        adds_inner tables length fault section outer.section first_around taken_around first taken across next item items
        document one (ordinary across next section (first ∷ taken) item one added none note)
        (within_of ((tables.shape section).limit) first.place item near)
        (rest counts first_around taken_around (record {
          around = in_.around;
          top = in_.top;
          inner = in_.inner;
          opens = in_.opens;
          not_ended = not_ended_more tables across section (first ∷ taken) item one added in_.not_ended;
          entered = in_.entered;
        }))
