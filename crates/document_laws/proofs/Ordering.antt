-- The sections of a document stand in the order of its table.
use Rattle.std.proofs.Common.{◌≡◌, ℕ, ◌≤◌, Bool, true, false, List, [], ◌∷◌, ◌++◌, Option, Some, None, refl, sym, ap}
use Rattle.std.{proofs.{Common.{arith, subst, inl, inr}, lemmas.{Bool.false≢true, Option.none-some}}, specs.Prelude.◌⊎◌}
use Rattle.std.specs.Prelude.{◌||◌, is_some}
use Rattle.item_terms.specs.{declared.fault.DocFault.DocFault, Items.Item}
use Rattle.frame_terms.specs.declared.{document.{Group.Group, Open.Open, Taken.Taken}, keyword.Keyword.Keyword}
use Rattle.frame_terms.specs.{declared.section.Again.Again, Documents.{Document, group}, Order.following_sections}
use Rattle.frame_terms.specs.{Order.{is_keyword, must_open, opener}, Sections.lacking_keyword, Tables.Tables}
use Rattle.frame_laws.proofs.Steps.{opening}
use Rattle.document_laws.specs.{Items.AreItemsIn, Counts.times, Order.{AreInOrder, SectionsStandInOrder}}
use Rattle.document_laws.{specs.Sound.{AreSound, begins_next, ends_document}, proofs.Taking.{AroundIs, around_more}}
use Rattle.document_laws.proofs.{Taking.{first_here, items_of_more, one_more_item}, Parts.{one_further, StandsFrom}}
use Rattle.document_laws.proofs.Parts.{first_listed, stands_again, stands_before, stands_inside, stands_last}
use Rattle.document_laws.proofs.{Parts.stands_whole, Lists.{in_order_none, opened_after}, Makes.neither, Rules.Rules}
use Rattle.document_laws.proofs.{Rules.holds, Ways.{IsAgain, IsEnding, IsEntering, IsLater, IsStopping}}
use Rattle.document_laws.proofs.Placing.{IsPlaced, adds_placed, closes_alone, enters_alone, enters_placed}
use Rattle.document_laws.proofs.Placing.{leaves_placed, opens_alone, opens_placed, placed_alone, stands_once}
use Rattle.document_laws.proofs.Placing.{stops_alone, top}

module _ {S K V X : Type 0} (tables : Tables S K V X) where
  -- what is open stands in a run of items
  record AreHere (run : List Item) (open_ : Open S V) : Type 0 where
    pub here : AreItemsIn tables open_.section run open_.taken
    pub around : AroundIs tables run open_.around

  abbrev Rest : X → Open S V → List Item → Document S V → Type 0
  Rest across open_ items document =
      IsPlaced tables open_.section open_.taken open_.around → (run : List Item) → AreHere run open_
      → StandsFrom tables (top tables open_.section open_.around) run items document.groups

module _ {S K V X : Type 0} (tables : Tables S K V X) (sound : AreSound tables) where
  -- ---- the end of a document

  closes_placed : (section : S) (taken : List (Taken V)) (around : Option (Group S V)) (run : List Item)
      → AreItemsIn tables section run taken
      → lacking_keyword (tables.rows section) taken ≡ None → must_open tables (following_sections tables section) ≡ None
      → IsPlaced tables section taken around
      → StandsFrom tables (top tables section around) run [] (group section taken ∷ [])
  closes_placed section [] None run are whole none is =
      let some : 1 ≤ times {V = V} (opener tables section) [] =
      stands_once tables section [] (opener tables section) (sound.opener_once section) whole in
      absurd (no_less some)
    where
      no_less : 1 ≤ 0 → ⊥
      no_less e = omega (arith, e)
  closes_placed section (first ∷ taken) None run are whole none is =
      stands_last tables sound section (first ∷ taken) run [] are is.begun
      (in_order_none tables (following_sections tables section) none)
  closes_placed section taken (Some outer) run are whole none is =
      absurd (none-some outer (sym (closes_alone tables sound section taken (Some outer) whole is)))

  -- none follows a section that ends its document
  none_follows : (section : S) → ends_document tables section ≡ true → AreInOrder tables (following_sections tables section) []
  none_follows section ends =
      subst (λ (l : List S). AreInOrder tables l []) (sym (sound.ends_last section ends)) refl

  ends_placed : (across : X) (section : S) (first : Taken V) (taken : List (Taken V)) (item : Item)
      (one : Taken V) (run items : List Item) → IsEnding tables across section (first ∷ taken) item one
      → IsPlaced tables section (first ∷ taken) None → AreItemsIn tables section run (first ∷ (taken ++ one ∷ []))
      → StandsFrom tables section run items (group section (first ∷ (taken ++ one ∷ [])) ∷ [])
  ends_placed across section first taken item one run items ending is are =
      stands_last tables sound section (first ∷ (taken ++ one ∷ [])) run items are is.begun
      (none_follows section (has_last ((tables.shape section).last) ending.ends))
    where
      has_last : (last : Option Keyword) → is_keyword last one.keyword ≡ true
          → (is_some last || begins_next ((tables.shape section).again)) ≡ true
      has_last None e = absurd (false≢true (e))
      has_last (Some keyword) e = refl

  stops_placed : (section : S) (first : Taken V) (taken : List (Taken V)) (around : Option (Group S V))
      (run items : List Item) → AreItemsIn tables section run (first ∷ taken)
      → IsStopping tables section (first ∷ taken) → IsPlaced tables section (first ∷ taken) around
      → StandsFrom tables (top tables section around) run items (group section (first ∷ taken) ∷ [])
  stops_placed section first taken None run items are stopping is =
      stands_last tables sound section (first ∷ taken) run items are is.begun
      (none_follows section (either (is_some ((tables.shape section).last))
      (ap (λ (m : Again). begins_next m) stopping.stops)))
    where
      either : (test : Bool) → begins_next ((tables.shape section).again) ≡ true
          → (test || begins_next ((tables.shape section).again)) ≡ true
      either true e = refl
      either false e = e
  stops_placed section first taken (Some outer) run items are stopping is =
      absurd (none-some outer (sym (stops_alone tables sound section (first ∷ taken) (Some outer) stopping is)))

  -- ---- one more section

  opens_stands : (section : S) (first : Taken V) (taken : List (Taken V)) (around : Option (Group S V)) (other : S)
      (one : Taken V) (run : List Item) (item : Item) (items : List Item) (groups : List (Group S V))
      → AreItemsIn tables section run (first ∷ taken) → AreItemsIn tables other (item ∷ []) (one ∷ [])
      → IsLater tables section other ⊎ IsAgain tables section other → IsPlaced tables section (first ∷ taken) around
      → ((begin : List Item) → AreHere tables begin (opening other (one ∷ []) around)
      → StandsFrom tables (top tables other around) begin items groups)
      → StandsFrom tables (top tables section around) run (item ∷ items) (group section (first ∷ taken) ∷ groups)
  opens_stands section first taken None other one run item items groups are next (inl later) is rest =
      stands_before tables sound section other (first ∷ taken) run item items groups are is.begun is.listed
      (opened_after tables later.keyword (following_sections tables section) other later.opened later.passes_none)
      (rest (item ∷ []) (record { here = next; around = tt }))
  opens_stands section first taken None other one run item items groups are next (inr once_more) is rest =
      stands_again tables sound section (first ∷ taken) run item items groups are is.begun once_more.repeats
      (subst (λ (s : S). StandsFrom tables s (item ∷ []) items groups) once_more.same_name
      (rest (item ∷ []) (record { here = next; around = tt })))
  opens_stands section first taken (Some outer) other one run item items groups are next follows is rest =
      absurd (none-some outer (sym (opens_alone tables sound section (first ∷ taken) (Some outer) other follows is)))

  enters_stands : (across : X) (section : S) (first : Taken V) (taken : List (Taken V)) (around : Option (Group S V))
      (inside : S) (item : Item) (one : Taken V) (run items : List Item) (groups : List (Group S V))
      → IsEntering tables across section (first ∷ taken) inside item one
      → (IsPlaced tables inside (one ∷ []) (Some (group section (first ∷ (taken ++ one ∷ []))))
      → StandsFrom tables section run items groups)
      → IsPlaced tables section (first ∷ taken) around
      → StandsFrom tables (top tables section around) run items groups
  enters_stands across section first taken None inside item one run items groups entering rest is =
      rest (enters_placed tables sound across section first taken inside item one entering is)
  enters_stands across section first taken (Some outer) inside item one run items groups entering rest is =
      absurd (none-some outer (sym
      (enters_alone tables sound across section (first ∷ taken) (Some outer) inside item one entering is)))

  -- ---- all of it

  sections_stand : (length : ℕ) (fault : Option DocFault) → Rules tables length fault (Rest tables)
  sections_stand length fault = record {
    closes = λ across section taken around missing no_fault is run are.
        let none = neither (lacking_keyword (tables.rows section) taken) (must_open tables (following_sections tables section)) missing in
        closes_placed section taken around run are.here none.0 none.1 is;
    passes = λ across open_ item items document may rest is run are.
        one_further tables sound (top tables open_.section open_.around) run item items document.groups
        (rest is (run ++ item ∷ []) (record {
          here = items_of_more tables open_.section run (item ∷ []) open_.taken are.here;
          around = around_more tables run item open_.around are.around;
        }));
    starts = λ across next item items document one may note rest is run are.
        one_further tables sound tables.first run item items document.groups
        (rest (placed_alone tables sound tables.first one is.listed may.opens) (run ++ item ∷ []) (record {
          here = first_here tables across tables.first run item one (inl may.accepted.taken);
          around = tt;
        }));
    adds = λ across next section first taken around item items document one may note rest is run are.
        one_further tables sound (top tables section around) run item items document.groups
        (rest (adds_placed tables sound across section first taken around item one may is) (run ++ item ∷ []) (record {
          here = one_more_item tables across section run item (first ∷ taken) one are.here (inl may.accepted.taken);
          around = around_more tables run item around are.around;
        }));
    opens = λ across next section first taken around other item items document one may note rest is run are.
        opens_stands section first taken around other one run item items document.groups are.here
        (first_here tables across other [] item one (inl may.accepted.taken)) may.follows is
        (rest (opens_placed tables sound section first taken around other one may.opens may.follows is));
    enters = λ across next section first taken around inside item items document one may note rest is run are.
        one_further tables sound (top tables section around) run item items document.groups
        (enters_stands across section first taken around inside item one (run ++ item ∷ []) items document.groups may
        (λ placed. rest placed (run ++ item ∷ []) (record {
          here = first_here tables across inside run item one
              (inr (record { around = section; begins = may.begins; taken = may.added.accepted.taken }));
          around = one_more_item tables across section run item (first ∷ taken) one are.here
              (inl may.added.accepted.taken);
        })) is);
    leaves = λ across next section first taken outer item items document one may note rest is run are.
        one_further tables sound outer.section run item items
        (group section (first ∷ (taken ++ one ∷ [])) ∷ document.groups)
        (stands_inside tables sound outer.section section (first ∷ (taken ++ one ∷ [])) (run ++ item ∷ []) items
        document.groups
        (one_more_item tables across section run item (first ∷ taken) one are.here (inl may.accepted.taken)) is.begun
        is.around_is.inner
        (rest (leaves_placed tables sound section (first ∷ taken) outer is) (run ++ item ∷ []) (record {
          here = items_of_more tables outer.section run (item ∷ []) outer.taken are.around;
          around = tt;
        })));
    ends = λ across next section first taken item items one may note is run are.
        one_further tables sound section run item items (group section (first ∷ (taken ++ one ∷ [])) ∷ [])
        (ends_placed across section first taken item one (run ++ item ∷ []) items may is
        (one_more_item tables across section run item (first ∷ taken) one are.here (inl may.accepted.taken)));
    stops = λ across section first taken around item items may is run are.
        stops_placed section first taken around run (item ∷ items) are.here may is;
  }

pub stand_in_order : {S K V X : Type 0} (tables : Tables S K V X) → SectionsStandInOrder tables
stand_in_order tables sound length contents document e =
    stands_whole tables sound contents.items document.groups
    (holds tables length (Rest tables) contents (sections_stand tables sound length contents.fault) document e
    (record { listed = first_listed tables sound; begun = tt; around_is = tt }) []
    (record { here = tt; around = tt }))
