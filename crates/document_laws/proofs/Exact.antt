-- Each document that is read is parts, one behind the other: its sections, and all of it.
use Rattle.std.proofs.Common.{◌≡◌, ℕ, true, List, [], ◌∷◌, ◌++◌, Option, Some, None, Ok, refl, sym, ap, suc, subst, ◌∙◌}
use Rattle.std.proofs.lemmas.{Bool.false≢true, Option.none-some}
use Rattle.item_terms.specs.{declared.fault.DocFault.DocFault, Items.Item}
use Rattle.frame_terms.specs.{declared.document.{Group.Group, Open.Open, Taken.Taken}, Decisions.beyond_inner}
use Rattle.frame_terms.specs.{Documents.{Document, group}, Keywords.{same, word_of}, Order.following_sections}
use Rattle.frame_terms.specs.{Order.{must_open, opener}, Sections.lacking_keyword, Tables.Tables}
use Rattle.frame_laws.proofs.KnownWords.{same-sym}
use Rattle.document_laws.specs.{Order.AreInOrder, Clear.AreClear, Documents.{AreExact, DocumentsAreAll}}
use Rattle.document_laws.proofs.{Counting.stand_as_often, Makes.neither, Parts.{IsListed, names}, Placing.IsNotEnded}
use Rattle.document_laws.proofs.{Placing.{not_ended_more, not_ended_opener, opens_listed}, Rules.behind}
use Rattle.document_laws.proofs.{Ways.{IsBeginning, IsEnding, IsEntering, IsOpening}, Beginning.{begins_all, may_more}}
use Rattle.document_laws.proofs.{Beginning.{opener_regarded, opens_tail}, Entering.{enters_tail, entrance_new}}
use Rattle.document_laws.proofs.{Entering.{entrance_within, leaves_inner, stands_last, within_of}, Places.end_of}
use Rattle.document_laws.proofs.{Places.{follows, opens_inside}, Reading.documents_are_read, Resting.RestOf}
use Rattle.document_laws.proofs.Resting.{adds_rest, has_rest, closes_rest, count_first, count_rest, ends_rest, has_last}
use Rattle.document_laws.proofs.{Resting.{no_last, passes_rest, stops_rest}, Tails.HasAll, Walk.{Rules, holds}}

module _ {S K V X : Type 0} (tables : Tables S K V X) (clear : AreClear tables) where
  -- a section does not end with its opener
  begun_not_ended : (section : S) (one : Taken V) → same (opener tables section) one.keyword ≡ true
      → IsNotEnded tables section (one ∷ [])
  begun_not_ended section one opens keyword last =
      not_ended_opener tables section keyword one last (end_of tables clear section keyword last).later opens keyword last

  -- the first section is one of the document's
  first_is_there : IsListed tables tables.first
  first_is_there = record { front = []; rest = clear.sound.others; parts = clear.sound.begins }

module _ {S K V X : Type 0} (tables : Tables S K V X) (clear : AreClear tables) (length : ℕ) (fault : Option DocFault)
  where
    -- ---- an opener

    starts_rest : (across next : X) (item : Item) (items : List Item) (document : Document S V) (one : Taken V)
        → IsBeginning tables across item one → tables.note across one ≡ Ok next
        → RestOf tables clear length fault next tables.first (one ∷ []) None items document
        → RestOf tables clear length fault across tables.first [] None (item ∷ items) document
    starts_rest across next item items document one is note rest = λ counts.
        begins_all tables length fault tables.first across next item items document one
        (record {
          said = is.accepted.taken;
          regarded = opener_regarded tables clear across tables.first item one is.accepted.taken is.opens;
          note = note;
        })
        is.opens
        (rest counts (record {
          listed = first_is_there tables clear;
          opens = is.opens;
          not_ended = begun_not_ended tables clear tables.first one is.opens;
        })).any

    opens_rest : (across next : X) (section : S) (first : Taken V) (taken : List (Taken V)) (around : Option (Group S V))
        (other : S) (item : Item) (items : List Item) (document : Document S V) (one : Taken V)
        → IsOpening tables across section (first ∷ taken) other item one → tables.note across one ≡ Ok next
        → RestOf tables clear length fault next other (one ∷ []) around items document
        → RestOf tables clear length fault across section (first ∷ taken) around (item ∷ items)
        (behind (group section (first ∷ taken)) document)
    opens_rest across next section first taken None other item items document one is note rest = λ counts top.
        let ended = no_last tables clear length fault section (first ∷ taken) top.not_ended is.whole in
        let whole = group section (first ∷ taken) in
        let all = begins_all tables length fault other across next item items document one
        (record {
          said = is.accepted.taken;
          regarded = opener_regarded tables clear across other item one is.accepted.taken is.opens;
          note = note;
        })
        is.opens
        (rest (count_rest tables clear length fault whole document.groups counts) (record {
          listed = opens_listed tables clear.sound section other top.listed is.follows;
          opens = is.opens;
          not_ended = begun_not_ended tables clear other one is.opens;
        })).any in
        has_rest tables clear length fault section first taken across (item ∷ items) (behind whole document)
        (λ Middle extends.
        opens_tail tables length fault clear section Middle extends first taken across other (item ∷ items) document
        top.listed ended (count_first tables clear length fault whole document.groups counts) is.follows all)
    opens_rest across next section first taken (Some outer) other item items document one is note rest =
        λ counts first_around taken_around in_.
        absurd (has_last tables clear length fault section outer in_.inner
        (no_last tables clear length fault section (first ∷ taken) in_.not_ended is.whole))

    -- ---- a section inside another

    enters_rest : (across next : X) (section : S) (first : Taken V) (taken : List (Taken V)) (around : Option (Group S V))
        (inside : S) (item : Item) (items : List Item) (document : Document S V) (one : Taken V)
        → IsEntering tables across section (first ∷ taken) inside item one
        → beyond_inner tables section (first ∷ taken) around item (word_of item.keyword) ≡ None
        → tables.note across one ≡ Ok next
        → RestOf tables clear length fault next inside (one ∷ []) (Some (group section (first ∷ (taken ++ one ∷ []))))
        items document
        → RestOf tables clear length fault across section (first ∷ taken) around (item ∷ items) document
    enters_rest across next section first taken None inside item items document one is near note rest = λ counts top.
        let found = opens_inside tables clear one.keyword ((tables.shape section).inner) inside is.begins in
        let accepted = is.added.accepted in
        record {
          any = enters_tail tables length fault section inside first taken across next item items document one
              (record { said = accepted.taken; regarded = is.added.regarded; note = note }) is.begins
              (entrance_within tables clear across section inside (first ∷ taken) item one accepted is.begins near)
              (rest counts first (taken ++ one ∷ []) (record {
                around = refl;
                top = record {
                  listed = top.listed;
                  opens = top.opens;
                  not_ended = not_ended_more tables across section (first ∷ taken) item one is.added top.not_ended;
                };
                inner = found.0;
                opens = found.1;
                not_ended = begun_not_ended tables clear inside one found.1;
                entered = λ other e. stands_last (opener tables other) (first ∷ taken) one
                    (same-sym one.keyword (opener tables other)
                    ∙ ap (λ (s : S). same (opener tables s) one.keyword) (one_inside other inside e found.0) ∙ found.1);
              }));
          none = λ entered. absurd (false≢true
              (sym (entrance_new tables clear across section inside (first ∷ taken) item one accepted is.begins)
              ∙ entered inside found.0));
        }
      where
        one_inside : (other inside : S) → (tables.shape section).inner ≡ Some other
            → (tables.shape section).inner ≡ Some inside → other ≡ inside
        one_inside other inside a b = cc (a, b)
    enters_rest across next section first taken (Some outer) inside item items document one is near note rest =
        λ counts first_around taken_around in_.
        let found = opens_inside tables clear one.keyword ((tables.shape section).inner) inside is.begins in
        absurd (none-some inside (sym (clear.sound.inner outer.section section in_.inner).plain ∙ found.0))

    leaves_rest : (across next : X) (section : S) (first : Taken V) (taken : List (Taken V)) (outer : Group S V)
        (item : Item) (items : List Item) (document : Document S V) (one : Taken V)
        → IsEnding tables across section (first ∷ taken) item one
        → beyond_inner tables section (first ∷ taken) (Some outer) item (word_of item.keyword) ≡ None
        → tables.note across one ≡ Ok next
        → RestOf tables clear length fault next outer.section outer.taken None items document
        → RestOf tables clear length fault across section (first ∷ taken) (Some outer) (item ∷ items)
        (behind (group section (first ∷ (taken ++ one ∷ []))) document)
    leaves_rest across next section first taken outer item items document one ending near note rest =
        λ counts first_around taken_around in_.
        let whole = group section (first ∷ (taken ++ one ∷ [])) in
        let here : RestOf tables clear length fault next outer.section (first_around ∷ taken_around) None items document =
        subst (λ (l : List (Taken V)). RestOf tables clear length fault next outer.section l None items document)
        in_.around rest in
        leaves_inner tables length fault section first taken outer.section first_around taken_around across next item items
        document one ending.ends
        (record { said = ending.accepted.taken; regarded = ending.regarded; note = note })
        (within_of ((tables.shape section).limit) first.place item near)
        (count_first tables clear length fault whole document.groups counts)
        ((here (count_rest tables clear length fault whole document.groups counts) in_.top).none in_.entered)

    -- ---- all of it

    abbrev Rest : X → Open S V → List Item → Document S V → Type 0
    Rest across open_ items document =
        RestOf tables clear length fault across open_.section open_.taken open_.around items document

    parts_stand : Rules tables length fault Rest
    parts_stand = record {
      closes = λ across section taken around missing no_fault.
          let none = neither (lacking_keyword (tables.rows section) taken) (must_open tables (following_sections tables section)) missing in
          closes_rest tables clear length fault across section taken around none.0 none.1 no_fault;
      passes = λ across section first taken around item items document is near rest.
          passes_rest tables clear length fault across section first taken around item items document is near rest;
      starts = λ across next item items document one is note rest.
          starts_rest across next item items document one is note rest;
      adds = λ across next section first taken around item items document one added none near note rest.
          adds_rest tables clear length fault across next section first taken around item items document one added none near
          note rest;
      opens = λ across next section first taken around other item items document one is note rest.
          opens_rest across next section first taken around other item items document one is note rest;
      enters = λ across next section first taken around inside item items document one is near note rest.
          enters_rest across next section first taken around inside item items document one is near note rest;
      leaves = λ across next section first taken outer item items document one ending near note rest.
          leaves_rest across next section first taken outer item items document one ending near note rest;
      ends = λ across next section first taken item items one ending note.
          ends_rest tables clear length fault across next section first taken item items one ending note;
      stops = λ across section first taken around item items stopping is.
          stops_rest tables clear length fault across section first taken around item items stopping is;
    }

    -- the order of its sections
    all_in_order : (items : List Item) (across : X) (document : Document S V)
        (all : HasAll tables length fault tables.first across items document)
        → AreInOrder tables tables.sections (names (all.part ∷ all.parts))
    all_in_order items across document all =
        subst (λ (l : List S). AreInOrder tables l (names (all.part ∷ all.parts))) (sym clear.sound.begins) (
          suc all.behind.number,
          all.behind.others,
          ap (λ (s : S). s ∷ names all.parts) all.named ∙ ap (λ (l : List S). tables.first ∷ l) all.behind.are,
          may_more ((tables.shape tables.first).again) all.behind.number all.behind.may,
          subst (λ (l : List S). AreInOrder tables l all.behind.others)
              (follows tables clear tables.first
              (record { front = []; rest = clear.sound.others; parts = clear.sound.begins })) all.behind.in_order,
        )

pub documents_are_all : {S K V X : Type 0} (tables : Tables S K V X) → DocumentsAreAll tables
documents_are_all tables clear length contents document e =
    let all = holds tables clear.sound length (Rest tables clear length contents.fault) contents
    (parts_stand tables clear length contents.fault) document e (stand_as_often tables length contents document e) in
    record {
      parts = all.part ∷ all.parts;
      left = all.left;
      come = all.come;
      are = all.are;
      in_order = all_in_order tables clear length contents.fault contents.items tables.start document all;
      each = (all.next, all.is, all.each);
      ends = all.stops;
    }

-- exactly those
pub are_exact : {S K V X : Type 0} (tables : Tables S K V X) → AreClear tables → AreExact tables
are_exact tables clear length contents document =
    (documents_are_all tables clear length contents document, documents_are_read tables clear length contents document)
