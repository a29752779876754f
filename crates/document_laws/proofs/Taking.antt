-- Each item of each section of a document is one of the input's, in its order.
use Rattle.std.proofs.Common.{◌≡◌, ℕ, List, [], ◌∷◌, ◌++◌, Option, Some, None, refl, sym, ap, subst, ◌∙◌, append_assoc}
use Rattle.std.{proofs.{Common.{inl, inr}, lemmas.List.Elements.{All-cons, All-nil}}, specs.Prelude.All}
use Rattle.item_terms.specs.{declared.fault.DocFault.DocFault, Items.Item}
use Rattle.frame_terms.specs.{declared.document.{Group.Group, Open.Open, Taken.Taken}, Documents.{Document, group}}
use Rattle.frame_terms.specs.Tables.{Tables}
use Rattle.document_laws.{specs.Items.{AreItemsIn, IsItemIn, ItemsAreSaid}, proofs.Rules.{Rules, holds}}

module _ {S K V X : Type 0} (tables : Tables S K V X) where
  -- items are items of more
  pub items_of_more : (section : S) (items more : List Item) (taken : List (Taken V)) → AreItemsIn tables section items taken
      → AreItemsIn tables section (items ++ more) taken
  items_of_more section items more [] are = tt
  items_of_more section items more (one ∷ taken) are = (
    are.0,
    are.1,
    are.2 ++ more,
    ap (λ (l : List Item). l ++ more) are.3 ∙ append_assoc are.0 (are.1 ∷ are.2) more,
    are.4,
    are.5,
    items_of_more section are.2 more taken are.6,
  )

  -- and with one more
  pub one_more_item : (remembered : X) (section : S) (items : List Item) (item : Item) (taken : List (Taken V))
      (one : Taken V)
      → AreItemsIn tables section items taken → IsItemIn tables remembered section item one
      → AreItemsIn tables section (items ++ item ∷ []) (taken ++ one ∷ [])
  one_more_item remembered section items item [] one are is = (items, item, [], refl, remembered, is, tt)
  one_more_item remembered section items item (other ∷ taken) one are is = (
    are.0,
    are.1,
    are.2 ++ item ∷ [],
    ap (λ (l : List Item). l ++ item ∷ []) are.3 ∙ append_assoc are.0 (are.1 ∷ are.2) (item ∷ []),
    are.4,
    are.5,
    one_more_item remembered section are.2 item taken one are.6 is,
  )

  -- what stands in the section around
  abbrev pub AroundIs : List Item → Option (Group S V) → Type 0
  AroundIs before None = Unit {0}
  AroundIs before (Some outer) = AreItemsIn tables outer.section before outer.taken

  pub around_more : (before : List Item) (item : Item) (around : Option (Group S V)) → AroundIs before around
      → AroundIs (before ++ item ∷ []) around
  around_more before item None is = tt
  around_more before item (Some outer) is = items_of_more outer.section before (item ∷ []) outer.taken is

  -- what is open stands in the items before, and the items of which it is asked are these and those that follow
  record AreBefore (all : List Item) (open_ : Open S V) (items : List Item) (before : List Item) : Type 0 where
    pub parts : all ≡ before ++ items
    pub here : AreItemsIn tables open_.section before open_.taken
    pub around : AroundIs before open_.around

  abbrev InGroups : List Item → List (Group S V) → Type 0
  InGroups all groups = All (λ (group : Group S V). AreItemsIn tables group.section all group.taken) groups

  abbrev Rest : List Item → X → Open S V → List Item → Document S V → Type 0
  Rest all across open_ items document =
      (before : List Item) → AreBefore all open_ items before → InGroups all document.groups

  -- an item further
  further : (all before : List Item) (item : Item) (items : List Item) → all ≡ before ++ item ∷ items
      → all ≡ (before ++ item ∷ []) ++ items
  further all before item items e = e ∙ sym (append_assoc before (item ∷ []) items)

  -- what stands in the items before stands in all
  in_all : (section : S) (all before items : List Item) (taken : List (Taken V)) → all ≡ before ++ items
      → AreItemsIn tables section before taken → AreItemsIn tables section all taken
  in_all section all before items taken parts are =
      subst (λ (l : List Item). AreItemsIn tables section l taken) (sym parts)
      (items_of_more section before items taken are)

  -- a section in front of others, and one alone
  in_front : (all : List Item) (section : S) (taken : List (Taken V)) (groups : List (Group S V))
      → AreItemsIn tables section all taken → InGroups all groups → InGroups all (group section taken ∷ groups)
  in_front all section taken groups are others =
      All-cons (λ (group : Group S V). AreItemsIn tables group.section all group.taken) (group section taken) groups are
      others

  in_alone : (all : List Item) (section : S) (taken : List (Taken V)) → AreItemsIn tables section all taken
      → InGroups all (group section taken ∷ [])
  in_alone all section taken are =
      in_front all section taken [] are
      (All-nil (λ (group : Group S V). AreItemsIn tables group.section all group.taken))

  -- an item that begins a section
  pub first_here : (remembered : X) (section : S) (before : List Item) (item : Item) (one : Taken V)
      → IsItemIn tables remembered section item one → AreItemsIn tables section (before ++ item ∷ []) (one ∷ [])
  first_here remembered section before item one is = one_more_item remembered section before item [] one tt is

  items_stand : (length : ℕ) (fault : Option DocFault) (all : List Item) → Rules tables length fault (Rest all)
  items_stand length fault all = record {
    closes = λ across section taken around missing no_fault before are.
        in_alone all section taken (in_all section all before [] taken are.parts are.here);
    passes = λ across open_ item items document may rest before are. rest (before ++ item ∷ []) (record {
      parts = further all before item items are.parts;
      here = items_of_more open_.section before (item ∷ []) open_.taken are.here;
      around = around_more before item open_.around are.around;
    });
    starts = λ across next item items document one may note rest before are. rest (before ++ item ∷ []) (record {
      parts = further all before item items are.parts;
      here = first_here across tables.first before item one (inl may.accepted.taken);
      around = tt;
    });
    adds = λ across next section first taken around item items document one may note rest before are.
        rest (before ++ item ∷ []) (record {
          parts = further all before item items are.parts;
          here = one_more_item across section before item (first ∷ taken) one are.here (inl may.accepted.taken);
          around = around_more before item around are.around;
        });
    opens = λ across next section first taken around other item items document one may note rest before are.
        in_front all section (first ∷ taken) document.groups
        (in_all section all before (item ∷ items) (first ∷ taken) are.parts are.here)
        (rest (before ++ item ∷ []) (record {
          parts = further all before item items are.parts;
          here = first_here across other before item one (inl may.accepted.taken);
          around = around_more before item around are.around;
        }));
    enters = λ across next section first taken around inside item items document one may note rest before are.
        rest (before ++ item ∷ []) (record {
          parts = further all before item items are.parts;
          here = first_here across inside before item one
              (inr (record { around = section; begins = may.begins; taken = may.added.accepted.taken }));
          around = one_more_item across section before item (first ∷ taken) one are.here (inl may.added.accepted.taken);
        });
    leaves = λ across next section first taken outer item items document one may note rest before are.
        in_front all section (first ∷ (taken ++ one ∷ [])) document.groups
        (in_all section all (before ++ item ∷ []) items (first ∷ (taken ++ one ∷ []))
        (further all before item items are.parts)
        (one_more_item across section before item (first ∷ taken) one are.here (inl may.accepted.taken)))
        (rest (before ++ item ∷ []) (record {
          parts = further all before item items are.parts;
          here = items_of_more outer.section before (item ∷ []) outer.taken are.around;
          around = tt;
        }));
    ends = λ across next section first taken item items one may note before are.
        in_alone all section (first ∷ (taken ++ one ∷ []))
        (in_all section all (before ++ item ∷ []) items (first ∷ (taken ++ one ∷ []))
        (further all before item items are.parts)
        (one_more_item across section before item (first ∷ taken) one are.here (inl may.accepted.taken)));
    stops = λ across section first taken around item items may before are.
        in_alone all section (first ∷ taken)
        (in_all section all before (item ∷ items) (first ∷ taken) are.parts are.here);
  }

  pub are_said : ItemsAreSaid tables
  are_said length contents document e =
      holds tables length (Rest contents.items) contents (items_stand length contents.fault contents.items) document e []
      (record { parts = refl; here = tt; around = tt })
