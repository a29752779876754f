-- What stands in the middle of a section, between its first item and its last.
use Rattle.std.proofs.Common.{◌≡◌, List, [], ◌∷◌, refl, ap, inl, inr}
use Rattle.item_terms.specs.Items.{Item}
use Rattle.frame_terms.specs.{declared.document.{Group.Group, Taken.Taken}, Tables.Tables}
use Rattle.document_laws.specs.{Passing.IsPassedIn, Parts.{AreBetween, AreOthers, HaveInside, IsOrdinary}}

module _ {S K V X : Type 0} (tables : Tables S K V X) where
  -- no section inside this one is still to come
  abbrev pub NoneInside : S → X → List Item → List (Group S V) → List (Taken V) → X → Type 0
  NoneInside section remembered items inside taken next =
      (inside ≡ []) × AreBetween tables section remembered items taken next

  -- items that are passed over and ordinary ones come in front of others, and there may be none
  pub record Extends (section : S) (Middle : X → List Item → List (Group S V) → List (Taken V) → X → Type 0) : Type 0
    where
      pub none : (remembered : X) → Middle remembered [] [] [] remembered
      pub passes : (remembered : X) (item : Item) (items : List Item) (inside : List (Group S V))
          (taken : List (Taken V)) (next : X) → IsPassedIn tables section item
          → Middle remembered items inside taken next → Middle remembered (item ∷ items) inside taken next
      pub adds : (remembered then_ : X) (item : Item) (one : Taken V) (items : List Item) (inside : List (Group S V))
          (taken : List (Taken V)) (next : X) → IsOrdinary tables remembered section item one then_
          → Middle then_ items inside taken next → Middle remembered (item ∷ items) inside (one ∷ taken) next

  pub none_extends : (section : S) → Extends section (NoneInside section)
  none_extends section = record {
    none = λ remembered. (refl, (refl, refl));
    passes = λ remembered item items inside taken next is middle. (middle.0, inl (is, middle.1));
    adds = λ remembered then_ item one items inside taken next is middle.
        (middle.0, inr (one, taken, then_, refl, is, middle.1));
  }

  -- with a section inside this one
  inside_passes : (section : S) (remembered : X) (item : Item) (items : List Item) (inside : List (Group S V))
      (taken : List (Taken V)) (next : X) → IsPassedIn tables section item
      → HaveInside tables section remembered items inside taken next
      → HaveInside tables section remembered (item ∷ items) inside taken next
  inside_passes section remembered item items inside taken next is has = record {
    items_before = item ∷ has.items_before;
    items_inside = has.items_inside;
    items_behind = has.items_behind;
    come = ap (λ (l : List Item). item ∷ l) has.come;
    before = has.before;
    one = has.one;
    behind = has.behind;
    are = has.are;
    whole = has.whole;
    only = has.only;
    when_begun = has.when_begun;
    when_left = has.when_left;
    first = inl (is, has.first);
    is = has.is;
    others = has.others;
  }

  inside_adds : (section : S) (remembered then_ : X) (item : Item) (one : Taken V) (items : List Item)
      (inside : List (Group S V)) (taken : List (Taken V)) (next : X)
      → IsOrdinary tables remembered section item one then_ → HaveInside tables section then_ items inside taken next
      → HaveInside tables section remembered (item ∷ items) inside (one ∷ taken) next
  inside_adds section remembered then_ item one items inside taken next is has = record {
    items_before = item ∷ has.items_before;
    items_inside = has.items_inside;
    items_behind = has.items_behind;
    come = ap (λ (l : List Item). item ∷ l) has.come;
    before = one ∷ has.before;
    one = has.one;
    behind = has.behind;
    are = ap (λ (l : List (Taken V)). one ∷ l) has.are;
    whole = has.whole;
    only = has.only;
    when_begun = has.when_begun;
    when_left = has.when_left;
    first = inr (one, has.before, then_, refl, is, has.first);
    is = has.is;
    others = has.others;
  }

  others_passes : (section : S) (remembered : X) (item : Item) (items : List Item) (inside : List (Group S V))
      (taken : List (Taken V)) (next : X) → IsPassedIn tables section item
      → AreOthers tables section remembered items inside taken next
      → AreOthers tables section remembered (item ∷ items) inside taken next
  others_passes section remembered item items inside taken next is (inl (none, are)) = inl (none, inl (is, are))
  others_passes section remembered item items inside taken next is (inr has) =
      inr (inside_passes section remembered item items inside taken next is has)

  others_adds : (section : S) (remembered then_ : X) (item : Item) (one : Taken V) (items : List Item)
      (inside : List (Group S V)) (taken : List (Taken V)) (next : X)
      → IsOrdinary tables remembered section item one then_ → AreOthers tables section then_ items inside taken next
      → AreOthers tables section remembered (item ∷ items) inside (one ∷ taken) next
  others_adds section remembered then_ item one items inside taken next is (inl (none, are)) =
      inl (none, inr (one, taken, then_, refl, is, are))
  others_adds section remembered then_ item one items inside taken next is (inr has) =
      inr (inside_adds section remembered then_ item one items inside taken next is has)

  pub others_extends : (section : S) → Extends section (AreOthers tables section)
  others_extends section = record {
    none = λ remembered. inl (refl, (refl, refl));
    passes = λ remembered item items inside taken next is middle.
        others_passes section remembered item items inside taken next is middle;
    adds = λ remembered then_ item one items inside taken next is middle.
        others_adds section remembered then_ item one items inside taken next is middle;
  }
