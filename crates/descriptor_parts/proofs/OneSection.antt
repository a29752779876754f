-- A descriptor's document is the items of one section, up to its last.
use Rattle.std.proofs.Common.{◌≡◌, ℕ, true, false, List, [], ◌∷◌, ◌++◌, Ok, refl, sym, ap, ◌∙◌, inl, inr, append-nil}
use Rattle.std.{proofs.{Common.append_assoc, lemmas.Option.none-some}, specs.Prelude.{◌⊎◌, map, replicate}}
use Rattle.item_terms.specs.Items.{Contents, Item}
use Rattle.frame_terms.specs.{declared.document.{Group.Group, Taken.Taken}, Documents.{Document, document_of, group}}
use Rattle.frame_terms.specs.{Keywords.same, Order.opener}
use Rattle.frame_terms.specs.declared.keyword.Keyword.TheVariants as the
use Rattle.frame_values.specs.declared.values.Value.{Value}
use Rattle.document_laws.specs.{Counts.RowsStand, Items.IsItemOf, Order.{AreInOrder, Part, sections_of}}
use Rattle.document_laws.specs.{Passing.{EndsWith, IsPassedIn}, Documents.{AreParts, EndsSo}, Parts.AreBetween}
use Rattle.document_laws.specs.Parts.{AreOthers, IsPart}
use Rattle.document_laws.specs.Order as order
use Rattle.descriptor_frame.specs.{Tables.descriptor_tables, declared.said.DescriptorValue.DescriptorValue}
use Rattle.descriptor_parts.proofs.ClearKinds.{kinds_are_exact}

abbrev V : Type 0
V = Value DescriptorValue

abbrev X : Type 0
X = Unit {0}

abbrev P : Type 0
P = Part (Unit {0}) V

-- the document of one section
abbrev D : Type 0
D = Document (Unit {0}) V

-- an item of the section that is not ignored, and that may stand behind those before it
pub record IsRegarded (across : X) (item : Item) (one : Taken V) (next : X) : Type 0 where
  pub said : IsItemOf descriptor_tables across tt item one
  pub regarded : descriptor_tables.ignores said.row.kind item ≡ false
  pub note : descriptor_tables.note across one ≡ Ok next

-- items in any order, of which those taken are not the last of the section, and the others are passed over
abbrev pub AreInside : X → List Item → List (Taken V) → X → Type 0
AreInside across [] taken after = (taken ≡ []) × (across ≡ after)
AreInside across (item ∷ items) taken after =
    (IsPassedIn descriptor_tables tt item × AreInside across items taken after)
    ⊎ ((one : Taken V) × (rest : List (Taken V)) × (next : X) × (taken ≡ one ∷ rest)
    × IsRegarded across item one next × (same the.RouterSignature one.keyword ≡ false)
    × AreInside next items rest after)

-- The items of a descriptor: its opener; others, in any order; and its last item. Each row's stand as often as it asks.
pub record IsOneSection (items : List Item) (taken : List (Taken V)) (used : ℕ) : Type 0 where
  pub first_item : Item
  pub items_between : List Item
  pub last_item : Item
  pub left : List Item
  pub come : items ≡ first_item ∷ (items_between ++ last_item ∷ left)
  pub first_one : Taken V
  pub between : List (Taken V)
  pub last_one : Taken V
  pub are : taken ≡ first_one ∷ (between ++ last_one ∷ [])
  pub with_first : X
  pub before_last : X
  pub with_last : X
  pub opens : IsItemOf descriptor_tables descriptor_tables.start tt first_item first_one
  pub opens_note : descriptor_tables.note descriptor_tables.start first_one ≡ Ok with_first
  pub opener_first : same (opener descriptor_tables tt) first_one.keyword ≡ true
  pub inside : AreInside with_first items_between between before_last
  pub ends : IsRegarded before_last last_item last_one with_last
  pub last_last : same the.RouterSignature last_one.keyword ≡ true
  pub counts : RowsStand descriptor_tables tt taken
  pub used_is : used ≡ last_item.after

-- ---- the last of some items

last_or : Item → List Item → Item
last_or item [] = item
last_or item (next ∷ items) = last_or next items

last_behind : (item : Item) (before : List Item) (last : Item) → last_or item (before ++ last ∷ []) ≡ last
unfolding last_or
last_behind item [] last = refl
last_behind item (next ∷ before) last = last_behind next before last

-- ---- a document that is read is such items

to_inside : (across : X) (items : List Item) (taken : List (Taken V)) (next : X)
    → AreBetween descriptor_tables tt across items taken next → AreInside across items taken next
to_inside across [] taken next is = is
to_inside across (item ∷ items) taken next (inl (passed, is)) = inl (passed, to_inside across items taken next is)
to_inside across (item ∷ items) taken next (inr (one, rest, then_, are, ordinary, is)) =
    let stands = ordinary.stands in
    inr (
      one,
      rest,
      then_,
      are,
      record { said = stands.said; regarded = stands.regarded; note = stands.note },
      ordinary.goes_on,
      to_inside then_ items rest next is,
    )

-- what is read of some items
abbrev pub AreAll : List Item → D → Type 0
AreAll items document =
    (taken : List (Taken V)) × (used : ℕ) × (document ≡ record { groups = group tt taken ∷ []; used = used })
    × IsOneSection items taken used

module _ (items : List Item) (document : D) where
  by_others : (part : P) (next : X) (is : IsPart descriptor_tables descriptor_tables.start part next)
      → AreOthers descriptor_tables tt is.with_first is.items_between part.inside is.between is.before_last
      → (left : List Item) → items ≡ part.items ++ left → document.groups ≡ part.inside ++ part.whole ∷ []
      → EndsWith part.items document.used → AreAll items document
  by_others part next is (inl (none, between)) left come are end_is =
      let last_item = is.ends.0 in
      let last_one = is.ends.1 in
      let stands = is.ends.4 in
      let items_are : part.items ≡ is.first_item ∷ (is.items_between ++ last_item ∷ []) =
      is.come ∙ ap (λ (l : List Item). is.first_item ∷ (is.items_between ++ l)) is.ends.2 in
      let last_is : end_is.last ≡ last_item =
      sym (last_behind is.first_item end_is.before end_is.last)
      ∙ ap (λ (l : List Item). last_or is.first_item l) (sym end_is.parts ∙ items_are)
      ∙ last_behind is.first_item (is.first_item ∷ is.items_between) last_item in
      let groups_are : document.groups ≡ part.whole ∷ [] =
      are ∙ ap (λ (l : List (Group (Unit {0}) V)). l ++ part.whole ∷ []) none in (
        part.whole.taken,
        document.used,
        ap (λ (l : List (Group (Unit {0}) V)). the_document l) groups_are,
        record {
          first_item = is.first_item;
          items_between = is.items_between;
          last_item = last_item;
          left = left;
          come = come ∙ ap (λ (l : List Item). l ++ left) items_are
              ∙ ap (λ (l : List Item). is.first_item ∷ l) (append_assoc is.items_between (last_item ∷ []) left);
          first_one = is.first_one;
          between = is.between;
          last_one = last_one;
          are = is.are ∙ ap (λ (l : List (Taken V)). is.first_one ∷ (is.between ++ l)) is.ends.3;
          with_first = is.with_first;
          before_last = is.before_last;
          with_last = next;
          opens = is.begins.said;
          opens_note = is.begins.note;
          opener_first = is.opens;
          inside = to_inside is.with_first is.items_between is.between is.before_last between;
          ends = record { said = stands.said; regarded = stands.regarded; note = stands.note };
          last_last = is.ends.5;
          counts = is.counts;
          used_is = end_is.ends ∙ ap (λ (i : Item). i.after) last_is;
        },
      )
    where
      the_document : List (Group (Unit {0}) V) → D
      the_document groups = record { groups = groups; used = document.used }
  by_others part next is (inr have) left come are end_is = absurd (none-some have.whole.section have.is.opens)

  by_parts : (length_ : ℕ) (contents : Contents) (parts : List P) (left : List Item)
      → items ≡ order.items_of parts ++ left → document.groups ≡ sections_of parts
      → AreInOrder descriptor_tables descriptor_tables.sections (map (λ (part : P). part.whole.section) parts)
      → AreParts descriptor_tables descriptor_tables.start parts
      → EndsSo descriptor_tables length_ contents.fault parts left document.used → AreAll items document
  by_parts length_ contents [] left come are in_order each ends = absurd ends
  by_parts length_ contents (part ∷ []) left come are in_order (next, is, each) ends =
      by_others part next is is.others left (come ∙ ap (λ (l : List Item). l ++ left) (append-nil part.items)) are ends
  by_parts length_ contents (part ∷ other ∷ parts) left come are (number, others, stand, one, none) each ends =
      absurd (cc (stand
      ∙ ap (λ (n : ℕ). replicate n tt ++ others) one ∙ ap (λ (l : List (Unit {0})). tt ∷ l) none))

pub one_section_is_all : (length_ : ℕ) (contents : Contents) (document : D)
    → document_of descriptor_tables length_ contents ≡ Ok document → AreAll contents.items document
one_section_is_all length_ contents document read =
    let is = (kinds_are_exact.descriptors length_ contents document).0 read in
    by_parts contents.items document length_ contents is.parts is.left is.come is.are is.in_order is.each is.ends
