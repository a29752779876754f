-- The rest of a document from a section that is open on, in the standard's words.
use Rattle.std.proofs.Common.{◌≡◌, ℕ, List, [], ◌∷◌, ◌++◌, Option, Some, None, sym, ap, subst}
use Rattle.std.specs.List.{AllByRecursion}
use Rattle.item_terms.specs.{declared.fault.DocFault.DocFault, Items.Item}
use Rattle.frame_terms.specs.declared.{document.{Group.Group, Taken.Taken}, keyword.Keyword.Keyword}
use Rattle.frame_terms.specs.{Documents.{Document, group}, Tables.Tables}
use Rattle.document_laws.specs.{Counts.RowsStand, Order.{Part, items_of, sections_of}, Documents.{AreParts, EndsAt}}
use Rattle.document_laws.{specs.{Documents.EndsSo, Parts.{AreBetween, EndsWithin, HasLast, IsPart}}, proofs.Parts.names}
use Rattle.document_laws.proofs.{Following.ComeBehind, Middles.NoneInside}

module _ {S K V X : Type 0} (tables : Tables S K V X) (length : ℕ) (fault : Option DocFault) where
  -- where a document ends, by the items of the section that is open and the parts behind it
  abbrev pub EndsBehind : S → List Item → List (Part S V) → List Item → ℕ → Type 0
  EndsBehind section items [] left used =
      EndsAt tables length fault section ((tables.shape section).last) items left used
  EndsBehind section items (other ∷ parts) left used = EndsSo tables length fault (other ∷ parts) left used

  -- the rest of a section that stands inside no other, and of its document
  pub record HasTail (Middle : X → List Item → List (Group S V) → List (Taken V) → X → Type 0) (section : S)
      (first : Taken V) (taken : List (Taken V)) (across : X) (items : List Item) (document : Document S V) : Type 0
    where
      pub items_between : List Item
      pub items_last : List Item
      pub parts : List (Part S V)
      pub left : List Item
      pub come : items ≡ (items_between ++ items_last) ++ (items_of parts ++ left)
      pub inside : List (Group S V)
      pub between : List (Taken V)
      pub last : List (Taken V)
      pub before_last : X
      pub next : X
      pub others : Middle across items_between inside between before_last
      pub ends : HasLast tables section ((tables.shape section).last) before_last items_last last next
      pub are : document.groups ≡ inside ++ group section (first ∷ (taken ++ (between ++ last))) ∷ sections_of parts
      pub counts : RowsStand tables section (first ∷ (taken ++ (between ++ last)))
      pub each : AreParts tables next parts
      pub behind : ComeBehind tables section (names parts)
      pub stops : EndsBehind section (items_between ++ items_last) parts left document.used

  -- the rest of a section inside another
  pub record HasInnerTail (section : S) (first : Taken V) (taken : List (Taken V)) (around : S) (first_around : Taken V)
      (taken_around : List (Taken V)) (across : X) (items : List Item) (document : Document S V) : Type 0 where
    pub items_between : List Item
    pub items_last : List Item
    pub more : List Item
    pub come : items ≡ (items_between ++ items_last) ++ more
    pub between : List (Taken V)
    pub last : List (Taken V)
    pub before_last : X
    pub next : X
    pub others : AreBetween tables section across items_between between before_last
    pub ends : HasLast tables section ((tables.shape section).last) before_last items_last last next
    pub near : AllByRecursion (λ (item : Item). EndsWithin ((tables.shape section).limit) first.place item)
        (items_between ++ items_last)
    pub groups : List (Group S V)
    pub are : document.groups ≡ group section (first ∷ (taken ++ (between ++ last))) ∷ groups
    pub counts : RowsStand tables section (first ∷ (taken ++ (between ++ last)))
    pub tail : HasTail (NoneInside tables around) around first_around taken_around next more
        (record { groups = groups; used = document.used })

  -- a section from its first item on, and the rest of its document
  pub record HasAll (section : S) (across : X) (items : List Item) (document : Document S V) : Type 0 where
    pub part : Part S V
    pub parts : List (Part S V)
    pub left : List Item
    pub next : X
    pub named : part.whole.section ≡ section
    pub come : items ≡ items_of (part ∷ parts) ++ left
    pub are : document.groups ≡ sections_of (part ∷ parts)
    pub is : IsPart tables across part next
    pub each : AreParts tables next parts
    pub behind : ComeBehind tables section (names parts)
    pub stops : EndsSo tables length fault (part ∷ parts) left document.used

  -- ---- the end

  -- what ends with the last of some items ends with the last of more
  ends_at_more : (section : S) (last : Option Keyword) (item : Item) (items left : List Item) (used : ℕ)
      → EndsAt tables length fault section last items left used
      → EndsAt tables length fault section last (item ∷ items) left used
  ends_at_more section None item items left used ends = ends
  ends_at_more section (Some last) item items left used ends = record {
    before = item ∷ ends.before;
    last = ends.last;
    parts = ap (λ (l : List Item). item ∷ l) ends.parts;
    ends = ends.ends;
  }

  pub ends_more : (section : S) (item : Item) (items : List Item) (parts : List (Part S V)) (left : List Item) (used : ℕ)
      → EndsBehind section items parts left used → EndsBehind section (item ∷ items) parts left used
  ends_more section item items [] left used ends =
      ends_at_more section ((tables.shape section).last) item items left used ends
  ends_more section item items (other ∷ parts) left used ends = ends

  pub ends_front : (section : S) (front items : List Item) (parts : List (Part S V)) (left : List Item) (used : ℕ)
      → EndsBehind section items parts left used → EndsBehind section (front ++ items) parts left used
  ends_front section [] items parts left used ends = ends
  ends_front section (item ∷ front) items parts left used ends =
      ends_more section item (front ++ items) parts left used (ends_front section front items parts left used ends)

  -- the same of a part with its items
  pub ends_so : (part : Part S V) (section : S) (items : List Item) (parts : List (Part S V)) (left : List Item) (used : ℕ)
      → part.whole.section ≡ section → part.items ≡ items → EndsBehind section items parts left used
      → EndsSo tables length fault (part ∷ parts) left used
  ends_so part section items [] left used named are ends =
      subst (λ (l : List Item).
      EndsAt tables length fault part.whole.section ((tables.shape part.whole.section).last) l left used) (sym are)
      (subst (λ (s : S). EndsAt tables length fault s ((tables.shape s).last) items left used) (sym named) ends)
  ends_so part section items (other ∷ parts) left used named are ends = ends
