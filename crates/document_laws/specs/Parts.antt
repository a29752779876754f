-- The items of a section, of any document (dir-spec, "Document meta-format").
use Rattle.std.specs.Prelude.{◌≡◌, ◌⊎◌, ◌++◌, ◌+◌, ◌≤◌, ℕ, true, false, List, [], ◌∷◌, Option, Some, None, Ok}
use Rattle.std.specs.List.{AllByRecursion}
use Rattle.item_terms.specs.Items.{Item}
use Rattle.frame_terms.specs.declared.{document.{Group.Group, Taken.Taken}, keyword.Keyword.Keyword, row.Limit.Limit}
use Rattle.frame_terms.specs.{Keywords.same, Order.{inner, is_keyword, opener}, Rows.limit_number, Tables.Tables}
use Rattle.document_laws.specs.{Counts.RowsStand, Items.IsItemOf, Order.Part, Passing.IsPassedIn}

-- an item of a row of a section that the tables do not ignore, and that may stand behind those before it
pub record Stands {S K V X : Type 0} (tables : Tables S K V X) (remembered : X) (section : S) (item : Item)
    (one : Taken V) (next : X) : Type 0 where
  pub said : IsItemOf tables remembered section item one
  pub regarded : tables.ignores said.row.kind item ≡ false
  pub note : tables.note remembered one ≡ Ok next

-- one that does not end the section, and begins none inside it
pub record IsOrdinary {S K V X : Type 0} (tables : Tables S K V X) (remembered : X) (section : S) (item : Item)
    (one : Taken V) (next : X) : Type 0 where
  pub stands : Stands tables remembered section item one next
  pub goes_on : is_keyword ((tables.shape section).last) one.keyword ≡ false
  pub begins_none : inner tables section one.keyword ≡ None

-- an item that ends within so many bytes from a place, where they are limited
abbrev pub EndsWithin : Option Limit → ℕ → Item → Type 0
EndsWithin None place item = Unit {0}
EndsWithin (Some limit) place item = item.after ≤ place + limit_number limit

module _ {S K V X : Type 0} where
  -- items in any order, which are ordinary ones of the section or are passed over
  abbrev pub AreBetween : Tables S K V X → S → X → List Item → List (Taken V) → X → Type 0
  AreBetween tables section remembered [] taken next = (taken ≡ []) × (remembered ≡ next)
  AreBetween tables section remembered (item ∷ items) taken next =
      (IsPassedIn tables section item × AreBetween tables section remembered items taken next)
      ⊎ ((one : Taken V) × (rest : List (Taken V)) × (then_ : X) × (taken ≡ one ∷ rest)
      × IsOrdinary tables remembered section item one then_
      × AreBetween tables section then_ items rest next)

  -- the last item of a section, if its table has one
  abbrev pub HasLast : Tables S K V X → S → Option Keyword → X → List Item → List (Taken V) → X → Type 0
  HasLast tables section None remembered items taken next = (items ≡ []) × (taken ≡ []) × (remembered ≡ next)
  HasLast tables section (Some last) remembered items taken next =
      (item : Item) × (one : Taken V) × (items ≡ item ∷ []) × (taken ≡ one ∷ [])
      × Stands tables remembered section item one next × (same last one.keyword ≡ true)

-- A section inside another: an item of both, which is its opener; others; and its last item. Each row's stand as often as
-- it asks, and each ends within the bytes that the section may have.
pub record IsInside {S K V X : Type 0} (tables : Tables S K V X) (remembered : X) (around : S) (items : List Item)
    (one : Taken V) (whole : Group S V) (next : X) : Type 0 where
  pub first_item : Item
  pub items_between : List Item
  pub items_last : List Item
  pub come : items ≡ first_item ∷ (items_between ++ items_last)
  pub between : List (Taken V)
  pub last : List (Taken V)
  pub are : whole.taken ≡ one ∷ (between ++ last)
  pub with_first : X
  pub before_last : X
  pub begins : Stands tables remembered around first_item one with_first
  pub opens : inner tables around one.keyword ≡ Some whole.section
  pub others : AreBetween tables whole.section with_first items_between between before_last
  pub ends : HasLast tables whole.section ((tables.shape whole.section).last) before_last items_last last next
  pub counts : RowsStand tables whole.section whole.taken
  pub within : AllByRecursion
      (λ (item : Item). EndsWithin ((tables.shape whole.section).limit) first_item.place item) items

-- items of a section of which one begins a section inside it
pub record HaveInside {S K V X : Type 0} (tables : Tables S K V X) (section : S) (remembered : X) (items : List Item)
    (inside : List (Group S V)) (taken : List (Taken V)) (next : X) : Type 0 where
  pub items_before : List Item
  pub items_inside : List Item
  pub items_behind : List Item
  pub come : items ≡ items_before ++ (items_inside ++ items_behind)
  pub before : List (Taken V)
  pub one : Taken V
  pub behind : List (Taken V)
  pub are : taken ≡ before ++ one ∷ behind
  pub whole : Group S V
  pub only : inside ≡ whole ∷ []
  pub when_begun : X
  pub when_left : X
  pub first : AreBetween tables section remembered items_before before when_begun
  pub is : IsInside tables when_begun section items_inside one whole when_left
  pub others : AreBetween tables section when_left items_behind behind next

module _ {S K V X : Type 0} where
  -- the items of a section between its first and its last, with at most one section inside it
  abbrev pub AreOthers : Tables S K V X → S → X → List Item → List (Group S V) → List (Taken V) → X → Type 0
  AreOthers tables section remembered items inside taken next =
      ((inside ≡ []) × AreBetween tables section remembered items taken next)
      ⊎ HaveInside tables section remembered items inside taken next

-- The items of a section: its opener; others, in any order, and at most one section inside it; and its last item, if its
-- table has one. Each row's stand as often as it asks.
pub record IsPart {S K V X : Type 0} (tables : Tables S K V X) (remembered : X) (part : Part S V) (next : X) : Type 0
  where
    pub first_item : Item
    pub items_between : List Item
    pub items_last : List Item
    pub come : part.items ≡ first_item ∷ (items_between ++ items_last)
    pub first_one : Taken V
    pub between : List (Taken V)
    pub last : List (Taken V)
    pub are : part.whole.taken ≡ first_one ∷ (between ++ last)
    pub with_first : X
    pub before_last : X
    pub begins : Stands tables remembered part.whole.section first_item first_one with_first
    pub opens : same (opener tables part.whole.section) first_one.keyword ≡ true
    pub others : AreOthers tables part.whole.section with_first items_between part.inside between before_last
    pub ends : HasLast tables part.whole.section ((tables.shape part.whole.section).last) before_last items_last last next
    pub counts : RowsStand tables part.whole.section part.whole.taken
