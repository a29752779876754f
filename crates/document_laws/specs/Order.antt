-- The order of the sections (dir-spec, "Document meta-format").
use Rattle.std.specs.Prelude.{◌≡◌, true, ◌++◌, ℕ, List, [], ◌∷◌, All, map, replicate, Some, Ok}
use Rattle.item_terms.specs.Items.{Contents, Item}
use Rattle.frame_terms.specs.declared.{document.{Group.Group, Taken.Taken}, section.Again.{Again, TheVariants.Nothing}}
use Rattle.frame_terms.specs.declared.section.Again.TheVariants.{Section, Document as NextDocument}
use Rattle.frame_terms.specs.{Documents.{Document, document_of}, Keywords.same, Order.opener, Tables.Tables}
use Rattle.document_laws.specs.{Items.AreItemsIn, Sound.AreSound}

-- a section that stands inside no other, those inside it, which end before it, and the items of the input that they have
pub record Part (S V : Type 0) : Type 0 where
  pub items : List Item
  pub inside : List (Group S V)
  pub whole : Group S V

-- so many sections of a name may stand
abbrev pub MayStand : Again → ℕ → Type 0
MayStand Nothing number = number ≡ 1
MayStand Section number = Unit {0}
MayStand NextDocument number = number ≡ 1

module _ {S V : Type 0} where
  -- the sections of parts, one part behind the other
  abbrev pub sections_of : List (Part S V) → List (Group S V)
  sections_of [] = []
  sections_of (part ∷ parts) = part.inside ++ part.whole ∷ sections_of parts

  -- the items of parts, one part behind the other
  abbrev pub items_of : List (Part S V) → List Item
  items_of [] = []
  items_of (part ∷ parts) = part.items ++ items_of parts

module _ {S K V X : Type 0} where
  -- the first item of a section is its opener
  abbrev pub BeginsWithOpener : Tables S K V X → S → List (Taken V) → Type 0
  BeginsWithOpener tables section [] = ⊥
  BeginsWithOpener tables section (first ∷ taken) = same (opener tables section) first.keyword ≡ true

  -- what stands inside a section is what its table has inside it
  abbrev pub HasInside : Tables S K V X → Part S V → Type 0
  HasInside tables part = All (λ group. (tables.shape part.whole.section).inner ≡ Some group.section) part.inside

  -- each item of a part's sections is one of the part's items, in their order
  abbrev pub HasItems : Tables S K V X → Part S V → Type 0
  HasItems tables part =
      AreItemsIn tables part.whole.section part.items part.whole.taken
      × All (λ group. AreItemsIn tables group.section part.items group.taken) part.inside

  -- these sections are those of a table, in its order: each stands once, one that repeats any number of times, and none
  abbrev pub AreInOrder : Tables S K V X → List S → List S → Type 0
  AreInOrder tables [] standing = standing ≡ []
  AreInOrder tables (section ∷ table) standing =
      (number : ℕ) × (others : List S) × (standing ≡ replicate number section ++ others)
      × MayStand ((tables.shape section).again) number × AreInOrder tables table others

-- A document is parts, in the order of its table. The items of the input come one part behind the other, and then those
-- that are left. Each section begins with its opener.
pub record IsInOrder {S K V X : Type 0} (tables : Tables S K V X) (items : List Item) (groups : List (Group S V))
    : Type 0 where
  pub parts : List (Part S V)
  pub left : List Item
  pub come : items ≡ items_of parts ++ left
  pub stand : All (HasItems tables) parts
  pub are : groups ≡ sections_of parts
  pub in_order : AreInOrder tables tables.sections (map (λ part. part.whole.section) parts)
  pub inside : All (HasInside tables) parts
  pub begin : All (λ group. BeginsWithOpener tables group.section group.taken) groups

module _ {S K V X : Type 0} where
  -- The sections of a document come in the input in the order of its table, by which some repeat any number of times,
  -- each with those inside it that the table has there. Each begins with its opener.
  abbrev pub SectionsStandInOrder : Tables S K V X → Type 0
  SectionsStandInOrder tables =
      AreSound tables
      → (length : ℕ) (contents : Contents) (document : Document S V) → document_of tables length contents ≡ Ok document
      → IsInOrder tables contents.items document.groups
