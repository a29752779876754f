-- The ways in which an item may stand in a document: what it may make, and why.
use Rattle.std.{proofs.Common.{◌≡◌, true, false, List, [], Some, None}, specs.Prelude.{◌⊎◌, not, ◌&&◌}}
use Rattle.item_terms.specs.Items.{Item}
use Rattle.frame_terms.specs.declared.document.{Group.Group, Made.{Made, TheVariants.{Passes, Pushes, Opens, Enters}}}
use Rattle.frame_terms.specs.declared.document.{Made.TheVariants.{Leaves, Ends, Stops}, Open.Open, Taken.Taken}
use Rattle.frame_terms.specs.{declared.keyword.Keyword.Keyword, Keywords.same, Order.{following_sections, inner}}
use Rattle.frame_terms.specs.{Order.{is_keyword, opened_by, opener, passed_over}, Rows.is_many}
use Rattle.frame_terms.specs.{Sections.{lacking_keyword, lacking_but, row_of, stands}, Tables.Tables}
use Rattle.frame_terms.specs.declared.section.Again.TheVariants as again
use Rattle.document_laws.specs.{Items.IsItemOf, Passing.IsPassedIn}

-- an item that its section takes behind these
pub record IsAccepted {S K V X : Type 0} (tables : Tables S K V X) (across : X) (section : S) (before : List (Taken V))
    (item : Item) (one : Taken V) : Type 0 where
  pub taken : IsItemOf tables across section item one
  pub once : (not (is_many taken.row.count) && stands taken.row.keyword before) ≡ false

-- the first item of a document
pub record IsBeginning {S K V X : Type 0} (tables : Tables S K V X) (across : X) (item : Item) (one : Taken V) : Type 0
  where
    pub accepted : IsAccepted tables across tables.first [] item one
    pub opens : same (opener tables tables.first) one.keyword ≡ true

-- one more item of the section that is open, which does not end it
pub record IsAdded {S K V X : Type 0} (tables : Tables S K V X) (across : X) (section : S) (before : List (Taken V))
    (item : Item) (one : Taken V) : Type 0 where
  pub accepted : IsAccepted tables across section before item one
  pub goes_on : is_keyword ((tables.shape section).last) one.keyword ≡ false
  pub regarded : tables.ignores accepted.taken.row.kind item ≡ false

-- its last item, with which all of its rows stand
pub record IsEnding {S K V X : Type 0} (tables : Tables S K V X) (across : X) (section : S) (before : List (Taken V))
    (item : Item) (one : Taken V) : Type 0 where
  pub accepted : IsAccepted tables across section before item one
  pub ends : is_keyword ((tables.shape section).last) one.keyword ≡ true
  pub whole : lacking_but (tables.rows section) one.keyword before ≡ None
  pub regarded : tables.ignores accepted.taken.row.kind item ≡ false

-- the section that a keyword opens behind another, so that none is left out that has to stand
pub record IsLater {S K V X : Type 0} (tables : Tables S K V X) (section next : S) : Type 0 where
  pub keyword : Keyword
  pub opened : opened_by tables keyword (following_sections tables section) ≡ Some next
  pub passes_none : passed_over tables keyword (following_sections tables section) ≡ None

-- the same section once more
pub record IsAgain {S K V X : Type 0} (tables : Tables S K V X) (section next : S) : Type 0 where
  pub same_name : next ≡ section
  pub repeats : (tables.shape section).again ≡ again.Section

-- the first item of the next section, where all rows of the one that is open stand
pub record IsOpening {S K V X : Type 0} (tables : Tables S K V X) (across : X) (section : S) (before : List (Taken V))
    (next : S) (item : Item) (one : Taken V) : Type 0 where
  pub whole : lacking_keyword (tables.rows section) before ≡ None
  pub accepted : IsAccepted tables across next [] item one
  pub opens : same (opener tables next) one.keyword ≡ true
  pub follows : IsLater tables section next ⊎ IsAgain tables section next

-- the first item of a section inside the one that is open
pub record IsEntering {S K V X : Type 0} (tables : Tables S K V X) (across : X) (section : S) (before : List (Taken V))
    (inside : S) (item : Item) (one : Taken V) : Type 0 where
  pub added : IsAdded tables across section before item one
  pub begins : inner tables section one.keyword ≡ Some inside

-- the next document begins, where all rows of the section that is open stand
pub record IsStopping {S K V X : Type 0} (tables : Tables S K V X) (section : S) (before : List (Taken V)) : Type 0
  where
    pub whole : lacking_keyword (tables.rows section) before ≡ None
    pub stops : (tables.shape section).again ≡ again.Document

-- a section whose opener has no row there
pub record LacksOpener {S K V X : Type 0} (tables : Tables S K V X) : Type 0 where
  pub section : S
  pub has_none : row_of (tables.rows section) (opener tables section) ≡ None

module _ {S K V X : Type 0} where
  -- what the first item of a document may make
  abbrev pub FirstMay : Tables S K V X → X → Item → Made S V → Type 0
  FirstMay tables across item Passes = LacksOpener tables
  FirstMay tables across item (Pushes one) = IsBeginning tables across item one
  FirstMay tables across item (Opens next one) = ⊥
  FirstMay tables across item (Enters inside one) = ⊥
  FirstMay tables across item (Leaves one) = ⊥
  FirstMay tables across item (Ends one) = ⊥
  FirstMay tables across item Stops = ⊥

  -- what a later one may make
  abbrev pub LaterMay : Tables S K V X → X → Open S V → Item → Made S V → Type 0
  LaterMay tables across open_ item Passes = IsPassedIn tables open_.section item ⊎ LacksOpener tables
  LaterMay tables across open_ item (Pushes one) = IsAdded tables across open_.section open_.taken item one
  LaterMay tables across open_ item (Opens next one) = IsOpening tables across open_.section open_.taken next item one
  LaterMay tables across open_ item (Enters inside one) =
      IsEntering tables across open_.section open_.taken inside item one
  LaterMay tables across open_ item (Leaves one) =
      IsEnding tables across open_.section open_.taken item one
      × ((group : Group S V) × (open_.around ≡ Some group))
  LaterMay tables across open_ item (Ends one) =
      IsEnding tables across open_.section open_.taken item one × (open_.around ≡ None)
  LaterMay tables across open_ item Stops = IsStopping tables open_.section open_.taken
