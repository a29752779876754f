-- Where the first fault of a document stands: within its bytes (dir-spec, "Document meta-format").
use Rattle.std.specs.Prelude.{◌≡◌, ℕ, ◌≤◌, List, length, Result, Ok, Err}
use Rattle.item_terms.specs.Items.{Item, items_of}
use Rattle.dirdoc_grammar.specs.InPlace.{InPlace}
use Rattle.frame_terms.specs.declared.fault.{FrameFault.FrameFault, ReadRefusal.TheVariants.Frame}
use Rattle.frame_terms.specs.{declared.keyword.Keyword.Keyword, Documents.document_of, Sections.taken_of, Tables.Tables}

-- the fault, if there is one, stands within so many bytes
abbrev pub FaultIn : {A : Type 0} → ℕ → Result A FrameFault → Type 0
FaultIn n (Ok value) = Unit {0}
FaultIn n (Err fault) = fault.place ≤ n

module _ {S K V X : Type 0} where
  -- What is wrong with an item that stands in some bytes stands within them, and so does why what it says may not stand
  -- behind the items before it.
  pub record FaultsStandIn (tables : Tables S K V X) : Type 0 where
    pub said : (bytes : List ℕ) (across : X) (kind : K) (item : Item) → InPlace bytes item
        → FaultIn (length bytes) (tables.value_of across kind item)
    pub noted : (bytes : List ℕ) (across : X) (kind : K) (keyword : Keyword) (item : Item) (value : V) → InPlace bytes item
        → tables.value_of across kind item ≡ Ok value
        → FaultIn (length bytes) (tables.note across (taken_of keyword item value))

  -- The first fault of a document of these tables stands within its bytes.
  abbrev pub HasFaultsWithin : Tables S K V X → Type 0
  HasFaultsWithin tables = (limit : ℕ) (bytes : List ℕ) (fault : FrameFault)
      → document_of tables (length bytes) (items_of limit bytes) ≡ Err (Frame fault) → fault.place ≤ length bytes

  -- It does, where what is wrong with an item does.
  abbrev pub FirstFaultsStandWithin : Tables S K V X → Type 0
  FirstFaultsStandWithin tables = FaultsStandIn tables → HasFaultsWithin tables
