-- What a feeder shows: what comes next of a document whose bytes arrive piece by piece.
use Rattle.std.specs.Prelude.{◌≡◌, ℕ, ◌+◌, ◌-◌, ◌<◌, ◌≤◌, ◌^◌, Bool, IsTrue, List, ◌++◌, length, drop, Option, Some}
use Rattle.std.specs.Prelude.{None, option_to_list}
use Rattle.item_terms.specs.declared.fault.DocFault.{DocFault}
use Rattle.dirdoc_grammar.specs.declared.{cursor.Cursor.Cursor, take.Take.{Take, TheVariants.{Item, NotYet, End}}}
use Rattle.dirdoc_grammar.specs.{declared.take.Take.TheVariants.Fault, Cursors.{IsAt, WaitsIf}, Feeding.{Fed, Takes}}
use Rattle.dirdoc_grammar.specs.Seen.{seen_item}
use Rattle.item_feeder.specs.Moving.{moved_item, moved_fault}

-- a fact about the fault that is given, if one is
abbrev pub IfFault : Take → (DocFault → Type 0) → Type 0
IfFault (Item item) fact = Unit {0}
IfFault (Fault fault) fact = fact fault
IfFault NotYet fact = Unit {0}
IfFault End fact = Unit {0}

-- the same is given, so many places later
abbrev pub Moves : ℕ → Take → Take → Type 0
Moves k (Item one) (Item other) = (seen_item other ≡ moved_item k (seen_item one)) × (other.after ≡ k + one.after)
Moves k (Item one) NotYet = ⊥
Moves k (Item one) End = ⊥
Moves k (Item one) (Fault other) = ⊥
Moves k (Fault one) (Item other) = ⊥
Moves k (Fault one) NotYet = ⊥
Moves k (Fault one) End = ⊥
Moves k (Fault one) (Fault other) = other ≡ moved_fault k one
Moves k NotYet (Item other) = ⊥
Moves k NotYet NotYet = Unit {0}
Moves k NotYet End = ⊥
Moves k NotYet (Fault other) = ⊥
Moves k End (Item other) = ⊥
Moves k End NotYet = ⊥
Moves k End End = Unit {0}
Moves k End (Fault other) = ⊥

-- what is left behind a place
abbrev pub behind_place : Fed → ℕ → Fed
behind_place fed after = record fed { place = after; rest = drop (after - fed.place) fed.rest }

-- what is left behind what comes next
abbrev pub behind_next : Fed → Take → Fed
behind_next fed (Item item) = behind_place fed item.after
behind_next fed (Fault fault) = fed
behind_next fed NotYet = fed
behind_next fed End = fed

-- what comes next
abbrev pub Shows : Fed → Take → Type 0
Shows fed taken = Takes fed taken (behind_next fed taken)

-- what is left of the bytes and of the one beside them
abbrev pub fed_with : Cursor → List ℕ → Option ℕ → Bool → Fed
fed_with cursor bytes beside finished = record {
  limit = cursor.limit;
  place = cursor.place;
  rest = drop cursor.place bytes ++ option_to_list beside;
  finished = finished;
}

-- The bytes that are kept are no more than the document may have. A byte stands beside them only where they are as many.
abbrev pub KeepsWithin : ℕ → List ℕ → Option ℕ → Type 0
KeepsWithin limit bytes None = length bytes ≤ limit
KeepsWithin limit bytes (Some beside) = length bytes ≡ limit

-- What a feeder knows of what it keeps: how far the bytes are read, how many they are, and where it waits for more.
pub record Keeps (bytes : List ℕ) (beside : Option ℕ) (base : ℕ) (cursor : Cursor) (waits finished : Bool) : Type 0 where
  pub reads : IsAt bytes cursor
  pub within : KeepsWithin cursor.limit bytes beside
  pub small : base + cursor.limit < 2 ^ 61
  pub waiting : WaitsIf waits cursor bytes finished
  pub alone : IsTrue waits → beside ≡ None
