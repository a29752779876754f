-- A reader's place in bytes that may go on.
use Rattle.std.specs.Prelude.{◌≡◌, ℕ, ◌-◌, ◌≤◌, ◌⊎◌, Bool, List, ◌++◌, length, drop, IsTrue}
use Rattle.item_terms.specs.Items.{Open, nothing}
use Rattle.dirdoc_grammar.specs.declared.{cursor.Cursor.Cursor, front.Phase.TheVariants.{Between, Object}}
use Rattle.dirdoc_grammar.specs.{declared.take.Take.TheVariants.NotYet, Feeding.{Fed, Takes}, Reading.first_line_len}
use Rattle.dirdoc_grammar.specs.Reading.{from_place, IsCut, Stands}

-- between these places no NL stands
abbrev pub NoNl : List ℕ → ℕ → ℕ → Type 0
NoNl bytes line scanned = scanned - line ≤ first_line_len (drop line bytes)

-- the bytes end before the line at a place, or within it
abbrev pub IsOver : ℕ → ℕ → Open → List ℕ → Type 0
IsOver limit line open_ bytes = (line ≡ length bytes) ⊎ IsCut limit line open_ bytes

-- what is read so far of an object goes on to a later line
abbrev pub Past : ℕ → ℕ → List ℕ → ℕ → ℕ → Type 0
Past limit begin bytes line later = (place : ℕ) (so_far : Open) → Stands limit place so_far bytes line (Object begin) → Stands limit place so_far bytes later (Object begin)

-- what a reader knows of the bytes, however they go on
pub record IsAt (bytes : List ℕ) (cursor : Cursor) : Type 0 where
  pub item : (more : List ℕ) → from_place cursor.limit cursor.place nothing (bytes ++ more) ≡ from_place cursor.limit cursor.stop.item nothing (bytes ++ more)
  pub stands : Stands cursor.limit cursor.place nothing bytes cursor.stop.line cursor.stop.phase
  pub taken : cursor.place ≤ cursor.stop.item
  pub order : cursor.stop.item ≤ cursor.stop.line
  pub later : cursor.stop.line ≤ cursor.scanned
  pub within : cursor.scanned ≤ length bytes
  pub no_nl : NoNl bytes cursor.stop.line cursor.scanned

-- behind an item that ends at this place
abbrev pub behind : ℕ → ℕ → Cursor
behind limit place = record { limit = limit; place = place; stop = record { item = place; line = place; phase = Between }; scanned = place }

-- what is left of the bytes
abbrev pub fed_by : Cursor → List ℕ → Bool → Fed
fed_by cursor bytes finished = record { limit = cursor.limit; place = cursor.place; rest = drop cursor.place bytes; finished = finished }

-- where a reader is marked as waiting, what comes next of the bytes is not known
abbrev pub WaitsIf : Bool → Cursor → List ℕ → Bool → Type 0
WaitsIf waits cursor bytes finished =
    IsTrue waits → Takes (fed_by cursor bytes finished) NotYet (fed_by cursor bytes finished)
