-- The rule of a lock's table: one list of entries for all passes, and what each step makes of a seat.
use Rattle.std.specs.Prelude.{◌≡◌, ◌⊎◌, ◌<◌, ◌==◌, ◌+◌, ◌-◌, ℕ, zero, suc, Bool, true, false, List, [], ◌∷◌, ◌++◌}
use Rattle.std.specs.{Prelude.{length, slice_index, Option, Some, None, MatchBool, drop}, List.{sum_by, count_by}}
use Rattle.std.specs.List.{AllByRecursion}
use mathlib.Core.Option.{some, none}
use mathlib.Core.List.{IsPrefix}
use lib.ListN.{get_elem?}
use Rattle.atomic_table.specs.{Table.{State, Me, rest}, Seated.TableId}
use Rattle.period_lock.specs.{declared.rule.{View.View, Part.Part}, Turns.{entries, entries_by, entry_by, Knowledge}}

module _ {X : Type 0} where
  -- a pass with this number that has seen nothing
  abbrev pub fresh_part : ℕ → Part X
  fresh_part number = record { number = number; seen = []; mine = [] }

  -- the parts of the passes from a number on
  abbrev pub fresh_parts : ℕ → ℕ → List (Part X)
  fresh_parts from zero = []
  fresh_parts from (suc count) = fresh_part from ∷ fresh_parts (suc from) count

  -- a part with the entry that it adds, if there is one
  abbrev pub grown_part : Option X → Part X → Part X
  grown_part entry part = record part
      { seen = part.seen ++ entry_by part.number entry; mine = part.mine ++ entry_by part.number entry }

  -- the list begins with what the part has seen, and the part's own entries are all that the list has with its number
  pub record IsPartOf (log : List (ℕ × X)) (count : ℕ) (part : Part X) : Type 0 where
    pub number : part.number < count
    pub seen : IsPrefix part.seen log
    pub mine : entries_by part.number log ≡ part.mine

module _ {S X : Type 0} where
  -- a seat that has one part, and has the turn or not
  abbrev pub seated_view : S → Bool → Part X → View S X
  seated_view start holds own = record { start = Some start; holds = holds; own = own; others = [] }

  -- a seat that has several parts, and no turn
  abbrev pub gathered_view : S → Part X → List (Part X) → View S X
  gathered_view start own others = record { start = Some start; holds = false; own = own; others = others }

  -- a seat whose parts another has
  abbrev pub spent : View S X
  spent = record { start = None; holds = false; own = fresh_part 0; others = [] }

  -- the first seat has the parts of all passes; its own is the last
  abbrev pub first_view : S → ℕ → View S X
  first_view start count = gathered_view start (fresh_part (count - 1)) (fresh_parts 0 (count - 1))

  abbrev pub parts_from : Option S → List (Part X) → List (Part X)
  parts_from None parts = []
  parts_from (Some start) parts = parts

  -- the parts of a seat: none where it is spent
  abbrev pub parts_of : View S X → List (Part X)
  parts_of v = parts_from v.start (v.own ∷ v.others)

  -- a seat without the first of the parts that it has beside its own
  abbrev pub without_first : View S X → View S X
  without_first v = record v { others = drop 1 v.others }

  -- a seat that has these parts alone
  abbrev pub alone : Option S → List (Part X) → View S X
  alone start [] = spent
  alone start (part ∷ parts) = record { start = start; holds = false; own = part; others = [] }

  -- a seat that has that first part
  abbrev pub first_of : View S X → View S X
  first_of v = alone v.start v.others

  -- a seat with the parts of another behind its own
  abbrev pub joined_view : View S X → View S X → View S X
  joined_view v w = record v { others = v.others ++ parts_of w }

  -- how many parts of a seat have this number
  abbrev pub times : ℕ → View S X → ℕ
  times number v = count_by (λ part. part.number == number) (parts_of v)

  -- a seat's parts are parts of the list, and a seat that has the turn is one of the start
  pub record Fits (start : S) (log : List (ℕ × X)) (count : ℕ) (v : View S X) : Type 0 where
    pub start_is : (s : S) → v.start ≡ Some s → s ≡ start
    pub parts : AllByRecursion (IsPartOf log count) (parts_of v)
    pub live : v.holds ≡ true → v.start ≡ Some start

module _ {T S X : Type 0} where
  -- one seat has the turn, and has seen the whole list
  pub record IsOut (log : List (ℕ × X)) (state : State (Option T) (View S X)) : Type 0 where
    pub word : slice_index state.words 1 ≡ 1
    pub home : state.homes ≡ none ∷ []
    pub holder : ℕ
    pub view : View S X
    pub there : get_elem? state.views holder ≡ some view
    pub holds : view.holds ≡ true
    pub knows : (by : ℕ) (v : View S X) → get_elem? state.views by ≡ some v → v.holds ≡ true
        → (by ≡ holder) × (v.own.seen ≡ log)

module _ {T S X : Type 0} (stands : T → S → List X → Type 0) where
  -- the turn is free, and the value is in its slot and stands for the list
  pub record IsHome (start : S) (log : List (ℕ × X)) (state : State (Option T) (View S X)) : Type 0 where
    pub word : slice_index state.words 1 ≡ 0
    pub value : T
    pub home : state.homes ≡ some (Some value) ∷ []
    pub stands_for : stands value start (entries log)
    pub nobody : (by : ℕ) (v : View S X) → get_elem? state.views by ≡ some v → v.holds ≡ false

  -- there is one list; the first word counts its entries from the front of the start on; each number has one part in
  -- one seat
  pub record Kept (front : ℕ) (start : S) (count : ℕ) (state : State (Option T) (View S X)) : Type 0 where
    pub log : List (ℕ × X)
    pub words : length state.words ≡ 2
    pub counted : slice_index state.words 0 ≡ front + length log
    pub numbered : AllByRecursion (λ e. e.0 < count) log
    pub fits : (by : ℕ) (v : View S X) → get_elem? state.views by ≡ some v → Fits start log count v
    pub total : sum_by (λ v. length (parts_of v)) state.views ≡ count
    pub once : (number : ℕ) → number < count → sum_by (times number) state.views ≡ 1
    pub place : IsHome start log state ⊎ IsOut log state

  -- the seat has the turn and the value, has seen the list that it stands for, and finds all its own entries there
  pub record Takes (before after : Me (Option T) (View S X)) : Type 0 where
    pub value : T
    pub seen : List (ℕ × X)
    pub after_is : after ≡ (
      record before.0 { holds = true; own = record before.0.own { seen = seen } },
      (0, Some value) ∷ before.1,
    )
    pub longer : IsPrefix before.0.own.seen seen
    pub mine : entries_by before.0.own.number seen ≡ before.0.own.mine
    pub stands_for : (start : S) → before.0.start ≡ Some start → stands value start (entries seen)

  -- the turn was free and was taken; or nothing has changed
  abbrev pub Tries : Me (Option T) (View S X) → ℕ → Me (Option T) (View S X) → Type 0
  Tries before found after = MatchBool (found == 0) (Takes before after) (after ≡ before)

module _ {T S X : Type 0} where
  -- the entry was added to what the seat has seen and to its own
  abbrev pub Counts : Option X → Me T (View S X) → Me T (View S X) → Type 0
  Counts entry before after = after ≡ (record before.0 { own = grown_part entry before.0.own }, before.1)

  -- the value went home, and the turn is free
  abbrev pub Gives : Me T (View S X) → Me T (View S X) → Type 0
  Gives before after = after ≡ (record before.0 { holds = false }, rest before.1)

  -- the seat has one part, and neither turn nor slot
  abbrev pub IsFree : S → Part X → Me T (View S X) → Type 0
  IsFree start own me = me ≡ (seated_view start false own, [])

  -- the seat has one part, and neither turn nor slot, whatever its start
  abbrev pub IsIdle : Me T (View S X) → Type 0
  IsIdle me = me ≡ (record { start = me.0.start; holds = false; own = me.0.own; others = [] }, [])

  -- the seat has one part, the turn, and the slot with this in it
  abbrev pub IsHolding : S → Part X → T → Me T (View S X) → Type 0
  IsHolding start own slot me = me ≡ (seated_view start true own, (0, slot) ∷ [])

-- the seat has taken the turn and the value, has seen the list that it stands for, and finds all its own entries there
pub record HasTaken {T S X : Type 0} (stands : T → S → List X → Type 0) (start : S) (own : Part X)
    (me : Me (Option T) (View S X)) (value : T) : Type 0 where
  pub seen : List (ℕ × X)
  pub me_is : IsHolding start (record own { seen = seen }) None me
  pub longer : IsPrefix own.seen seen
  pub mine : entries_by own.number seen ≡ own.mine
  pub stands_for : stands value start (entries seen)

-- a table of two words and one slot
abbrev pub IsTurnTable : TableId → Type 0
IsTurnTable id = (id.words ≡ 2) × (id.slots ≡ 1)

-- the part of a pass
abbrev pub part_of : {S X : Type 0} → Knowledge S X → Part X
part_of pass = record { number = pass.number; seen = pass.seen; mine = pass.mine }
