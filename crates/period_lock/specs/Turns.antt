-- What is known of a lock and of its passes, and what a turn, the first passes and a closed lock say.
use Rattle.std.specs.Prelude.{◌≡◌, ◌<◌, ◌==◌, ℕ, List, [], ◌∷◌, ◌++◌, All, length, map, filter, slice_get, Option, Some}
use Rattle.std.specs.{Prelude.{None, IsPermutation}, List.flat_map}
use mathlib.Core.List.{IsPrefix}
use Rattle.atomic_table.specs.Seated.{TableId}

-- a lock: its table, the start of its value, and how many passes it gave
pub record Lock (S : Type 0) : Type 0 where
  pub table : TableId
  pub start : S
  pub passes : ℕ

-- a pass: its table, the start of the value there, its number, the entries that it has seen and its own, each with
-- the number of the pass that added it
pub record Knowledge (S X : Type 0) : Type 0 where
  pub table : TableId
  pub start : Option S
  pub number : ℕ
  pub seen : List (ℕ × X)
  pub mine : List (ℕ × X)

module _ {X : Type 0} where
  -- the entries without the numbers of the passes
  abbrev pub entries : List (ℕ × X) → List X
  entries numbered = map (λ e. e.1) numbered

  -- the entries of one pass
  abbrev pub entries_by : ℕ → List (ℕ × X) → List (ℕ × X)
  entries_by number numbered = filter (λ e. e.0 == number) numbered

  -- an entry of the pass, if there is one
  abbrev pub entry_by : ℕ → Option X → List (ℕ × X)
  entry_by number None = []
  entry_by number (Some x) = (number, x) ∷ []

module _ {S X : Type 0} where
  -- a pass that has seen nothing
  abbrev pub newcomer : Lock S → ℕ → Knowledge S X
  newcomer lock number = record { table = lock.table; start = Some lock.start; number = number; seen = []; mine = [] }

  -- new passes of a lock, one for each number below a count
  pub record AreDealt (lock : Lock S) (count : ℕ) (passes : List (Knowledge S X)) : Type 0 where
    pub length_is : length passes ≡ count
    pub each : (number : ℕ) → number < count → slice_get passes number ≡ Some (newcomer lock number)

  -- the pass is of the lock
  abbrev pub IsOf : Lock S → Knowledge S X → Type 0
  IsOf lock pass = (pass.table ≡ lock.table) × (pass.start ≡ Some lock.start)

  -- each pass is of the lock
  abbrev pub AreOf : Lock S → List (Knowledge S X) → Type 0
  AreOf lock passes = All (IsOf lock) passes

  -- the own entries are those of what was seen that have the pass's number, in order
  abbrev pub OwnsItsPart : Knowledge S X → Type 0
  OwnsItsPart pass = entries_by pass.number pass.seen ≡ pass.mine

-- a turn of a pass of the lock: the reply is right at a list that begins with all that the pass had seen; the pass
-- has then seen that list and the new entry, which is one more of its own
pub record TakesTurn {S X Reply Event : Type 0} (answers : S → List X → Reply → Event → Type 0)
    (entry_of : Reply → Event → Option X)
    (lock : Lock S) (before after : Knowledge S X) (reply : Reply) (event : Event) : Type 0 where
  pub story : List (ℕ × X)
  pub longer : IsPrefix before.seen story
  pub answer : answers lock.start (entries story) reply event
  pub seen : after.seen ≡ story ++ entry_by before.number (entry_of reply event)
  pub mine : after.mine ≡ before.mine ++ entry_by before.number (entry_of reply event)
  pub number : after.number ≡ before.number
  pub of : IsOf lock after

-- a closed lock: its value stands for one list, which begins with what each pass has seen; its entries are those of
-- the passes, each once
pub record EndsIn {T S X : Type 0} (stands : T → S → List X → Type 0) (lock : Lock S) (passes : List (Knowledge S X))
    (value : T) : Type 0 where
  pub story : List (ℕ × X)
  pub stands_for : stands value lock.start (entries story)
  pub seen : All (λ pass. IsPrefix pass.seen story) passes
  pub mine : All (λ pass. entries_by pass.number story ≡ pass.mine) passes
  pub whole : IsPermutation (flat_map (λ pass. pass.mine) passes) story
