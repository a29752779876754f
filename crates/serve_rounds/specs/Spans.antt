-- What a pass adds to a board, told between what it had seen and what it then has.
use Rattle.std.specs.Prelude.{◌≡◌, ◌++◌, ℕ, List, All, map}
use mathlib.Core.List.{IsPrefix}
use Rattle.period_terms.specs.declared.entry.Entry.{Entry}
use Rattle.serve_board.specs.{Boards.Parts, Going.Goes}

-- a kind of entries that a pass adds between what it had seen and what it then has
abbrev pub AddedKind : Type 1
AddedKind = Parts → Parts → Entry → Type 0

-- a kind that says nothing of what was seen
abbrev pub Anywhere : (Entry → Type 0) → Parts → Parts → Entry → Type 0
Anywhere P from to entry = P entry

-- a kind, told from an earlier moment of the pass on
abbrev pub Since : Parts → AddedKind → Parts → Parts → Entry → Type 0
Since before P from to entry = P before to entry

-- What a pass added at the state are entries of this kind alone, and at the pool it added none. It has gone on at
-- both.
pub record Adds (P : AddedKind) (before then : Parts) : Type 0 where
  pub added : List Entry
  pub each : All (P before then) added
  pub mine : then.state.mine ≡ before.state.mine ++ map (λ e. (before.state.number, e)) added
  pub pool : then.pool.mine ≡ before.pool.mine
  pub goes : Goes before then

-- A pass added nothing, and has gone on at both locks.
pub record AddsNone (before then : Parts) : Type 0 where
  pub mine : then.state.mine ≡ before.state.mine
  pub pool : then.pool.mine ≡ before.pool.mine
  pub goes : Goes before then

-- What stood at a lock at some time between: it begins with what the pass had seen, and what it then has begins with it.
pub record WasSeen {X : Type 0} (seen then : List (ℕ × X)) (place : List (ℕ × X)) : Type 0 where
  pub longer : IsPrefix seen place
  pub here : IsPrefix place then
