-- How a pass goes on.
use Rattle.std.specs.Prelude.{◌≡◌}
use mathlib.Core.List.{IsPrefix}
use Rattle.period_lock.specs.Turns.{Knowledge}
use Rattle.serve_board.specs.Boards.{Parts}

-- What is known of a lock has gone on: nothing that was seen or is its own was lost, and the number is the same.
pub record GoesOn {S X : Type 0} (before then : Knowledge S X) : Type 0 where
  pub seen : IsPrefix before.seen then.seen
  pub mine : IsPrefix before.mine then.mine
  pub number : then.number ≡ before.number

-- A pass has gone on at both locks.
pub record Goes (before then : Parts) : Type 0 where
  pub state : GoesOn before.state then.state
  pub pool : GoesOn before.pool then.pool
