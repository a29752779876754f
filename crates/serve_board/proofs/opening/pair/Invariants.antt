use Rattle.std.proofs.Common.{◌≡◌, ◌≤◌, ◌+◌, All, length, vec_len, vec_capacity}
use Rattle.period_lock.specs.Turns.{AreDealt}
use Rattle.serve_board.specs.{Boards.IsPair, Passes.DifferInNumber}
use Rattle.serve_board.proofs.opening.pair.Given as goal

abbrev pub invariant-passes : goal.invariant-passes
invariant-passes g l = record {
  states : AreDealt l.state (length l.states.items) l.states.items;
  pools : AreDealt l.pool (length l.states.items) l.pools.items;
  count : length l.passes.items + length l.states.items ≡ length l.fn.states.items;
  room : length l.fn.states.items ≤ vec_capacity l.passes;
  pairs : All (IsPair l.state l.pool) l.passes.items;
  above : All (λ pass. length l.states.items ≤ pass.state.number) l.passes.items;
  numbers : DifferInNumber l.passes.items;
}

abbrev pub decreases-passes : goal.decreases-passes
decreases-passes g l = vec_len l.states
