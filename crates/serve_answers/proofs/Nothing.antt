-- What adds nothing.
use Rattle.std.proofs.Common.{◌≡◌, Result, Ok, Err, OnErr, ap, refl, sym, subst}
use Rattle.key_port.specs.Answers.{Rules}
use Rattle.period_terms.specs.declared.state.State.{State}
use Rattle.serve_board.{specs.Boards.{Locks, Parts, Sees}, proofs.Going.{goes_same, goes_sees}}
use Rattle.serve_answers.specs.Finding.{AddsNothing}

module _ (rules : Rules) (board : Locks) (before then : Parts) where
  -- a reading adds nothing
  pub sees_adds : {A : Type 0} (right : State → A → Type 0) (answer : A) → Sees rules board before then right answer
      → AddsNothing before then
  sees_adds right answer sees = record {
    goes = goes_sees rules board before then right answer sees;
    state = sees.takes.mine;
    pool = ap (λ k. k.mine) sees.pool;
  }
