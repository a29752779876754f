use Rattle.std.proofs.Common.{map, subst, sym}
use Rattle.key_port.specs.Answers.{Rules, rules}
use Rattle.period_lock.specs.Turns.{AreOf, EndsIn}
use Rattle.period_terms.specs.Histories.{after}
use Rattle.period_laws.specs.Checked.{IsCheckedHistory}
use Rattle.serve_board.specs.{Boards.{Locks, Parts}, Stocks.{stock_after, AreKept}, Turns.Stands}
use Rattle.serve_board.proofs.Meetings.{states_of, pools_of, ends_as}
use Rattle.serve_board.proofs.board.Board.close.Goals as goal

pub close-requires : goal.close-requires
close-requires g c = record {
  lock = subst (λ (b : Locks). AreOf b.state c.part-states.result.states.items) (sym c.self.view_is)
      (states_of c.args.self c.args.passes.items c.requires.at _ c.part-states.ensures.states);
}

pub close-requires-2 : goal.close-requires-2
close-requires-2 g c = record {
  lock = subst (λ (b : Locks). AreOf b.pool c.part-states.result.pools.items) (sym c.self.view_is)
      (pools_of c.args.self c.args.passes.items c.requires.at _ c.part-states.ensures.pools);
}

pub returns : goal.returns
returns g c =
    let rules : Rules = rules g.V.Verifier.may_accept g.V.Verifier.may_refuse in
    record {
      state =
          subst (λ (b : Locks). EndsIn (Stands after (IsCheckedHistory rules)) b.state
          (map (λ (p : Parts). p.state) c.args.passes.items) c.in-Ok.period.period_state) c.self.view_is
          (ends_as (λ t. t.period_state) (Stands after (IsCheckedHistory rules)) c.self.inside.state _ _ c.in-Ok.period
          c.part-states.ensures.states c.in-Ok.ensures.closed);
      pool =
          subst (λ (b : Locks). EndsIn (Stands stock_after (AreKept rules)) b.pool
          (map (λ (p : Parts). p.pool) c.args.passes.items) c.in-Ok-close.reserve.pool) c.self.view_is
          (ends_as (λ t. t.pool) (Stands stock_after (AreKept rules)) c.self.inside.pool _ _ c.in-Ok-close.reserve
          c.part-states.ensures.pools c.in-Ok-close.ensures.closed);
    }
