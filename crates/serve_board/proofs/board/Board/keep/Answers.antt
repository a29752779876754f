use Rattle.std.proofs.Common.{◌≡◌, ap, subst, Some}
use Rattle.key_port.specs.Answers.{Rules, rules}
use Rattle.period_lock.specs.Turns.{entries}
use Rattle.vote_pool.specs.Pools.{answer_to}
use Rattle.serve_board.specs.{Stocks.{stock_after, AreKept, kept_if}, Events.{KeepsThere, kept_entry}}
use Rattle.serve_board.proofs.{Standing.event_told, Views.{pool_of, at_pool, stores}}
use Rattle.serve_board.proofs.board.Board.keep.Goals as goal

pub returns-clause-event : goal.returns-clause-event
returns-clause-event g c =
    let rules : Rules = rules g.V.Verifier.may_accept g.V.Verifier.may_refuse in
    let turn = c.turn.ensures.turn in
    stores _ c.args.self.now _ c.args.pass.now c.self.view_is c.pass.view_is rules c.turn.new.pass c.args.entry
    c.in-Some.answer
    (event_told stock_after (AreKept rules) c.self.inside.pool c.pass.inside.pool c.turn.new.pass _ _ c.turn.result _
    turn answer_to kept_if c.args.entry c.in-Some.answer
    (subst (λ r. KeepsThere rules c.args.entry c.self.inside.pool.start (entries turn.story) r) c.in-Some.is
    turn.answer)
    (ap (λ r. kept_entry (Some c.args.entry) r) c.in-Some.is) c.turn.ensures.mine)

pub returns-clause-at : goal.returns-clause-at
returns-clause-at g c =
    at_pool _ c.args.self.now _ c.args.pass.now c.self.view_is c.pass.view_is c.requires.at c.turn.new.pass
    c.turn.ensures.turn.of

pub turn-requires : goal.turn-requires
turn-requires g c = record {
  lock = pool_of _ c.args.self.now _ c.args.pass.now c.self.view_is c.pass.view_is c.requires.at;
}
