use Rattle.std.proofs.Common.{◌≡◌, refl}
use Rattle.key_port.specs.Answers.{Rules, rules}
use Rattle.serve_board.{specs.Stocks.{stock_after, AreKept}, proofs.{Standing.reading_told, Views.{pool_of, at_pool}}}
use Rattle.serve_board.proofs.Views.{looks}
use Rattle.serve_board.proofs.board.Board.look.Goals as goal

pub returns-clause-reading : goal.returns-clause-reading
returns-clause-reading g c =
    let rules : Rules = rules g.V.Verifier.may_accept g.V.Verifier.may_refuse in
    looks _ c.args.self.now _ c.args.pass.now c.self.view_is c.pass.view_is rules c.turn-reply.new.pass
    (λ pool answer. g.Q.Question.finds c.args.question pool answer c.turn-reply.new.event.question)
    c.turn-reply.result
    (reading_told stock_after (AreKept rules) c.self.inside.pool c.pass.inside.pool c.turn-reply.new.pass _ _
    c.turn-reply.result _ c.turn-reply.ensures.turn
    (λ pool answer. g.Q.Question.finds c.args.question pool answer c.turn-reply.new.event.question)
    c.turn-reply.result c.turn-reply.ensures.turn.answer refl c.turn-reply.ensures.mine)

pub returns-clause-at : goal.returns-clause-at
returns-clause-at g c =
    at_pool _ c.args.self.now _ c.args.pass.now c.self.view_is c.pass.view_is c.requires.at c.turn-reply.new.pass
    c.turn-reply.ensures.turn.of

pub turn-reply-requires : goal.turn-reply-requires
turn-reply-requires g c = record {
  lock = pool_of _ c.args.self.now _ c.args.pass.now c.self.view_is c.pass.view_is c.requires.at;
}
