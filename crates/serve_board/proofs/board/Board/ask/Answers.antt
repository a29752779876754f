use Rattle.std.proofs.Common.{◌≡◌, refl}
use Rattle.key_port.specs.Answers.{Rules, rules}
use Rattle.period_terms.specs.Histories.{after}
use Rattle.period_laws.specs.Checked.{IsCheckedHistory}
use Rattle.serve_board.proofs.{Standing.reading_told, Views.{state_of, at_state, sees}}
use Rattle.serve_board.proofs.board.Board.ask.Goals as goal

pub returns-clause-reading : goal.returns-clause-reading
returns-clause-reading g c =
    let rules : Rules = rules g.V.Verifier.may_accept g.V.Verifier.may_refuse in
    sees _ c.args.self.now _ c.args.pass.now c.self.view_is c.pass.view_is rules c.turn-reply.new.pass
    (λ state answer. g.Q.Question.finds c.args.question state answer c.turn-reply.new.event.question)
    c.turn-reply.result
    (reading_told after (IsCheckedHistory rules) c.self.inside.state c.pass.inside.state c.turn-reply.new.pass _ _
    c.turn-reply.result _ c.turn-reply.ensures.turn
    (λ state answer. g.Q.Question.finds c.args.question state answer c.turn-reply.new.event.question)
    c.turn-reply.result c.turn-reply.ensures.turn.answer refl c.turn-reply.ensures.mine)

pub returns-clause-at : goal.returns-clause-at
returns-clause-at g c =
    at_state _ c.args.self.now _ c.args.pass.now c.self.view_is c.pass.view_is c.requires.at c.turn-reply.new.pass
    c.turn-reply.ensures.turn.of

pub turn-reply-requires : goal.turn-reply-requires
turn-reply-requires g c = record {
  lock = state_of _ c.args.self.now _ c.args.pass.now c.self.view_is c.pass.view_is c.requires.at;
}
