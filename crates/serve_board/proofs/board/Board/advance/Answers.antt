use Rattle.std.proofs.Common.{◌≡◌, refl}
use Rattle.key_port.specs.Answers.{Rules, rules}
use Rattle.serve_board.{specs.Boards.{Locks, Parts, Advances}, proofs.{Moving.advance_told, Views.{seen_as, state_of}}}
use Rattle.serve_board.proofs.Views.{at_state}
use Rattle.serve_board.proofs.board.Board.advance.Goals as goal

pub returns-clause-event : goal.returns-clause-event
returns-clause-event g c =
    let rules : Rules = rules g.V.Verifier.may_accept g.V.Verifier.may_refuse in
    let inside : Locks = record { state = c.self.inside.state; pool = c.self.inside.pool } in
    let parts : Parts = record { state = c.pass.inside.state; pool = c.pass.inside.pool } in
    let turn = c.turn-answer.ensures.turn in
    seen_as inside c.args.self.now parts c.args.pass.now c.self.view_is c.pass.view_is
    (λ (l : Locks) (q : Parts). Advances rules l q
    (record { state = c.turn-answer.new.pass; pool = c.pass.inside.pool }) g.N.Signer.may_give c.args.now
    c.turn-answer.result.0)
    (advance_told g.N.Signer.may_give rules c.args.now inside parts c.turn-answer.new.pass _ _ c.turn-answer.result _
    turn c.turn-answer.ensures.mine c.turn-answer.result.0 c.turn-answer.result.1.value turn.answer.0.moves refl)

pub returns-clause-at : goal.returns-clause-at
returns-clause-at g c =
    at_state _ c.args.self.now _ c.args.pass.now c.self.view_is c.pass.view_is c.requires.at c.turn-answer.new.pass
    c.turn-answer.ensures.turn.of

pub turn-answer-requires : goal.turn-answer-requires
turn-answer-requires g c = record {
  lock = state_of _ c.args.self.now _ c.args.pass.now c.self.view_is c.pass.view_is c.requires.at;
}
