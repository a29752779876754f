use Rattle.std.proofs.Common.{◌≡◌, ap, subst, Some}
use Rattle.key_port.specs.Answers.{Rules, rules}
use Rattle.period_lock.specs.Turns.{entries}
use Rattle.period_terms.specs.declared.{answer.Answer.TheVariants.Signature, event.Event.TheVariants.SignedIn}
use Rattle.period_terms.specs.Histories.{after, entry_if}
use Rattle.period_laws.specs.Checked.{IsCheckedHistory}
use Rattle.serve_board.{specs.{Boards.answer_at, Events.{SignsThere, signed_entry}}, proofs.Places.sign_in_number}
use Rattle.serve_board.proofs.{Standing.event_told, Views.{state_of, at_state, makes}}
use Rattle.serve_board.proofs.board.Board.sign_in.Goals as goal

pub returns-clause-event : goal.returns-clause-event
returns-clause-event g c =
    let rules : Rules = rules g.V.Verifier.may_accept g.V.Verifier.may_refuse in
    let turn = c.turn.ensures.turn in
    makes _ c.args.self.now _ c.args.pass.now c.self.view_is c.pass.view_is rules c.turn.new.pass
    (SignedIn c.args.signature) (Signature c.in-Some.answer)
    (event_told after (IsCheckedHistory rules) c.self.inside.state c.pass.inside.state c.turn.new.pass _ _
    c.turn.result _ turn answer_at entry_if (SignedIn c.args.signature) (Signature c.in-Some.answer)
    (subst (λ r. SignsThere rules c.args.signature c.self.inside.state.start (entries turn.story) r)
    c.in-Some.is turn.answer)
    (ap (λ r. signed_entry (Some c.args.signature) r) c.in-Some.is) c.turn.ensures.mine)

pub returns-clause-position : goal.returns-clause-position
returns-clause-position g c =
    let rules : Rules = rules g.V.Verifier.may_accept g.V.Verifier.may_refuse in
    sign_in_number rules c.args.self.now.state c.args.pass.now.state c.turn.new.pass c.args.signature
    c.in-Some.answer (returns-clause-event g c).takes

pub returns-clause-at : goal.returns-clause-at
returns-clause-at g c =
    at_state _ c.args.self.now _ c.args.pass.now c.self.view_is c.pass.view_is c.requires.at c.turn.new.pass
    c.turn.ensures.turn.of

pub turn-requires : goal.turn-requires
turn-requires g c = record {
  lock = state_of _ c.args.self.now _ c.args.pass.now c.self.view_is c.pass.view_is c.requires.at;
}
