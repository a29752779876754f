use Rattle.std.proofs.Common.{◌≡◌, ap, subst, Some}
use Rattle.key_port.specs.Answers.{Rules, rules}
use Rattle.vote_terms.specs.Votes.{ReadVote}
use Rattle.period_lock.specs.Turns.{entries}
use Rattle.period_terms.specs.declared.{answer.Answer.TheVariants.Vote, event.Event.TheVariants.Offered}
use Rattle.period_terms.specs.Histories.{after, entry_if}
use Rattle.period_laws.specs.Checked.{IsCheckedHistory}
use Rattle.serve_board.specs.{Boards.{Makes, answer_at}, Events.{OffersThere, offered_entry}}
use Rattle.serve_board.proofs.{Places.offer_number, Standing.event_told, Views.{state_of, at_state, makes}}
use Rattle.serve_board.proofs.board.Board.offer.Goals as goal

pub returns-clause-event : goal.returns-clause-event
returns-clause-event g c =
    let rules : Rules = rules g.V.Verifier.may_accept g.V.Verifier.may_refuse in
    let turn = c.turn.ensures.turn in
    let vote : ReadVote = c.know_rank.new.self in
    subst (λ (v : ReadVote). Makes rules c.args.self.now c.args.pass.now
    (record { state = c.turn.new.pass; pool = c.pass.inside.pool }) (Offered v c.args.via c.args.now)
    (Vote c.in-Some.answer)) c.know_rank.ensures
    (makes _ c.args.self.now _ c.args.pass.now c.self.view_is c.pass.view_is rules c.turn.new.pass
    (Offered vote c.args.via c.args.now) (Vote c.in-Some.answer)
    (event_told after (IsCheckedHistory rules) c.self.inside.state c.pass.inside.state c.turn.new.pass _ _
    c.turn.result _ turn answer_at entry_if (Offered vote c.args.via c.args.now) (Vote c.in-Some.answer)
    (subst (λ r. OffersThere rules vote c.args.via c.args.now c.self.inside.state.start (entries turn.story) r)
    c.in-Some.is turn.answer)
    (ap (λ r. offered_entry (Some vote) c.args.via c.args.now r) c.in-Some.is) c.turn.ensures.mine))

pub returns-clause-position : goal.returns-clause-position
returns-clause-position g c =
    let rules : Rules = rules g.V.Verifier.may_accept g.V.Verifier.may_refuse in
    offer_number rules c.args.self.now.state c.args.pass.now.state c.turn.new.pass c.args.vote c.args.via c.args.now
    c.in-Some.answer (returns-clause-event g c).takes

pub returns-clause-at : goal.returns-clause-at
returns-clause-at g c =
    at_state _ c.args.self.now _ c.args.pass.now c.self.view_is c.pass.view_is c.requires.at c.turn.new.pass
    c.turn.ensures.turn.of

pub turn-requires : goal.turn-requires
turn-requires g c = record {
  lock = state_of _ c.args.self.now _ c.args.pass.now c.self.view_is c.pass.view_is c.requires.at;
}
