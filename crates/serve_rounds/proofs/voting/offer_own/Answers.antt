use Rattle.std.proofs.Common.{refl}
use Rattle.key_port.specs.Answers as keys
use Rattle.period_terms.specs.declared.{answer.Answer.TheVariants.Vote, event.Event.TheVariants.Offered}
use Rattle.period_terms.specs.declared.event.Via.TheVariants.{Own}
use Rattle.serve_board.proofs.Going.{goes_makes, goes_on}
use Rattle.serve_rounds.{specs.{Duties.IsOwn, Spans.Since}, proofs.Adding.{adds_makes, adds_still, entry_kind}}
use Rattle.serve_rounds.proofs.{Adding.none_same, Lasting.{own_lasts, period_later, since_lasts, vote_earlier}}
use Rattle.serve_rounds.proofs.{Lasting.vote_later, Exchanges.own_text_later}
use Rattle.serve_rounds.proofs.voting.offer_own.Goals as goal

pub returns-in_default-clause-adds : goal.returns-in_default-clause-adds
returns-in_default-clause-adds g c = λ from goes period a adds.
    let given = c.args.given.now in
    let its = keys.rules g.V.Verifier.may_accept g.V.Verifier.may_refuse in
    let allows = g.W.Rules.allows given.ruler.now in
    adds_still
    (Since from (IsOwn its g.N.Signer.may_give g.N.Signer.steps allows given.station.now given.board.now given.moment))
    (since_lasts from _ (own_lasts its g.N.Signer.may_give g.N.Signer.steps allows given.station.now given.board.now
    given.moment)) a c.args.lent.now.pass.now c.own_vote.new.lent.pass.now adds c.own_vote.ensures.none

pub returns-then-is_taken-clause-adds : goal.returns-then-is_taken-clause-adds
returns-then-is_taken-clause-adds g c = λ from goes period a adds.
    let given = c.args.given.now in
    let lent = c.args.lent.now in
    let its = keys.rules g.V.Verifier.may_accept g.V.Verifier.may_refuse in
    let allows = g.W.Rules.allows given.ruler.now in
    let station = given.station.now in
    let board = given.board.now in
    let P = IsOwn its g.N.Signer.may_give g.N.Signer.steps allows station board given.moment in
    let lasts = since_lasts from P (own_lasts its g.N.Signer.may_give g.N.Signer.steps allows station board
    given.moment) in
    let vote = c.in-Some.vote in
    let event = Offered vote Own given.moment in
    let on = goes_makes its board c.own_vote.new.lent.pass.now c.offer-answer.new.pass event
    (Vote c.offer-answer.result)
    c.offer-answer.ensures.event in
    let still = c.own_vote.ensures.none lent.pass.now (none_same lent.pass.now) in
    adds_makes (Since from P) lasts its board a c.own_vote.new.lent.pass.now c.offer-answer.new.pass
    (adds_still (Since from P) lasts a lent.pass.now c.own_vote.new.lent.pass.now adds c.own_vote.ensures.none)
    event (Vote c.offer-answer.result)
    (entry_kind (P from c.offer-answer.new.pass) event (Vote c.offer-answer.result)
    (record {
      vote = vote;
      event = refl;
      valid_after = c.args.valid_after;
      period =
          period_later its board from lent.pass.now c.offer-answer.new.pass c.args.valid_after
          (goes_on lent.pass.now c.own_vote.new.lent.pass.now c.offer-answer.new.pass still.goes on) period;
      own =
          vote_earlier its g.N.Signer.may_give g.N.Signer.steps allows station board from lent.pass.now
          c.offer-answer.new.pass c.args.valid_after given.moment vote goes
          (vote_later its g.N.Signer.may_give g.N.Signer.steps allows station board lent.pass.now
          c.own_vote.new.lent.pass.now c.offer-answer.new.pass c.args.valid_after given.moment vote on
          c.in-Some.ensures.own);
    }))
    c.offer-answer.ensures.event

pub returns-else-is_taken-clause-adds : goal.returns-else-is_taken-clause-adds
returns-else-is_taken-clause-adds g c = λ from goes period a adds.
    let given = c.args.given.now in
    let lent = c.args.lent.now in
    let its = keys.rules g.V.Verifier.may_accept g.V.Verifier.may_refuse in
    let allows = g.W.Rules.allows given.ruler.now in
    let station = given.station.now in
    let board = given.board.now in
    let P = IsOwn its g.N.Signer.may_give g.N.Signer.steps allows station board given.moment in
    let lasts = since_lasts from P (own_lasts its g.N.Signer.may_give g.N.Signer.steps allows station board
    given.moment) in
    let vote = c.in-Some.vote in
    let event = Offered vote Own given.moment in
    let on = goes_makes its board c.own_vote.new.lent.pass.now c.offer-answer.new.pass event
    (Vote c.offer-answer.result)
    c.offer-answer.ensures.event in
    let still = c.own_vote.ensures.none lent.pass.now (none_same lent.pass.now) in
    adds_makes (Since from P) lasts its board a c.own_vote.new.lent.pass.now c.offer-answer.new.pass
    (adds_still (Since from P) lasts a lent.pass.now c.own_vote.new.lent.pass.now adds c.own_vote.ensures.none)
    event (Vote c.offer-answer.result)
    (entry_kind (P from c.offer-answer.new.pass) event (Vote c.offer-answer.result)
    (record {
      vote = vote;
      event = refl;
      valid_after = c.args.valid_after;
      period =
          period_later its board from lent.pass.now c.offer-answer.new.pass c.args.valid_after
          (goes_on lent.pass.now c.own_vote.new.lent.pass.now c.offer-answer.new.pass still.goes on) period;
      own =
          vote_earlier its g.N.Signer.may_give g.N.Signer.steps allows station board from lent.pass.now
          c.offer-answer.new.pass c.args.valid_after given.moment vote goes
          (vote_later its g.N.Signer.may_give g.N.Signer.steps allows station board lent.pass.now
          c.own_vote.new.lent.pass.now c.offer-answer.new.pass c.args.valid_after given.moment vote on
          c.in-Some.ensures.own);
    }))
    c.offer-answer.ensures.event

pub returns-then-is_taken-clause-text : goal.returns-then-is_taken-clause-text
returns-then-is_taken-clause-text g c =
    let given = c.args.given.now in
    let its = keys.rules g.V.Verifier.may_accept g.V.Verifier.may_refuse in
    let allows = g.W.Rules.allows given.ruler.now in
    let board = given.board.now in
    let event = Offered c.in-Some.vote Own given.moment in
    let on = goes_makes its board c.own_vote.new.lent.pass.now c.offer-answer.new.pass event
    (Vote c.offer-answer.result)
    c.offer-answer.ensures.event in
    own_text_later its g.N.Signer.may_give g.N.Signer.steps allows given.station.now board c.args.lent.now.pass.now
    c.own_vote.new.lent.pass.now c.offer-answer.new.pass c.args.valid_after given.moment on _ c.in-Some.ensures.text
