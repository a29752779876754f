use Rattle.std.proofs.Common.{refl, [], ◌∷◌}
use Rattle.key_port.specs.Answers as keys
use Rattle.period_terms.specs.declared.{answer.Answer.TheVariants.Vote, event.Event.TheVariants.Offered}
use Rattle.period_terms.specs.declared.event.Via.TheVariants.{Fetched}
use Rattle.serve_rounds.specs.{Duties.IsFetched, Spans.Anywhere, Exchanges.IsDue, Plans.GetVote}
use Rattle.serve_rounds.proofs.{Adding.{adds_makes, adds_still, entry_kind}, Lasting.anywhere_lasts}
use Rattle.serve_rounds.proofs.{AskedOfPlans.{asks_none, asks_one}, Exchanges.{lacks, stood_later}}
use Rattle.serve_board.proofs.Going.{goes_makes}
use Rattle.serve_rounds.proofs.fetching.fetch_vote.Goals as goal

pub returns-then-is_held-clause-adds : goal.returns-then-is_held-clause-adds
returns-then-is_held-clause-adds g c = λ a adds.
    let P = IsFetched (keys.rules g.V.Verifier.may_accept g.V.Verifier.may_refuse) c.args.given.now.moment in
    adds_still (Anywhere P) (anywhere_lasts P) a c.args.lent.now.pass.now c.is_held.new.pass adds
    c.is_held.ensures.none

pub returns-in_default-clause-adds : goal.returns-in_default-clause-adds
returns-in_default-clause-adds g c = λ a adds.
    let P = IsFetched (keys.rules g.V.Verifier.may_accept g.V.Verifier.may_refuse) c.args.given.now.moment in
    adds_still (Anywhere P) (anywhere_lasts P) a c.args.lent.now.pass.now c.is_held.new.pass adds
    c.is_held.ensures.none

pub returns-clause-adds : goal.returns-clause-adds
returns-clause-adds g c = λ a adds.
    let given = c.args.given.now in
    let its = keys.rules g.V.Verifier.may_accept g.V.Verifier.may_refuse in
    let P = IsFetched its given.moment in
    let vote = c.in-Some.vote in
    adds_makes (Anywhere P) (anywhere_lasts P) its given.board.now a c.is_held.new.pass c.offer.new.pass
    (adds_still (Anywhere P) (anywhere_lasts P) a c.args.lent.now.pass.now c.is_held.new.pass adds
    c.is_held.ensures.none)
    (Offered vote Fetched given.moment) (Vote c.offer.result)
    (entry_kind P (Offered vote Fetched given.moment) (Vote c.offer.result)
    (record { vote = vote; event = refl; alone = c.in-Some.ensures.alone; verified = c.in-Some.ensures.verified }))
    c.offer.ensures.event

pub returns-then-is_held-clause-asks : goal.returns-then-is_held-clause-asks
returns-then-is_held-clause-asks g c =
    let lent = c.args.lent.now in
    asks_none g.L.Link.steps
    (IsDue (keys.rules g.V.Verifier.may_accept g.V.Verifier.may_refuse) c.args.given.now.board.now lent.pass.now
    c.is_held.new.pass) ((c.args.address.now, GetVote c.args.authority.now) ∷ []) lent.link.now

pub returns-in_default-clause-asks : goal.returns-in_default-clause-asks
returns-in_default-clause-asks g c =
    let given = c.args.given.now in
    let lent = c.args.lent.now in
    let its = keys.rules g.V.Verifier.may_accept g.V.Verifier.may_refuse in
    asks_one g.L.Link.steps (IsDue its given.board.now lent.pass.now c.is_held.new.pass) c.args.address.now
    (GetVote c.args.authority.now) lent.link.now c.vote_of_peer.new.link
    (lacks its given.board.now lent.pass.now c.is_held.new.pass c.args.authority.now c.is_held.result
    c.is_held.ensures.reading c.if-is_held.false)
    c.vote_of_peer.ensures.asks

pub returns-clause-asks : goal.returns-clause-asks
returns-clause-asks g c =
    let given = c.args.given.now in
    let lent = c.args.lent.now in
    let its = keys.rules g.V.Verifier.may_accept g.V.Verifier.may_refuse in
    let event = Offered c.in-Some.vote Fetched given.moment in
    let on = goes_makes its given.board.now c.is_held.new.pass c.offer.new.pass event (Vote c.offer.result)
    c.offer.ensures.event in
    asks_one g.L.Link.steps (IsDue its given.board.now lent.pass.now c.offer.new.pass) c.args.address.now
    (GetVote c.args.authority.now) lent.link.now c.vote_of_peer.new.link
    (stood_later its given.board.now lent.pass.now c.is_held.new.pass c.offer.new.pass _ on
    (lacks its given.board.now lent.pass.now c.is_held.new.pass c.args.authority.now c.is_held.result
    c.is_held.ensures.reading c.if-is_held.false))
    c.vote_of_peer.ensures.asks
