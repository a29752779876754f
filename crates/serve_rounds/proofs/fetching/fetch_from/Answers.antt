use Rattle.std.proofs.Common.{take, ◌∷◌, []}
use Rattle.key_port.specs.Answers as keys
use Rattle.serve_rounds.specs.{Duties.IsFetched, Exchanges.IsDue, Plans.{GetVote, votes_at}, Spans.Anywhere}
use Rattle.serve_rounds.proofs.{Adding.adds_same, AskedOfPlans.{asks_wider, votes_more}, Exchanges.due_earlier}
use Rattle.serve_rounds.proofs.{Exchanges.due_later, Kept.keeps_on}
use Rattle.serve_rounds.proofs.fetching.fetch_from.Goals as goal

pub votes-preserved : goal.votes-preserved
votes-preserved g c =
    let given = c.args.given.now in
    let its = keys.rules g.V.Verifier.may_accept g.V.Verifier.may_refuse in
    let P = Anywhere (IsFetched its given.moment) in
    let steps = g.L.Link.steps in
    let board = given.board.now in
    let authorities = given.station.now.authorities in
    let first = c.args.lent.now in
    let before = c.votes.lent in
    let then = c.fetch_vote.new.lent in
    let here = (c.votes.invariant.adds first.pass.now (adds_same P first.pass.now)).goes in
    let on = (c.fetch_vote.ensures.adds before.pass.now (adds_same P before.pass.now)).goes in
    let Due = IsDue its board first.pass.now then.pass.now in
    record {
      keeps =
          keeps_on g.V.Verifier.faults g.N.Signer.faults g.L.Link.faults board first before then
          c.votes.invariant.keeps c.fetch_vote.ensures.keeps;
      adds = λ a adds. c.fetch_vote.ensures.adds a (c.votes.invariant.adds a adds);
      asks =
          votes_more steps Due c.args.address.now authorities c.as_slice-member-items.result.now
          c.as_slice-member-items.ensures c.votes.member-index c.member-item.result c.votes-test.true c.member-item.is
          first.link.now before.link.now then.link.now
          (asks_wider steps (IsDue its board first.pass.now before.pass.now) Due
          (due_later its board first.pass.now before.pass.now then.pass.now on)
          (votes_at (take c.votes.member-index authorities) c.args.address.now) first.link.now before.link.now
          c.votes.invariant.asks)
          (asks_wider steps (IsDue its board before.pass.now then.pass.now) Due
          (due_earlier its board first.pass.now before.pass.now then.pass.now here)
          ((c.args.address.now, GetVote c.member-item.result.identity) ∷ []) before.link.now then.link.now
          c.fetch_vote.ensures.asks);
    }
