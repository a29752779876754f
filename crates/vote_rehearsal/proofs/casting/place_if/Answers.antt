use Rattle.std.proofs.Common.{length, ap, arith}
use Rattle.vote_doc.{specs.Holdings.Holding, proofs.Placing.placed_adds_at_most_one}
use Rattle.vote_rehearsal.proofs.casting.place_if.Goals as goal

pub returns-in-Some-clause-few : goal.returns-in-Some-clause-few
returns-in-Some-clause-few c =
    let same = ap (λ (h : Holding). length h.votes) c.place.ensures.votes in
    omega (arith, same, placed_adds_at_most_one c.args.accepted.now.votes c.in-Some.vote)
