use Rattle.std.proofs.lemmas.Result.{IfOk-weaker}
use Rattle.vote_rehearsal.proofs.SummaryTexts.{found_there}
use Rattle.vote_rehearsal.proofs.summary.found_of.Goals as goal

pub returns-in-Ok : goal.returns-in-Ok
returns-in-Ok c =
    let is = c.in-Ok.ensures.calculates in
    IfOk-weaker c.found_in.result _ _
    (λ found told. found_there c.args.roster c.args.votes.now.votes c.in-Ok.consensus found is.0 is.1 told)
    c.found_in.ensures
