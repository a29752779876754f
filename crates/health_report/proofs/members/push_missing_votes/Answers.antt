use Rattle.health_report.{specs.Reports.missing_vote, proofs.Loops.{at_place, text_more}}
use Rattle.health_report.proofs.members.push_missing_votes.Goals as goal

pub members-preserved : goal.members-preserved
members-preserved c =
    text_more (missing_vote c.args.votes.now.votes) c.members.out.items c.push_missing.new.out.items
    c.identity.result.now _ _ _
    (at_place c.args.members.now c.members.i c.identity.result.now c.identity.ensures) c.in_ok-push_missing.ensures
    c.members.invariant
