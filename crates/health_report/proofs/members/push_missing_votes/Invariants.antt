use Rattle.std.{proofs.Common.{◌≡◌, ◌++◌, drop}, specs.List.flat_map}
use Rattle.health_report.specs.Reports.{missing_vote}
use Rattle.health_report.proofs.members.push_missing_votes.Given as goal

abbrev pub invariant-members : goal.invariant-members
invariant-members l =
    l.out.items ++ flat_map (missing_vote l.votes.votes) (drop l.i l.members)
    ≡ l.fn.out.items ++ flat_map (missing_vote l.votes.votes) l.members
