use Rattle.std.proofs.Common.{◌≡◌, drop}
use Rattle.health_report.specs.Reports.{has_vote}
use Rattle.health_report.proofs.members.has_vote.Given as goal

abbrev pub invariant-votes : goal.invariant-votes
invariant-votes l = has_vote (drop l.number l.votes.votes) l.member ≡ has_vote l.votes.votes l.member
