use Rattle.std.{proofs.Common.{◌≡◌, drop}, specs.List.list_any}
use Rattle.health_report.specs.Reports.{lists}
use Rattle.health_report.proofs.relays.is_voted.Given as goal

abbrev pub invariant-votes : goal.invariant-votes
invariant-votes l = list_any (lists l.rsa) (drop l.number l.votes.votes) ≡ list_any (lists l.rsa) l.votes.votes
