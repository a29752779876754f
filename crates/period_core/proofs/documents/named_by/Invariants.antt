use Rattle.std.proofs.Common.{◌≡◌, drop}
use Rattle.period_terms.specs.Readings.{vote_named}
use Rattle.period_core.proofs.documents.named_by.Given as goal

-- the vote is looked for among those from here on
abbrev pub invariant-votes : goal.invariant-votes
invariant-votes l = vote_named (drop l.i l.held.votes) l.digest ≡ vote_named l.held.votes l.digest
