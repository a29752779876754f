use Rattle.std.proofs.Common.{◌≡◌, take, map}
use Rattle.compute_terms.specs.Consensuses.{source_of}
use Rattle.consensus_calc.proofs.record.sources.Given as goal

abbrev pub invariant-votes : goal.invariant-votes
invariant-votes l = l.lines.items ≡ map source_of (take l.i l.votes.votes)
