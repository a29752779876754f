use Rattle.std.proofs.Common.{◌≡◌, take, map}
use Rattle.compute_terms.specs.RelayFlags.{knows}
use Rattle.consensus_calc.proofs.known.known_by.Given as goal

abbrev pub invariant-votes : goal.invariant-votes
invariant-votes l = l.table.items ≡ map (λ vote. map (λ flag. knows flag vote) l.known) (take l.i l.votes.votes)
