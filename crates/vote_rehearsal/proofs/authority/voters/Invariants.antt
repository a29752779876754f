use Rattle.std.proofs.Common.{◌≡◌}
use Rattle.vote_rehearsal.specs.Authorities.{voters}
use Rattle.vote_rehearsal.proofs.authority.voters.Given as goal

abbrev pub invariant-authorities : goal.invariant-authorities
invariant-authorities l = l.found.items ≡ voters l.seed l.before
