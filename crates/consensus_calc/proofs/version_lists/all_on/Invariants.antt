use Rattle.std.proofs.Common.{◌≡◌, take, map}
use Rattle.vote_terms.specs.Votes.{ReadVote}
use Rattle.consensus_calc.specs.ListLines.{versions_on}
use Rattle.consensus_calc.proofs.version_lists.all_on.Given as goal

abbrev pub invariant-votes : goal.invariant-votes
invariant-votes l = l.lists.items ≡ map (λ (vote : ReadVote). versions_on l.line vote.says.lists) (take l.i l.votes.votes)
