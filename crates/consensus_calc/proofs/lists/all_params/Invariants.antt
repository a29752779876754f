use Rattle.std.proofs.Common.{◌≡◌, take}
use Rattle.vote_terms.specs.declared.lists.VoteLists.{VoteLists}
use Rattle.compute_terms.specs.Lists.{members_of}
use Rattle.consensus_calc.proofs.lists.all_params.Given as goal

abbrev pub invariant-votes : goal.invariant-votes
invariant-votes l = l.lists.items ≡ members_of (λ (lists : VoteLists). lists.params) (take l.i l.votes.votes)
