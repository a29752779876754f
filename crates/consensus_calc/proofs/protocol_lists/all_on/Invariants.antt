use Rattle.std.proofs.Common.{◌≡◌, take}
use Rattle.compute_terms.specs.Lists.{members_of}
use Rattle.consensus_calc.specs.ListLines.{protocols_on}
use Rattle.consensus_calc.proofs.protocol_lists.all_on.Given as goal

abbrev pub invariant-votes : goal.invariant-votes
invariant-votes l = l.lists.items ≡ members_of (protocols_on l.line) (take l.i l.votes.votes)
