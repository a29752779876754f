use Rattle.compute_terms.specs.Flags.{listed_flags}
use Rattle.consensus_calc.proofs.flags.known_to_33.Goals as goal

pub returns : goal.returns
returns c = c.in_ok-add_own_flags.ensures.ok (listed_flags c.args.votes.now.votes) c.in_ok-set.ensures
