use Rattle.std.{proofs.Common.{◌≡◌, drop}, specs.List.{find, filter_map}}
use Rattle.compute_terms.specs.Randoms.{agreed_random, is_agreed, random_of}
use Rattle.consensus_calc.proofs.randoms.agreed_random.Given as goal

abbrev pub invariant-votes : goal.invariant-votes
invariant-votes l =
    find (is_agreed l.line l.roster l.least l.votes.votes) (filter_map (random_of l.line) (drop l.i l.votes.votes))
    ≡ agreed_random l.line l.roster l.least l.votes.votes
