use Rattle.std.{proofs.Common.{◌≡◌, drop}, specs.List.fold}
use Rattle.dir_values.specs.FlagSets.{with_flag, as_set}
use Rattle.compute_terms.specs.Flags.{listed_flags}
use Rattle.consensus_calc.proofs.flags.listed.Given as goal

abbrev pub invariant-votes : goal.invariant-votes
invariant-votes l = fold with_flag l.set (listed_flags (drop l.i l.votes.votes)) ≡ as_set (listed_flags l.votes.votes)
