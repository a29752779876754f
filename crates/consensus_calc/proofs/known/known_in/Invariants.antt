use Rattle.std.proofs.Common.{◌≡◌, take, map}
use Rattle.dir_values.specs.FlagSets.{has_flag}
use Rattle.consensus_calc.proofs.known.known_in.Given as goal

abbrev pub invariant-flags : goal.invariant-flags
invariant-flags l = l.row.items ≡ map (λ flag. has_flag l.set flag) (take l.i l.known)
