use Rattle.std.proofs.Common.{◌≡◌, drop}
use Rattle.dir_values.specs.FlagSets.{has_flag}
use Rattle.consensus_calc.proofs.marks.place_of.Given as goal

abbrev pub invariant-flags : goal.invariant-flags
invariant-flags l = has_flag (drop l.i l.known) l.word ≡ has_flag l.known l.word
