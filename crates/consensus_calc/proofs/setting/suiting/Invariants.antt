use Rattle.std.{proofs.Common.{◌≡◌, drop}, specs.{Prelude.filter, List.fold}}
use Rattle.dir_values.specs.FlagSets.{with_flag, as_set}
use Rattle.compute_terms.specs.RelayFlags.{suits_middle}
use Rattle.consensus_calc.proofs.setting.suiting.Given as goal

abbrev pub invariant-flags : goal.invariant-flags
invariant-flags l = fold with_flag l.after (filter suits_middle (drop l.i l.set)) ≡ as_set (filter suits_middle l.set)
