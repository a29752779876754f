use Rattle.std.{proofs.Common.{◌≡◌, drop}, specs.List.fold}
use Rattle.dir_values.specs.FlagSets.{with_flag, as_set}
use Rattle.consensus_calc.specs.Picking.{picked_flags}
use Rattle.consensus_calc.proofs.setting.set_flags.Given as goal

abbrev pub invariant-flags : goal.invariant-flags
invariant-flags l = fold with_flag l.set (picked_flags l.part (drop l.i l.known) (drop l.i l.counts) (drop l.i l.needed)) ≡ as_set (picked_flags l.part l.known l.counts l.needed)
