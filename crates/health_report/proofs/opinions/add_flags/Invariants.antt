use Rattle.std.{proofs.Common.{◌≡◌, drop}, specs.List.fold}
use Rattle.dir_values.specs.FlagSets.{with_flag}
use Rattle.health_report.proofs.opinions.add_flags.Given as goal

abbrev pub invariant-flags : goal.invariant-flags
invariant-flags l = fold with_flag l.words (drop l.i l.flags) ≡ fold with_flag l.fn.words l.flags
