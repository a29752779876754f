use Rattle.std.{proofs.Common.{◌≡◌, drop}, specs.{Prelude.filter, List.fold}}
use Rattle.dir_values.specs.FlagSets.{with_flag, as_set}
use Rattle.field_votes.specs.Flags.{suits_middle}
use Rattle.field_votes.proofs.majorities.middle_flags.Given as goal

abbrev pub invariant-flags : goal.invariant-flags
invariant-flags l = fold with_flag l.left (filter suits_middle (drop l.i l.chosen)) ≡ as_set (filter suits_middle l.chosen)
