use Rattle.std.{proofs.Common.{◌≡◌, drop}, specs.{Prelude.filter, List.fold}}
use Rattle.dir_values.specs.FlagSets.{with_flag, as_set}
use Rattle.field_votes.specs.Flags.{is_majority_flag}
use Rattle.field_votes.proofs.majorities.flags_of_most.Given as goal

abbrev pub invariant-flags : goal.invariant-flags
invariant-flags l =
    fold with_flag l.chosen (filter (is_majority_flag l.known l.set) (drop l.i l.listed)) ≡ as_set (filter (is_majority_flag l.known l.set) l.listed)
