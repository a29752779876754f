use Rattle.std.{proofs.Common.{◌≡◌, take}, specs.List.fold}
use Rattle.dir_values.specs.FlagSets.{with_flag}
use Rattle.dir_values.proofs.word_set.WordSet.insert_all.Given as goal

abbrev pub invariant-flags : goal.invariant-flags
invariant-flags l = l.self ≡ fold with_flag l.fn.self (take l.flag-index l.flags)
