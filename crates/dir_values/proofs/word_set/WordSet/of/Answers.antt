use Rattle.std.{proofs.Common.{◌∙◌, ap}, specs.List.fold}
use Rattle.dir_values.{specs.FlagSets.with_flag, proofs.SetsAlone.set_of_ascending}
use Rattle.dir_values.proofs.word_set.WordSet.of.Goals as goal

pub returns : goal.returns
returns c =
    c.in_ok-insert_all.ensures.ok
    ∙ ap (λ set. fold with_flag set c.args.flags.now) c.new-set.ensures
    ∙ set_of_ascending c.args.flags.now c.requires
