use Rattle.std.proofs.Common.{not, sym, ap, ◌∙◌, subst}
use Rattle.dir_values.{specs.{WordSets.words_in, FlagSets.Ascend}, proofs.{Flags.Ascend-with_flag, WordSets.words_with}}
use Rattle.dir_values.proofs.WordSets.{words_have}
use Rattle.dir_values.proofs.word_set.WordSet.insert.Goals as goal

pub returns-clause-added : goal.returns-clause-added
returns-clause-added c = rw (← c.self.view_is) (c.in_ok-insert.ensures.added ∙ ap not (words_have c.self.inside.words.keys c.args.word))

pub returns-clause-ok : goal.returns-clause-ok
returns-clause-ok c = rw (← c.self.view_is) (ap words_in c.in_ok-insert.ensures.keys ∙ words_with c.self.inside.words.keys c.args.word)

pub invariant_of-self-2 : goal.invariant_of-self-2
invariant_of-self-2 c =
    let keys = c.self.inside.words.keys in
    subst Ascend (sym (ap words_in c.in_ok-insert.ensures.keys ∙ words_with keys c.args.word)) (Ascend-with_flag (words_in keys) c.args.word.now c.self.invariant)
