use Rattle.std.proofs.Common.{rules, ◌+◌, length, sym, ◌∙◌}
use Rattle.dir_values.proofs.ArgumentSteps.{none_left, one_taken}
use Rattle.dir_values.proofs.arguments.Arguments.next.Goals as goal

pub returns-then-is_empty-clause-taken : goal.returns-then-is_empty-clause-taken
returns-then-is_empty-clause-taken c =
    let blanks = c.split_at.ensures in
    let word = c.split_at-2.ensures in
    let left = none_left c.self.inside.place (c.self.inside.place + length c.split_at.result.0.now + length c.split_at-2.result.0.now) c.blanks.result c.word_len.result
    c.self.inside.text.now c.split_at.result.1.now c.split_at-2.result.0.now c.split_at-2.result.1.now
    c.blanks.ensures.count blanks.back c.word_len.ensures.count word.front_len word.back (search rules) in
    (sym c.self.view_is ∙ left.0, left.1)

pub returns-clause-taken : goal.returns-clause-taken
returns-clause-taken c =
    let blanks = c.split_at.ensures in
    let word = c.split_at-2.ensures in
    sym c.self.view_is
    ∙ one_taken c.self.inside.place c.blanks.result c.word_len.result c.self.inside.text.now c.split_at.result.0.now c.split_at.result.1.now c.split_at-2.result.0.now
    c.split_at-2.result.1.now c.blanks.ensures.count blanks.front_len blanks.back c.word_len.ensures.count word.front word.front_len word.back (search rules)
