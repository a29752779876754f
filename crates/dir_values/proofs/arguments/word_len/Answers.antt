use Rattle.std.proofs.Common.{sym}
use Rattle.dir_values.proofs.FirstBlank.{before_found, before_none}
use Rattle.item_terms.specs.Words.{is_blank}
use Rattle.dir_values.proofs.arguments.word_len.Goals as goal

pub returns-in-Some-clause-count : goal.returns-in-Some-clause-count
returns-in-Some-clause-count c = sym (before_found is_blank c.args.text.now c.in-Some.count c.in-Some.ensures)

pub returns-in-None-clause-count : goal.returns-in-None-clause-count
returns-in-None-clause-count c = sym (before_none is_blank c.args.text.now c.in-None.ensures)
