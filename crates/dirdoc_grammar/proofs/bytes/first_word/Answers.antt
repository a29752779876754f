use Rattle.std.proofs.Common.{sym, ◌∙◌}
use Rattle.dirdoc_grammar.proofs.FirstWord.{no_word, one_word}
use Rattle.dirdoc_grammar.proofs.bytes.first_word.Goals as goal

pub returns-then-is_empty : goal.returns-then-is_empty
returns-then-is_empty c = no_word c.front_blanks.result c.args.text.now c.front_blanks.ensures.count (sym c.is_empty.ensures ∙ c.if-is_empty.true)

pub returns : goal.returns
returns c =
    one_word c.front_blanks.result c.word_len.result c.args.text.now c.split_at.result.0.now c.split_at.result.1.now c.front_blanks.ensures.count
    (sym c.is_empty.ensures ∙ c.if-is_empty.false) c.word_len.ensures.count c.split_at.ensures.front c.split_at.ensures.back
