use Rattle.std.proofs.Common.{◌≡◌, ◌++◌, drop, take, vec_len}
use Rattle.dirdoc_grammar.specs.Writing.{items_text}
use Rattle.vote_text.specs.Entries.{micro_items}
use Rattle.vote_text.proofs.entry.push_micros.Given as goal

abbrev pub invariant-lines : goal.invariant-lines
invariant-lines l = record {
  text : l.out.items ++ items_text (micro_items (drop l.line-index l.lines)) ≡ l.fn.out.items ++ items_text (micro_items l.lines);
  front : take (vec_len l.fn.out) l.out.items ≡ l.fn.out.items;
}
