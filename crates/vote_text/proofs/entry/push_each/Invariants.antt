use Rattle.std.proofs.Common.{◌≡◌, ◌++◌, drop, take, vec_len}
use Rattle.dirdoc_grammar.specs.Writing.{items_text}
use Rattle.vote_text.specs.Entries.{items_each}
use Rattle.vote_text.proofs.entry.push_each.Given as goal

abbrev pub invariant-texts : goal.invariant-texts
invariant-texts l = record {
  text : l.out.items ++ items_text (items_each l.keyword (drop l.text-index l.list)) ≡ l.fn.out.items ++ items_text (items_each l.keyword l.list);
  front : take (vec_len l.fn.out) l.out.items ≡ l.fn.out.items;
}
