use Rattle.std.proofs.Common.{◌≡◌, ◌++◌, drop, take, vec_len}
use Rattle.dirdoc_grammar.specs.Writing.{items_text}
use Rattle.vote_text.specs.Entries.{entries_items}
use Rattle.vote_text.proofs.entry.push_entries.Given as goal

abbrev pub invariant-entries : goal.invariant-entries
invariant-entries l = record {
  text : l.out.items ++ items_text (entries_items (drop l.entry-index l.entries)) ≡ l.fn.out.items ++ items_text (entries_items l.entries);
  front : take (vec_len l.fn.out) l.out.items ≡ l.fn.out.items;
}
