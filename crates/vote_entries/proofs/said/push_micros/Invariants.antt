use Rattle.std.proofs.Common.{◌≡◌, ◌≤◌, ◌++◌, drop, length, take}
use Rattle.vote_entries.specs.Saying.{micros_in}
use Rattle.vote_entries.proofs.said.push_micros.Given as goal

abbrev pub invariant-loop-one : goal.invariant-loop-one
invariant-loop-one l = record {
  same : l.out.items ++ micros_in (drop l.one-index l.taken) ≡ l.fn.out.items ++ micros_in l.taken;
  front : take (length l.fn.out.items) l.out.items ≡ l.fn.out.items;
  grown : length l.fn.out.items ≤ length l.out.items;
}
