use Rattle.std.proofs.Common.{ℕ, ◌≤◌, ◌<◌, ◌+◌, slice_index}
use Rattle.dir_bytes.proofs.memory_source.room_before_cut.Given as goal

abbrev pub invariant-loop-cut : goal.invariant-loop-cut
invariant-loop-cut l = record {
  within : l.room ≤ l.fn.room;
  some : 0 < l.fn.room → 0 < l.room;
  cuts : (k : ℕ) → k < l.cut-index → l.place < slice_index l.cuts k → l.place + l.room ≤ slice_index l.cuts k;
}
