use Rattle.std.{proofs.Common.{◌≡◌, ◌+◌, vec_len}, specs.Io.KnownBytes.Consumes}
use Rattle.dir_bytes.proofs.reading.read_all.Given as goal

abbrev pub invariant-pieces : goal.invariant-pieces
invariant-pieces g l = record {
  taken : Consumes (g.S.Source.left l.fn.source) (g.S.Source.left l.source) l.bytes.items;
  length : l.room + vec_len l.bytes ≡ l.limit;
  faults : g.S.Source.faults l.source ≡ g.S.Source.faults l.fn.source;
}

abbrev pub decreases-pieces : goal.decreases-pieces
decreases-pieces g l = l.room
