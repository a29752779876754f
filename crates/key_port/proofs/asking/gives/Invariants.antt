use Rattle.std.{proofs.Common.{◌≤◌, take}, specs.Io.KnownBytes.Consumes}
use Rattle.key_port.proofs.asking.gives.Given as goal

abbrev pub invariant-bytes : goal.invariant-bytes
invariant-bytes g l = record {
  taken : Consumes (g.S.Source.left l.fn.source) (g.S.Source.left l.source) (take l.byte-index l.wanted);
  faults : g.S.Source.faults l.fn.source ≤ g.S.Source.faults l.source;
}
