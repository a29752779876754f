use Rattle.std.{proofs.Common.{◌≤◌, take}, specs.{List.flat_map, Io.KnownBytes.Appends}}
use Rattle.exit_status.proofs.parts.write_parts.Given as goal

abbrev pub invariant-loop-part : goal.invariant-loop-part
invariant-loop-part g l = record {
  written : Appends (g.E.Sink.written l.fn.errors) (g.E.Sink.written l.errors) (flat_map (λ part. part.now) (take l.part-index l.parts));
  faults : g.E.Sink.faults l.fn.errors ≤ g.E.Sink.faults l.errors;
}
