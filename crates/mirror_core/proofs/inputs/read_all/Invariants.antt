use Rattle.std.proofs.Common.{◌≤◌, ◌-◌, length}
use Rattle.mirror_core.specs.Inputs.{Stand}
use Rattle.mirror_core.proofs.inputs.read_all.Given as goal

-- those so far stand one behind the other
abbrev pub invariant-documents : goal.invariant-documents
invariant-documents g l = record {
  stand : Stand g.K.Kind.document_of l.bytes 0 l.all.items l.place;
  within : l.place ≤ length l.bytes;
  few : length l.all.items ≤ l.place;
}

abbrev pub decreases-documents : goal.decreases-documents
decreases-documents g l = length l.bytes - l.place
