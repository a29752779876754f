use Rattle.std.proofs.Common.{◌-◌, length}
use Rattle.bandwidth_file.proofs.Lineage.{IsReadTo}
use Rattle.bandwidth_file.proofs.reading.read.Given as goal

abbrev pub invariant-lines : goal.invariant-lines
invariant-lines l = IsReadTo l.bytes l.place l.reading

abbrev pub decreases-lines : goal.decreases-lines
decreases-lines l = length l.bytes - l.place
