use Rattle.std.proofs.Common.{◌-◌, length}
use Rattle.bandwidth_file.proofs.Passing.{IsPassed}
use Rattle.bandwidth_file.proofs.ends.end_place.Given as goal

abbrev pub invariant-lines : goal.invariant-lines
invariant-lines l = IsPassed l.bytes l.place

abbrev pub decreases-lines : goal.decreases-lines
decreases-lines l = length l.bytes - l.place
