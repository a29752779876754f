use Rattle.std.{proofs.Common.{◌≡◌, drop}, specs.List.fold}
use Rattle.compute_command.specs.Tails.{tail_with}
use Rattle.compute_command.proofs.tail.tail_after.Given as goal

abbrev pub invariant-bytes : goal.invariant-bytes
invariant-bytes l = fold tail_with l.tail (drop l.byte-index l.bytes) ≡ fold tail_with l.fn.tail l.bytes
