use Rattle.std.proofs.Common.{◌≡◌, ◌++◌, drop}
use Rattle.detached_doc.specs.Saying.{digests_in}
use Rattle.detached_doc.proofs.said.push_digests.Given as goal

abbrev pub invariant-loop-one : goal.invariant-loop-one
invariant-loop-one l = l.out ++ digests_in (drop l.one-index l.taken) ≡ l.fn.out ++ digests_in l.taken
