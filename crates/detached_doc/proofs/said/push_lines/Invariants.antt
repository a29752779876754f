use Rattle.std.proofs.Common.{◌≡◌, ◌++◌, drop}
use Rattle.detached_doc.specs.Saying.{lines_in}
use Rattle.detached_doc.proofs.said.push_lines.Given as goal

abbrev pub invariant-loop-one : goal.invariant-loop-one
invariant-loop-one l = l.out ++ lines_in (drop l.one-index l.taken) ≡ l.fn.out ++ lines_in l.taken
