use Rattle.std.proofs.Common.{◌≡◌, ◌++◌, map, take}
use Rattle.detached_doc.specs.Held.{over_micro}
use Rattle.detached_doc.proofs.held.push_micro.Given as goal

abbrev pub invariant-lines : goal.invariant-lines
invariant-lines l = l.out ≡ l.fn.out ++ map over_micro (take l.line-index l.lines)
