use Rattle.std.proofs.Common.{◌≡◌, ◌++◌, map, take}
use Rattle.detached_doc.specs.Held.{over_ns}
use Rattle.detached_doc.proofs.held.push_ns.Given as goal

abbrev pub invariant-lines : goal.invariant-lines
invariant-lines l = l.out ≡ l.fn.out ++ map over_ns (take l.line-index l.lines)
