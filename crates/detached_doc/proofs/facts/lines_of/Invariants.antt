use Rattle.std.proofs.Common.{◌≡◌, map, take}
use Rattle.detached_doc.specs.Facts.{line_in}
use Rattle.detached_doc.proofs.facts.lines_of.Given as goal

abbrev pub invariant-loop-one : goal.invariant-loop-one
invariant-loop-one l = l.lines.items ≡ map (line_in l.bytes) (take l.one-index l.said)
