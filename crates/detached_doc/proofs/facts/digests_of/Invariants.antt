use Rattle.std.proofs.Common.{◌≡◌, map, take}
use Rattle.detached_doc.specs.Facts.{digest_in}
use Rattle.detached_doc.proofs.facts.digests_of.Given as goal

abbrev pub invariant-loop-line : goal.invariant-loop-line
invariant-loop-line l = l.digests.items ≡ map (digest_in l.bytes) (take l.line-index l.lines)
