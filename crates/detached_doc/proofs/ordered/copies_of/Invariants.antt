use Rattle.std.proofs.Common.{◌≡◌, take}
use Rattle.detached_doc.proofs.ordered.copies_of.Given as goal

abbrev pub invariant-lines : goal.invariant-lines
invariant-lines l = l.copies.items ≡ take l.line-index l.lines
