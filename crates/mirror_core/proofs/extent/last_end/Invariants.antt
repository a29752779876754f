use Rattle.std.proofs.Common.{◌≡◌, length}
use Rattle.mirror_core.specs.Extent.{end_in, end_of}
use Rattle.mirror_core.proofs.extent.last_end.Given as goal

-- the end by what is left, behind the signatures so far, is that by all
abbrev pub invariant-items : goal.invariant-items
invariant-items l = end_in (length l.bytes) l.end l.items ≡ end_of l.fn.bytes

abbrev pub decreases-items : goal.decreases-items
decreases-items l = length l.items.items
