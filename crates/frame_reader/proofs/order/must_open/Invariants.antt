use Rattle.std.proofs.Common.{◌≡◌, drop}
use Rattle.frame_terms.specs.Order.{must_open}
use Rattle.frame_reader.proofs.order.must_open.Given as goal

abbrev pub invariant-loop-section : goal.invariant-loop-section
invariant-loop-section g l =
    must_open (g.F.Frame.tables l.frame) (drop l.section-index l.list) ≡ must_open (g.F.Frame.tables l.frame) l.list
