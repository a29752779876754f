use Rattle.std.proofs.Common.{◌≡◌, drop}
use Rattle.frame_terms.specs.Order.{passed_over}
use Rattle.frame_reader.proofs.order.passed_over.Given as goal

abbrev pub invariant-loop-section : goal.invariant-loop-section
invariant-loop-section g l =
    passed_over (g.F.Frame.tables l.frame) l.keyword (drop l.section-index l.list) ≡ passed_over
    (g.F.Frame.tables l.frame) l.keyword l.list
