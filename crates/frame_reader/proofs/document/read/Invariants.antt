use Rattle.std.proofs.Common.{◌≡◌, length}
use Rattle.frame_terms.specs.Documents.{read_items, document_of, finish}
use Rattle.frame_reader.proofs.document.read.Given as goal

abbrev pub invariant-items : goal.invariant-items
invariant-items g l =
    finish g.K.Facts.with l.facts
    (read_items (g.F.Frame.tables l.frame) l.length l.reader.across l.reader.state l.items.fault l.items.items)
    ≡ finish g.K.Facts.with l.fn.facts (document_of (g.F.Frame.tables l.frame) l.length l.fn.items)

abbrev pub decreases-items : goal.decreases-items
decreases-items g l = length l.items.items
