use Rattle.std.proofs.Common.{refl}
use Rattle.detached_doc.proofs.KeptDetached.{reads}
use Rattle.detached_doc.proofs.reading.read.Goals as goal

pub returns-in-Ok : goal.returns-in-Ok
returns-in-Ok c = (
  reads c.args.bytes.now c.nothing_kept-kept.result c.read_document.new.facts c.new-items.result c.in_ok-used.used
      c.in-Ok.detached c.new-items.ensures c.nothing_kept-kept.ensures c.in_ok-used.ensures.folds c.in-Ok.ensures,
  c.in_ok-used.ensures.within 0 1048576 c.args.bytes.now c.new-items.ensures refl,
)
