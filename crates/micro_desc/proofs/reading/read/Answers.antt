use Rattle.std.proofs.Common.{refl}
use Rattle.micro_desc.proofs.KeptMicros.{reads}
use Rattle.micro_desc.proofs.reading.read.Goals as goal

pub returns-in-Ok : goal.returns-in-Ok
returns-in-Ok c = (
  reads c.args.bytes.now c.head_of-head.result c.read_document.new.facts c.new-items.result c.in_ok-used.used
      c.in-Ok.micro c.new-items.ensures c.head_of-head.ensures c.in_ok-used.ensures.folds c.in-Ok.ensures,
  c.in_ok-used.ensures.within 0 65536 c.args.bytes.now c.new-items.ensures refl,
)
