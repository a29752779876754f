use Rattle.std.proofs.Common.{Ok, refl}
use Rattle.descriptor_doc.proofs.KeptDescriptors.{kept_is}
use Rattle.descriptor_doc.proofs.reading.keep.Goals as goal

pub returns : goal.returns
returns c = (
  kept_is c.args.limit c.args.bytes.now c.nothing_kept-kept.result c.new-items.result
      (Ok (c.read_document.new.facts, c.in_ok-end.end)) c.new-items.ensures c.nothing_kept-kept.ensures
      c.in_ok-end.ensures.folds,
  c.in_ok-end.ensures.within 0 c.args.limit c.args.bytes.now c.new-items.ensures refl,
)
