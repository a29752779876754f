use Rattle.std.proofs.Common.{◌≡◌, map, take}
use Rattle.frame_values.specs.Parts.{part}
use Rattle.descriptor_doc.proofs.values.texts_of.Given as goal

abbrev pub invariant-loop-span : goal.invariant-loop-span
invariant-loop-span l = l.texts.items ≡ map (part l.bytes) (take l.span-index l.spans)
