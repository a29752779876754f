use Rattle.list_values.proofs.Bits.{range_bits}
use Rattle.list_values.proofs.mask.mask_of.Goals as goal

pub returns : goal.returns
returns c = λ number lt. range_bits c.args.range.low c.args.range.high number c.requires.order c.requires.small lt
