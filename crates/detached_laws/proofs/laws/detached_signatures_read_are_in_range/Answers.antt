use Rattle.detached_laws.proofs.DetachedRange.{detached_in_range}
use Rattle.detached_laws.proofs.laws.detached_signatures_read_are_in_range.Goals as goal

pub returns : goal.returns
returns c = detached_in_range
