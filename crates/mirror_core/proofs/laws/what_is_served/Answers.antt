use Rattle.mirror_core.proofs.MirrorLaws.{served}
use Rattle.mirror_core.proofs.laws.what_is_served.Goals as goal

pub returns : goal.returns
returns c = served
