use Rattle.mirror_core.{specs.States.no_mirror, proofs.MirrorLaws.{all_called, nothing}}
use Rattle.mirror_core.proofs.laws.what_is_held.Goals as goal

pub returns : goal.returns
returns c = λ rules roster mirrors calls. all_called rules (no_mirror roster) mirrors (nothing rules roster) calls
