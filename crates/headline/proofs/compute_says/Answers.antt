use Rattle.authority_daemon.specs.Commands.{may}
use Rattle.headline.proofs.Saying as law
use Rattle.headline.proofs.compute_says.Goals as goal

pub returns : goal.returns
returns g c = law.compute_says _ _ _ _ _ _
    (may g.V.Verifier.may_accept g.V.Verifier.may_refuse g.N.Signer.may_give g.N.Signer.steps)
