use Rattle.authority_daemon.specs.Commands.{may}
use Rattle.headline.proofs.Saying as law
use Rattle.headline.proofs.majorities_fail_for_memory_alone.Goals as goal

pub returns : goal.returns
returns g c = law.fail_for_memory_alone _ _ _ _ _ _
    (may g.V.Verifier.may_accept g.V.Verifier.may_refuse g.N.Signer.may_give g.N.Signer.steps)
