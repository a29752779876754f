use Rattle.authority_daemon.specs.{Commands.may, Moments.telling_of}
use Rattle.headline.proofs.Saying as law
use Rattle.headline.proofs.serve_says.Goals as goal

pub returns : goal.returns
returns g c =
    law.serve_says _ _ _ _ _ _
    (may g.V.Verifier.may_accept g.V.Verifier.may_refuse g.N.Signer.may_give g.N.Signer.steps)
    (telling_of g.C.Clock.last g.C.Clock.asks g.G.Gate.faults g.G.Gate.closed)
