use Rattle.authority_daemon.{specs.{Commands.may, Moments.telling_of}, proofs.Choosing.run_completes}
use Rattle.authority_daemon.proofs.program.run.Goals as goal

pub returns-clause-complete : goal.returns-clause-complete
returns-clause-complete g c =
    run_completes (may g.V.Verifier.may_accept g.V.Verifier.may_refuse g.N.Signer.may_give g.N.Signer.steps)
    (telling_of g.C.Clock.last g.C.Clock.asks g.G.Gate.faults g.G.Gate.closed) _ _ c.run_command-status.result _
    c.run_command-status.ensures.run
