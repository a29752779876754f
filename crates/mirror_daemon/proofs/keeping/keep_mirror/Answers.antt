use Rattle.key_port.specs.Answers.{rules}
use Rattle.mirror_daemon.proofs.Comings.{comes_itself}
use Rattle.mirror_daemon.proofs.keeping.keep_mirror.Goals as goal

pub returns-clause-came : goal.returns-clause-came
returns-clause-came g c =
    c.serve_gate-end.ensures.comes (record c.serve_gate-end.new.clerk { mirror = c.args.mirror })
    (comes_itself (rules g.V.Verifier.may_accept g.V.Verifier.may_refuse) c.args.mirror)
