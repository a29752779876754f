use Rattle.std.proofs.Common.{◌≤◌}
use Rattle.key_port.specs.Answers.{rules}
use Rattle.mirror_core.specs.States.{Mirrored}
use Rattle.mirror_daemon.specs.Keeping.{ComesOf}
use Rattle.mirror_daemon.proofs.round.ask_peers.Given as goal

abbrev pub invariant-peers : goal.invariant-peers
invariant-peers g l = record {
  came : (before : Mirrored) → ComesOf (rules g.V.Verifier.may_accept g.V.Verifier.may_refuse) before l.fn.mirror → ComesOf (rules g.V.Verifier.may_accept g.V.Verifier.may_refuse) before l.mirror;
  clock : g.C.Clock.asks l.fn.clock ≤ g.C.Clock.asks l.clock;
  verifier : g.V.Verifier.faults l.fn.verifier ≤ g.V.Verifier.faults l.verifier;
  link : g.L.Link.faults l.fn.link ≤ g.L.Link.faults l.link;
}
