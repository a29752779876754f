use Rattle.std.proofs.Common.{◌≤◌}
use Rattle.key_port.specs.Answers.{rules}
use Rattle.mirror_core.specs.States.{Mirrored}
use Rattle.mirror_daemon.specs.{Keeping.ComesOf, Lacking.lacking_count}
use Rattle.mirror_daemon.proofs.round.fetch_micros.Given as goal

abbrev pub invariant-batches : goal.invariant-batches
invariant-batches g l = record {
  came : (before : Mirrored) → ComesOf (rules g.V.Verifier.may_accept g.V.Verifier.may_refuse) before l.fn.mirror → ComesOf (rules g.V.Verifier.may_accept g.V.Verifier.may_refuse) before l.mirror;
  link : g.L.Link.faults l.fn.link ≤ g.L.Link.faults l.link;
}

abbrev pub decreases-batches : goal.decreases-batches
decreases-batches g l = lacking_count l.mirror
