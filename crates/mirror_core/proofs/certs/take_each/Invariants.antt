use Rattle.std.proofs.Common.{◌≡◌, ◌+◌, ◌<◌, ◌-◌, ◌^◌, length}
use Rattle.key_port.specs.Answers.{rules}
use Rattle.mirror_core.specs.{Answers.{CertTally, TakesEach, no_certs_yet}, Tallies.cert_total}
use Rattle.mirror_core.proofs.certs.take_each.Given as goal

-- what comes of those that are left, behind those so far, comes of all
abbrev pub invariant-certs : goal.invariant-certs
invariant-certs g l = record {
  takes : (after : CertTally)
      → TakesEach (rules g.V.Verifier.may_accept g.V.Verifier.may_refuse) l.fn.roster l.fn.now l.tally l.left.items after
      → TakesEach (rules g.V.Verifier.may_accept g.V.Verifier.may_refuse) l.fn.roster l.fn.now (no_certs_yet l.fn.certs.items) l.fn.new.items after;
  few : cert_total l.tally.report + length l.left.items < 2 ^ 32 - 1;
  faults : g.V.Verifier.faults l.verifier ≡ g.V.Verifier.faults l.fn.verifier;
}

abbrev pub decreases-certs : goal.decreases-certs
decreases-certs g l = length l.left.items
