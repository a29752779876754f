use Rattle.std.proofs.Common.{◌≡◌, ◌≤◌, ◌-◌, length}
use Rattle.key_port.specs.Answers.{rules}
use Rattle.detached_sigs.proofs.LeftOut.{AreSoFar}
use Rattle.detached_sigs.proofs.choosing.signers_among.Given as goal

-- the signers among the keys so far stand in front, and the verifier did not fail
abbrev pub invariant-keys : goal.invariant-keys
invariant-keys g l = record {
  signers : AreSoFar (rules g.V.Verifier.may_accept g.V.Verifier.may_refuse) l.fn.digest l.fn.lines l.fn.keys.items l.found.items l.number;
  within : l.number ≤ length l.found.items;
  faults : g.V.Verifier.faults l.verifier ≡ g.V.Verifier.faults l.fn.verifier;
}

abbrev pub decreases-keys : goal.decreases-keys
decreases-keys g l = length l.found.items - l.number
