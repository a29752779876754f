use Rattle.std.proofs.Common.{◌≡◌, ◌≤◌, take}
use Rattle.key_port.specs.Answers.{rules}
use Rattle.detached_sigs.specs.{Signers.CountsSigners, Questions.AsksOfKeys}
use Rattle.detached_sigs.proofs.counting.counted.Given as goal

-- the signers among the keys so far are counted, and the verifier did not fail
abbrev pub invariant-keys : goal.invariant-keys
invariant-keys g l = record {
  counted : CountsSigners (rules g.V.Verifier.may_accept g.V.Verifier.may_refuse) l.fn.digest
      (take l.key-index l.fn.keys) l.fn.lines l.count;
  few : l.count ≤ l.key-index;
  faults : g.V.Verifier.faults l.verifier ≡ g.V.Verifier.faults l.fn.verifier;
  asked : AsksOfKeys g.V.Verifier.steps l.fn.digest l.fn.lines (take l.key-index l.fn.keys) l.fn.verifier l.verifier;
}
