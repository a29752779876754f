use Rattle.std.proofs.Common.{◌+◌, ◌≤◌, ◌∙◌, take, subst, sym, inl, inr, arith}
use Rattle.key_port.specs.Answers.{rules}
use Rattle.detached_sigs.{specs.Signers.CountsSigners, proofs.counting.counted.Goals.{in-Yes, in-No}}
use Rattle.detached_sigs.proofs.{Signing.{counts_signer, counts_other}, Asking.{asked_next, fails_at}}
use Rattle.detached_sigs.proofs.counting.counted.Goals as goal

pub returns-in-Fault-clause-failed : goal.returns-in-Fault-clause-failed
returns-in-Fault-clause-failed g c =
    fails_at g.V.Verifier.steps c.args.digest.now c.args.lines.now c.args.keys.now c.keys.key-index c.key-item.result
    _ _ _ c.keys-test.true c.key-item.is c.keys.invariant.asked c.in-Fault.ensures.asked

pub keys-preserved : goal.keys-preserved
keys-preserved g c =
    let rules = rules g.V.Verifier.may_accept g.V.Verifier.may_refuse in
    let keys = c.args.keys.now in
    let i = c.keys.key-index in
    let lines = c.args.lines.now in
    let digest = c.args.digest.now in
    record {
      counted = elim c.match-signs.branch [
        | in-Yes w ↦ subst (λ n. CountsSigners rules digest (take (i + 1) keys) lines n) (sym w.count-is)
            (counts_signer rules digest keys i c.key-item.result lines c.keys.count c.keys-test.true c.key-item.is
            c.requires.apart c.keys.invariant.counted w.in-Yes.ensures.answer)
        | in-No w ↦ subst (λ n. CountsSigners rules digest (take (i + 1) keys) lines n) (sym w.count-is)
            (counts_other rules digest keys i c.key-item.result lines c.keys.count c.keys-test.true c.key-item.is
            c.keys.invariant.counted w.in-No.ensures.answer)
      ];
      few = elim c.match-signs.branch [
        | in-Yes w ↦ omega (arith, w.count-is, c.keys.invariant.few)
        | in-No w ↦ omega (arith, w.count-is, c.keys.invariant.few)
      ];
      faults = elim c.match-signs.branch [
        | in-Yes w ↦ w.in-Yes.ensures.cause ∙ c.keys.invariant.faults
        | in-No w ↦ w.in-No.ensures.cause ∙ c.keys.invariant.faults
      ];
      asked = elim c.match-signs.branch [
        | in-Yes w ↦ asked_next g.V.Verifier.steps digest lines keys i c.key-item.result _ _ _ c.keys-test.true
            c.key-item.is c.keys.invariant.asked (inl w.in-Yes.ensures.asked)
        | in-No w ↦ asked_next g.V.Verifier.steps digest lines keys i c.key-item.result _ _ _ c.keys-test.true
            c.key-item.is c.keys.invariant.asked (inr w.in-No.ensures.asked)
      ];
    }
