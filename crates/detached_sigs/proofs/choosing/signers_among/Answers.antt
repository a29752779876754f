use Rattle.std.proofs.Common.{◌≡◌, ◌<◌, ◌∙◌, length, get_or, true, subst, arith, rules}
use Rattle.key_port.specs.Answers.{rules as verifier_rules}
use Rattle.detached_sigs.specs.{declared.key.SignerKey.SignerKey, Signers.{has_good_line, has_bad_lines}}
use Rattle.detached_sigs.proofs.LeftOut.{one_signs, one_signs_not}
use Rattle.detached_sigs.proofs.choosing.signers_among.Goals as goal

pub keys-preserved-in-Yes : goal.keys-preserved-in-Yes
keys-preserved-in-Yes g c =
    let checks = verifier_rules g.V.Verifier.may_accept g.V.Verifier.may_refuse in
    let lt : c.keys.number < length c.keys.found.items = search rules in
    let key : c.index.result.now ≡ get_or c.keys.found.items c.keys.number c.index.result.now = search rules in
    record {
      signers = one_signs checks c.args.digest.now c.args.lines.now c.args.keys.items c.keys.found.items c.keys.number
          c.index.result.now lt c.requires.apart c.keys.invariant.signers
          (subst (λ (k : SignerKey). has_good_line checks c.args.digest.now c.args.lines.now k ≡ true) key c.in-Yes.ensures.answer);
      within = omega (arith, lt);
      faults = c.in-Yes.ensures.cause ∙ c.keys.invariant.faults;
    }

pub keys-preserved : goal.keys-preserved
keys-preserved g c =
    let checks = verifier_rules g.V.Verifier.may_accept g.V.Verifier.may_refuse in
    let lt : c.keys.number < length c.keys.found.items = search rules in
    let key : c.index.result.now ≡ get_or c.keys.found.items c.keys.number c.index.result.now = search rules in
    record {
      signers = one_signs_not checks c.args.digest.now c.args.lines.now c.args.keys.items c.keys.found.items c.remove.new.self.items
          c.keys.number c.index.result.now lt c.remove.ensures.items c.keys.invariant.signers
          (subst (λ (k : SignerKey). has_bad_lines checks c.args.digest.now c.args.lines.now k ≡ true) key c.in-No.ensures.answer);
      within = search rules;
      faults = c.in-No.ensures.cause ∙ c.keys.invariant.faults;
    }
