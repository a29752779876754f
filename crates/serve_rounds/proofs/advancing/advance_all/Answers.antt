use Rattle.std.proofs.{Common.arith, lemmas.Bool.false≢true}
use Rattle.key_port.specs.Answers.{rules}
use Rattle.serve_rounds.{specs.Duties.IsAdvance, proofs.{Adding.adds_same, Exchanges.{signed_later, signed_on}}}
use Rattle.serve_rounds.proofs.advancing.advance_all.Goals as goal

pub steps-init : goal.steps-init
steps-init g c = record {
  can = tt;
  finite = tt;
  at = c.requires.at;
  adds = adds_same (IsAdvance g.N.Signer.may_give (rules g.V.Verifier.may_accept g.V.Verifier.may_refuse)
      c.args.board.now c.args.now) c.args.pass.now;
  signed = λ is. absurd (false≢true is);
  signer = omega arith;
  verifier = omega arith;
}

pub steps-preserved : goal.steps-preserved
steps-preserved g c =
    let P = IsAdvance g.N.Signer.may_give (rules g.V.Verifier.may_accept g.V.Verifier.may_refuse) c.args.board.now
    c.args.now in
    let then = c.advance_once-answer.new.pass in
    let on = (c.advance_once-answer.ensures.adds c.steps.pass (adds_same P c.steps.pass)).goes in
    record {
      can = tt;
      finite = tt;
      at = c.advance_once-answer.ensures.at;
      adds = c.advance_once-answer.ensures.adds c.args.pass.now c.steps.invariant.adds;
      signed = λ is. signed_on c.args.pass.now c.steps.pass then c.steps.signed _ c.steps.invariant.adds.goes on
          c.steps.invariant.signed c.advance_once-answer.ensures.signed (c.signed_after-signed.ensures is);
      signer = omega (arith, c.steps.invariant.signer, c.advance_once-answer.ensures.signer_faults);
      verifier = omega (arith, c.steps.invariant.verifier, c.advance_once-answer.ensures.verifier_faults);
    }

pub returns-then-settles-clause-signed : goal.returns-then-settles-clause-signed
returns-then-settles-clause-signed g c = λ is.
    let P = IsAdvance g.N.Signer.may_give (rules g.V.Verifier.may_accept g.V.Verifier.may_refuse) c.args.board.now
    c.args.now in
    signed_later c.args.pass.now c.steps.pass c.advance_once-answer.new.pass
    (c.advance_once-answer.ensures.adds c.steps.pass (adds_same P c.steps.pass)).goes (c.steps.invariant.signed is)
