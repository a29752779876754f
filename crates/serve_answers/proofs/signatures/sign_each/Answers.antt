use Rattle.std.{proofs.Common.{◌∙◌, ap}, specs.Int.from_bool}
use Rattle.key_port.specs.Answers.{Rules, rules}
use Rattle.period_terms.specs.declared.{answer.Answer.TheVariants.Signature, event.Event.TheVariants.SignedIn}
use Rattle.serve_board.proofs.Going.{goes_makes, goes_on}
use Rattle.serve_answers.{specs.Handling.is_held, proofs.HeldSigns.{few_more, signs_more}}
use Rattle.serve_answers.proofs.signatures.sign_each.Goals as goal

pub signatures-preserved : goal.signatures-preserved
signatures-preserved g c =
    let rules : Rules = rules g.V.Verifier.may_accept g.V.Verifier.may_refuse in
    let inv = c.signatures.invariant in
    let signature = c.in-Some.signature in
    let makes = c.sign_in.ensures.event in
    let more = c.from-held.ensures ∙ ap from_bool c.is_held.ensures in
    record {
      signs =
          signs_more rules c.args.board.now c.args.pass.now c.signatures.pass c.sign_in.new.pass c.signatures.yielded
          signature c.sign_in.result c.signatures.held c.from-held.result inv.signs makes more;
      at = c.sign_in.ensures.at;
      goes =
          goes_on c.args.pass.now c.signatures.pass c.sign_in.new.pass inv.goes
          (goes_makes rules c.args.board.now c.signatures.pass c.sign_in.new.pass (SignedIn signature)
          (Signature c.sign_in.result) makes);
      few =
          few_more (is_held c.sign_in.result) c.signatures.held c.from-held.result c.signatures.yielded signature
          inv.few more;
    }
