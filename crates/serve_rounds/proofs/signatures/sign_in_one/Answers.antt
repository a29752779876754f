use Rattle.std.proofs.Common.{refl}
use Rattle.key_port.specs.Answers as keys
use Rattle.period_terms.specs.declared.{answer.Answer.TheVariants.Signature, event.Event.TheVariants.SignedIn}
use Rattle.serve_rounds.{specs.{Duties.IsGathered, Spans.Anywhere}, proofs.Adding.{adds_makes, entry_kind}}
use Rattle.serve_rounds.proofs.Lasting.{anywhere_lasts}
use Rattle.serve_rounds.proofs.signatures.sign_in_one.Goals as goal

pub returns-clause-adds : goal.returns-clause-adds
returns-clause-adds g c = λ a adds.
    let its = keys.rules g.V.Verifier.may_accept g.V.Verifier.may_refuse in
    let P = IsGathered its in
    adds_makes (Anywhere P) (anywhere_lasts P) its c.args.board.now a c.args.pass.now c.sign_in.new.pass adds
    (SignedIn c.args.signature) (Signature c.sign_in.result)
    (entry_kind P (SignedIn c.args.signature) (Signature c.sign_in.result) (record {
      signature = c.args.signature;
      event = refl;
      accepted =
          record { accepted = c.signature-accepted.ensures.accepted; named = c.key_digest-named.ensures.named };
    }))
    c.sign_in.ensures.event
