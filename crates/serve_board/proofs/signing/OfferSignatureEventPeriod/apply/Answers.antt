use Rattle.std.proofs.Common.{◌≡◌, Some, sym, ap, ◌∙◌}
use Rattle.key_port.specs.Answers.{Rules, rules}
use Rattle.period_terms.specs.declared.{answer.Answer.TheVariants.Signature, event.Event.TheVariants.SignedIn}
use Rattle.serve_board.proofs.PeriodStates.{steps_there, stands_more}
use Rattle.serve_board.proofs.signing.OfferSignatureEventPeriod.apply.Goals as goal

pub returns-in-Some-clause-answer : goal.returns-in-Some-clause-answer
returns-in-Some-clause-answer g c =
    let rules : Rules = rules g.V.Verifier.may_accept g.V.Verifier.may_refuse in
    rw (sym c.take.ensures.value ∙ c.in-Some.is) (λ start story stands.
    steps_there rules _ start story (SignedIn _) (Signature _) stands
    (record { accepted = c.signature.ensures.accepted; named = c.key_digest.ensures.named })
    (ap Signature c.sign_in.ensures.answer))

pub returns-in-Some-clause-story : goal.returns-in-Some-clause-story
returns-in-Some-clause-story g c =
    let rules : Rules = rules g.V.Verifier.may_accept g.V.Verifier.may_refuse in
    rw (sym c.take.ensures.value ∙ c.in-Some.is) (λ start story stands.
    stands_more rules _ _ start story (SignedIn _) (Signature _) stands
    (record { accepted = c.signature.ensures.accepted; named = c.key_digest.ensures.named })
    (ap Signature c.sign_in.ensures.answer) c.sign_in.ensures.state)
