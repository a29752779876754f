use Rattle.std.proofs.Common.{◌≡◌, Some, sym, ap, ◌∙◌}
use Rattle.key_port.specs.Answers.{Rules, rules}
use Rattle.period_terms.specs.declared.{answer.Answer.TheVariants.Vote, event.Event.TheVariants.Offered}
use Rattle.serve_board.proofs.PeriodStates.{steps_there, stands_more}
use Rattle.serve_board.proofs.voting.OfferVoteEventPeriod.apply.Goals as goal

pub returns-in-Some-clause-answer : goal.returns-in-Some-clause-answer
returns-in-Some-clause-answer g c =
    let rules : Rules = rules g.V.Verifier.may_accept g.V.Verifier.may_refuse in
    rw (sym c.take.ensures.value ∙ c.in-Some.is) (λ start story stands.
    steps_there rules _ start story (Offered _ _ _) (Vote _) stands c.vote.ensures.verified
    (ap Vote c.offer.ensures.answer))

pub returns-in-Some-clause-story : goal.returns-in-Some-clause-story
returns-in-Some-clause-story g c =
    let rules : Rules = rules g.V.Verifier.may_accept g.V.Verifier.may_refuse in
    rw (sym c.take.ensures.value ∙ c.in-Some.is) (λ start story stands.
    stands_more rules _ _ start story (Offered _ _ _) (Vote _) stands c.vote.ensures.verified
    (ap Vote c.offer.ensures.answer) c.offer.ensures.state)
