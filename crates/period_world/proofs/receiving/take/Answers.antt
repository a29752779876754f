use Rattle.period_world.proofs.Chains.{takes_vote, takes_moment, takes_signature}
use Rattle.period_world.proofs.receiving.take.Goals as goal

pub returns-in-Vote-clause-step : goal.returns-in-Vote-clause-step
returns-in-Vote-clause-step g c =
    takes_vote _ _ _ _ _ _ _ _ _ c.in-Vote.is c.vote.ensures.verified c.offer.ensures.answer c.offer.ensures.state

pub returns-in-Ok-clause-step : goal.returns-in-Ok-clause-step
returns-in-Ok-clause-step g c = takes_moment _ _ _ _ _ _ _ c.in-Moment.is c.in-Ok.ensures.step

pub returns-in-Signature-clause-step : goal.returns-in-Signature-clause-step
returns-in-Signature-clause-step g c =
    takes_signature _ _ _ _ _ _ _ c.in-Signature.is
    (record { accepted = c.signature.ensures.accepted; named = c.key_digest.ensures.named }) c.sign_in.ensures.answer
    c.sign_in.ensures.state
