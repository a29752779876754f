-- What is to be published.
use Rattle.period_terms.specs.declared.answer.Advance.TheVariants as answer
use Rattle.period_terms.specs.declared.state.State.{State}
use Rattle.period_terms.specs.Advances as advances
use Rattle.period_core.specs.{declared.publishing.Due.{Due, TheVariants.{Nothing, Misses, Texts}}, Rounds.with_texts}
use Rattle.period_core.specs.Signing.{Comes}

-- this is what the begin of the period comes to
abbrev pub Publishes : State → Due → Type 0
Publishes s Nothing = Comes (advances.with_consensus s (advances.publish s) s.computed) answer.Nothing s
Publishes s (Misses ns microdesc roster) = Comes (advances.with_consensus s (advances.publish s) s.computed)
    (answer.Missed ns microdesc roster) (advances.miss s).after
Publishes s (Texts ns_passes ns micro_passes microdesc digests) =
    Comes (advances.with_consensus s (advances.publish s) s.computed) (answer.Published ns_passes micro_passes)
    (with_texts ns microdesc digests s)
