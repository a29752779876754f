use Rattle.period_world.proofs.Chains.{one_more_arrival_taken, all_taken}
use Rattle.period_world.proofs.receiving.take_all.Goals as goal

pub coming-preserved : goal.coming-preserved
coming-preserved g c =
    one_more_arrival_taken _ _ _ _ _ _ _ _ _ _ _ _ c.coming.invariant c.in-Some.ensures.items c.in_ok-take.ensures.step
    c.in_ok-push.ensures.items

pub returns : goal.returns
returns g c = all_taken _ _ _ _ _ _ _ _ c.coming.invariant c.in_default.ensures.items c.in_default.ensures.rest
