use Rattle.std.proofs.Common.{refl, ap, ◌∙◌}
use Rattle.serve_answers.{specs.Places.at_places, proofs.Placing.one_more_digest_answered}
use Rattle.serve_answers.proofs.micros.micros.Goals as goal

pub asked-preserved : goal.asked-preserved
asked-preserved g c =
    one_more_digest_answered c.args.pool.now.descriptors c.args.asked.now c.asked.digest-index _ _ _ c.asked.out.items
    c.push_micro.new.out.items c.asked-test.true refl
    (ap (at_places c.args.pool.now.descriptors) c.deref.ensures.value ∙ c.in_ok-places.ensures.value)
    c.asked.invariant c.in_ok-push_micro.ensures
