use Rattle.std.proofs.Common.{◌∙◌}
use Rattle.mirror_serve.proofs.OneMore.{one_more_digest_given}
use Rattle.mirror_serve.proofs.giving.micros.Goals as goal

pub digests-preserved : goal.digests-preserved
digests-preserved g c =
    c.in_ok-push_micro.ensures
    ∙ one_more_digest_given c.args.mirror.now c.args.digests.now c.digests.digest-index _ c.digests.out.items c.digests-test.true
    c.digests.invariant
