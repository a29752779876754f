-- The descriptors ascend still, and are few enough.
use Rattle.std.proofs.Common.{rules}
use Rattle.vote_pool.proofs.Placing.{after_ascends}
use Rattle.vote_pool.proofs.pool.Pool.keep.Goals as goal

pub invariant_of-self : goal.invariant_of-self
invariant_of-self g c =
    let up = after_ascends c.self.inside.entries.items c.args.entry c.put-answer.result c.self.invariant.ascend in
    record {
      ascend = rw c.put-answer.ensures.entries up;
      few = search rules;
      room = c.put-answer.ensures.room;
    }
