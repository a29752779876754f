use Rattle.std.proofs.Common.{◌≡◌, drop}
use Rattle.vote_pool.specs.Pools.{descriptor_for}
use Rattle.serve_answers.proofs.relays.descriptor.Given as goal

abbrev pub invariant-descriptors : goal.invariant-descriptors
invariant-descriptors g l =
    descriptor_for (drop l.i l.pool.descriptors) l.relay ≡ descriptor_for l.pool.descriptors l.relay
