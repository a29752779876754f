use Rattle.std.proofs.{Common.{rules, sym, arith}, lemmas.List.Sorted.IsPartitionPoint-from_clause}
use Rattle.dir_values.specs.Digests.{identity_below}
use Rattle.descriptor_doc.specs.declared.descriptor.Descriptor.{Descriptor}
use Rattle.vote_pool.proofs.Placing.{front_is, parted}
use Rattle.vote_pool.proofs.keeping.place_of.Goals as goal

pub returns-clause-count : goal.returns-clause-count
returns-clause-count g c =
    let entries = c.args.entries.now in
    let identity = c.args.identity.now in
    let below = λ (held : Descriptor). identity_below held.identity identity in
    let k = c.partition_point.result in
    let point = IsPartitionPoint-from_clause below entries k c.partition_point.ensures.partitioned
    (parted entries identity c.requires) (λ a r q f. search rules) in
    sym (front_is below entries k c.partition_point.ensures.bound
    (λ j d lt. point.0 j d (omega arith) lt) (λ d lt. point.1 k d (omega arith) lt))
