use Rattle.std.proofs.{Common.{rules, sym, arith}, lemmas.List.Sorted.IsPartitionPoint-from_clause}
use Rattle.dir_values.specs.Digests.{bytes_below}
use Rattle.list_values.{specs.declared.named.Named.Named, proofs.NamePlaces.{front_is, parted}}
use Rattle.list_values.proofs.named.place_of.Goals as goal

pub returns-clause-count : goal.returns-clause-count
returns-clause-count g c =
    let items = c.args.items.now in
    let name = c.args.name.now in
    let below = λ (item : Named g.row.V.Denot). bytes_below item.name name in
    let k = c.partition_point.result in
    let point = IsPartitionPoint-from_clause below items k c.partition_point.ensures.partitioned
    (parted items name c.requires) (λ a r q f. search rules) in
    sym (front_is below items k c.partition_point.ensures.bound
    (λ j d lt. point.0 j d (omega arith) lt) (λ d lt. point.1 k d (omega arith) lt))
