use Rattle.std.proofs.{Common.{rules, ℕ, List, sym, arith}, lemmas.List.Sorted.IsPartitionPoint-from_clause}
use Rattle.dir_values.{specs.Digests.bytes_below, proofs.FlagPlaces.{parted, prefix_is}}
use Rattle.dir_values.proofs.flag_set.place_of.Goals as goal

pub returns-clause-count : goal.returns-clause-count
returns-clause-count c =
    let flags = c.args.flags.now in
    let flag = c.args.flag.now in
    let k = c.partition_point.result in
    let point = IsPartitionPoint-from_clause (λ (other : List ℕ). bytes_below other flag) flags k c.partition_point.ensures.partitioned
    (parted flags flag c.requires) (λ a r q f. search rules) in
    sym (prefix_is (λ (other : List ℕ). bytes_below other flag) flags k c.partition_point.ensures.bound
    (λ j d lt. point.0 j d (omega arith) lt) (λ d lt. point.1 k d (omega arith) lt))
