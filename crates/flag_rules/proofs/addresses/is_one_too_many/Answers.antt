use Rattle.std.proofs.{Common.rules, lemmas.List.Sorted.IsPartitionPoint-from_clause}
use Rattle.flag_rules.{specs.Private.is_before, proofs.Ahead.{parted, two_ahead, few_ahead}}
use Rattle.flag_rules.proofs.addresses.is_one_too_many.Goals as goal

pub returns-then-place-ge-MOST_AT_ADDRESS : goal.returns-then-place-ge-MOST_AT_ADDRESS
returns-then-place-ge-MOST_AT_ADDRESS c =
    let in_order = c.args.in_order.now in
    let relay = c.args.relay.now in
    let place = c.partition_point-place.result in
    let point = IsPartitionPoint-from_clause (λ other. is_before other relay) in_order place
    c.partition_point-place.ensures.partitioned (parted in_order relay c.requires) (λ a r q k. search rules) in
    two_ahead in_order relay _ place c.requires c.partition_point-place.ensures.bound
    c.if-place-ge-MOST_AT_ADDRESS.true point

pub returns-else-place-ge-MOST_AT_ADDRESS : goal.returns-else-place-ge-MOST_AT_ADDRESS
returns-else-place-ge-MOST_AT_ADDRESS c =
    let in_order = c.args.in_order.now in
    let relay = c.args.relay.now in
    let place = c.partition_point-place.result in
    let point = IsPartitionPoint-from_clause (λ other. is_before other relay) in_order place
    c.partition_point-place.ensures.partitioned (parted in_order relay c.requires) (λ a r q k. search rules) in
    few_ahead in_order relay place c.if-place-ge-MOST_AT_ADDRESS.false point
