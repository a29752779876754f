use Rattle.std.proofs.Common.{rules, ◌≡◌, true, false, ◌<◌, ◌≤◌, ◌∙◌, sym, ap, length, get_or}
use Rattle.std.proofs.lemmas.List.Sorted.{IsPartitionPoint-from_clause}
use Rattle.dir_values.specs.Digests.{identity_below, same_identity}
use Rattle.station_input.specs.declared.frame_said.MeasuredRelay.{MeasuredRelay}
use Rattle.flag_rules.proofs.ByIdentity.{parted, found_for, not_found, none_behind}
use Rattle.vote_maker.{specs.Relays.unmeasured_relay, proofs.Measured.{its, told_in}}
use Rattle.vote_maker.proofs.measures.measured_for.Goals as goal

pub returns-then-is_same : goal.returns-then-is_same
returns-then-is_same c =
    let relays = c.args.relays.now in
    let identity = c.args.identity.now in
    let k = c.partition_point-place.result in
    let relay = c.in-Some.relay.now in
    let point = IsPartitionPoint-from_clause (λ relay. identity_below relay.identity identity) relays k
    c.partition_point-place.ensures.partitioned
    (parted its relays identity c.requires) (λ a r q f. search rules) in
    let lt : k < length relays = search rules in
    let there : relay ≡ get_or relays k relay = search rules in
    let same : same_identity relay.identity identity ≡ true = search rules in
    ap (λ (r : MeasuredRelay). r.measured) there ∙ sym (ap told_in (found_for its relays identity k relay lt point
    (ap (λ (r : MeasuredRelay). same_identity r.identity identity) (sym there) ∙ same)))

pub returns-else-is_same : goal.returns-else-is_same
returns-else-is_same c =
    let relays = c.args.relays.now in
    let identity = c.args.identity.now in
    let k = c.partition_point-place.result in
    let relay = c.in-Some.relay.now in
    let point = IsPartitionPoint-from_clause (λ relay. identity_below relay.identity identity) relays k
    c.partition_point-place.ensures.partitioned
    (parted its relays identity c.requires) (λ a r q f. search rules) in
    let lt : k < length relays = search rules in
    let there : relay ≡ get_or relays k relay = search rules in
    let other : same_identity relay.identity identity ≡ false = search rules in
    c.unmeasured.ensures ∙ sym (ap told_in (not_found its relays identity k relay c.requires lt point
    (ap (λ (r : MeasuredRelay). same_identity r.identity identity) (sym there) ∙ other)))

pub returns-in-None : goal.returns-in-None
returns-in-None c =
    let relays = c.args.relays.now in
    let identity = c.args.identity.now in
    let k = c.partition_point-place.result in
    let point = IsPartitionPoint-from_clause (λ relay. identity_below relay.identity identity) relays k
    c.partition_point-place.ensures.partitioned
    (parted its relays identity c.requires) (λ a r q f. search rules) in
    let past : length relays ≤ k = search rules in
    c.unmeasured-in-None.ensures ∙ sym (ap told_in (none_behind its relays identity k
    (record { identity = identity; measured = unmeasured_relay }) past point))
