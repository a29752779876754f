use Rattle.std.proofs.Common.{rules, ◌≡◌, true, false, ◌<◌, ◌≤◌, ◌∙◌, sym, ap, length, get_or}
use Rattle.std.proofs.lemmas.List.Sorted.{IsPartitionPoint-from_clause}
use Rattle.dir_values.specs.Digests.{identity_below, same_identity}
use Rattle.flag_rules.specs.declared.{operator.OperatorRule.OperatorRule, ruling.Ruling.TheVariants.Approve}
use Rattle.flag_rules.proofs.{ByIdentity.{parted, found_for, not_found, none_behind}, OperatorRules.{its, ruling_in}}
use Rattle.flag_rules.proofs.OperatorRules.{ruling_is}
use Rattle.flag_rules.proofs.operator.ruling_for.Goals as goal

pub returns-then-is_same : goal.returns-then-is_same
returns-then-is_same c =
    let rules_now = c.args.rules.now in
    let identity = c.args.identity.now in
    let k = c.partition_point-place.result in
    let rule = c.in-Some.rule.now in
    let point = IsPartitionPoint-from_clause (λ rule. identity_below rule.identity identity) rules_now k
    c.partition_point-place.ensures.partitioned
    (parted its rules_now identity c.requires) (λ a r q f. search rules) in
    let lt : k < length rules_now = search rules in
    let there : rule ≡ get_or rules_now k rule = search rules in
    let same : same_identity rule.identity identity ≡ true = search rules in
    ap (λ (r : OperatorRule). r.ruling) there
    ∙ sym (ruling_is rules_now identity ∙ ap ruling_in (found_for its rules_now identity k rule lt point
    (ap (λ (r : OperatorRule). same_identity r.identity identity) (sym there) ∙ same)))

pub returns-else-is_same : goal.returns-else-is_same
returns-else-is_same c =
    let rules_now = c.args.rules.now in
    let identity = c.args.identity.now in
    let k = c.partition_point-place.result in
    let rule = c.in-Some.rule.now in
    let point = IsPartitionPoint-from_clause (λ rule. identity_below rule.identity identity) rules_now k
    c.partition_point-place.ensures.partitioned
    (parted its rules_now identity c.requires) (λ a r q f. search rules) in
    let lt : k < length rules_now = search rules in
    let there : rule ≡ get_or rules_now k rule = search rules in
    let other : same_identity rule.identity identity ≡ false = search rules in
    sym (ruling_is rules_now identity ∙ ap ruling_in (not_found its rules_now identity k rule c.requires lt point
    (ap (λ (r : OperatorRule). same_identity r.identity identity) (sym there) ∙ other)))

pub returns-in-None : goal.returns-in-None
returns-in-None c =
    let rules_now = c.args.rules.now in
    let identity = c.args.identity.now in
    let k = c.partition_point-place.result in
    let point = IsPartitionPoint-from_clause (λ rule. identity_below rule.identity identity) rules_now k
    c.partition_point-place.ensures.partitioned
    (parted its rules_now identity c.requires) (λ a r q f. search rules) in
    let past : length rules_now ≤ k = search rules in
    sym (ruling_is rules_now identity ∙ ap ruling_in (none_behind its rules_now identity k
    (record { identity = identity; ruling = Approve }) past point))
