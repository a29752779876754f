use Rattle.std.{proofs.{Common.rules, lemmas.List.Sorted.answers_always}, specs.List.Sorted.{IsSortedBy, IsStableBy}}
use Rattle.flag_rules.{specs.Private.is_rule_before, proofs.{ByIdentity.{ascend, weak_order}, OperatorRules.alike}}
use Rattle.flag_rules.proofs.OperatorRules.{its}
use Rattle.flag_rules.proofs.operator.OperatorList.new.Goals as goal

pub returns : goal.returns
returns c =
    let stable : IsStableBy is_rule_before c.args.rules.items c.sort_by.new.self.items =
    c.in_ok-sort_by.ensures.stable is_rule_before (weak_order its) (answers_always _ _ _ (λ f a r q k. search rules)) in
    alike c.args.rules.items c.sort_by.new.self.items stable

pub invariant_of-result : goal.invariant_of-result
invariant_of-result c =
    let up : IsSortedBy is_rule_before c.sort_by.new.self.items =
    c.in_ok-sort_by.ensures.sorted is_rule_before (weak_order its) (answers_always _ _ _ (λ f a r q k. search rules)) in
    ascend its c.sort_by.new.self.items up
