use Rattle.std.proofs.{Common.{rules, ◌≡◌, List, subst}, lemmas.List.Sorted.answers_always}
use Rattle.std.specs.List.Sorted.{IsSortedBy, IsStableBy}
use Rattle.station_input.specs.declared.frame_said.MeasuredRelay.{MeasuredRelay}
use Rattle.vote_maker.{specs.Private.is_measure_before, proofs.Measured.{alike, its}}
use Rattle.flag_rules.proofs.ByIdentity.{ascend, weak_order}
use Rattle.vote_maker.proofs.measures.Measures.new.Goals as goal

pub invariant_of-result : goal.invariant_of-result
invariant_of-result c =
    let sorted = c.sort_by.new.self.items in
    let up : IsSortedBy is_measure_before sorted =
    c.in_ok-sort_by.ensures.sorted is_measure_before (weak_order its) (answers_always _ _ _ (λ f a r q k. search rules)) in
    ascend its sorted up

pub returns : goal.returns
returns c =
    let sorted = c.sort_by.new.self.items in
    let relays = c.in_ok-relays.relays.items in
    let stable : IsStableBy is_measure_before relays sorted =
    c.in_ok-sort_by.ensures.stable is_measure_before (weak_order its) (answers_always _ _ _ (λ f a r q k. search rules)) in
    let same : relays ≡ c.args.relays.now = search rules in
    alike c.args.relays.now sorted
    (subst (λ (l : List MeasuredRelay). IsStableBy is_measure_before l sorted) same stable)
