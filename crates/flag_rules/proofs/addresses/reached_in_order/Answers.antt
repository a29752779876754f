use Rattle.std.proofs.{Common.{rules, ◌≡◌, subst, List}, lemmas.List.Sorted.answers_always}
use Rattle.std.specs.List.Sorted.{IsPermutation}
use Rattle.flag_rules.specs.{declared.relay.RuledRelay.RuledRelay, Standings.reached_relays, Private.is_before}
use Rattle.flag_rules.proofs.Ahead.{weak_order}
use Rattle.flag_rules.proofs.addresses.reached_in_order.Goals as goal

pub returns : goal.returns
returns c =
    let sorted = c.sort_unstable_by.new.self.items in
    let is : c.in_ok-in_order.in_order.items ≡ reached_relays c.args.now c.args.relays.now = search rules in
    record {
      same = subst (λ (l : List RuledRelay). IsPermutation l sorted) is c.sort_unstable_by.ensures.permutation;
      sorted = c.sort_unstable_by.ensures.sorted is_before weak_order
          (answers_always _ _ _ (λ f a r q k. search rules));
    }
