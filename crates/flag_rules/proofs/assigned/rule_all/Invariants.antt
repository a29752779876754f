use Rattle.std.{proofs.Common.{◌≡◌, map, take}, specs.Prelude.All}
use Rattle.flag_rules.proofs.assigned.rule_all.Given as goal

abbrev pub invariant-loop-facts : goal.invariant-loop-facts
invariant-loop-facts g l = record {
  facts : map (λ relay. relay.facts) l.ruled.items ≡ take l.facts-index l.relays;
  asked : All (λ relay. goal.F-post g l.hook.ask relay.facts relay.ruling) l.ruled.items;
}
