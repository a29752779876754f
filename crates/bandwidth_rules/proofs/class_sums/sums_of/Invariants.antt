use Rattle.std.proofs.Common.{◌≡◌, take}
use Rattle.bandwidth_rules.specs.Classes as classes
use Rattle.bandwidth_rules.specs.Private.{AreSumsOf}
use Rattle.bandwidth_rules.proofs.class_sums.sums_of.Given as goal

abbrev pub invariant-routers : goal.invariant-routers
invariant-routers l = record {
  sums : l.sums ≡ classes.sums_of (take l.router-index l.routers);
  within : AreSumsOf l.router-index l.sums;
}
