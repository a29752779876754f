-- States that began are the start of a world.
use Rattle.std.proofs.Common.{refl, ap}
use Rattle.period_terms.specs.declared.state.State.{State}
use Rattle.period_world.specs.WorldCalls.{BegunAreWorlds}

pub begun : BegunAreWorlds
begun roster states has = record {
  start = λ member state at. (has member state at).start;
  own = λ member state at. ap (λ (s : State). s.own) (has member state at).starts.1.2;
  roster = λ member state at. ap (λ (s : State). s.roster) (has member state at).starts.1.2;
  signed = refl;
  published = refl;
}
