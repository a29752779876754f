-- What signatures of a period are checked against.
use Rattle.std.specs.Prelude.{map, Option, option_map}
use Rattle.consensus_terms.specs.declared.{consensus.Consensus.Consensus, flavour.Flavour.TheVariants.{Ns, Microdesc}}
use Rattle.period_terms.specs.{declared.{state.State.State, view.PeriodView.PeriodView}, States.digest_of}
pub use Rattle.period_terms.specs.Keys.{signer_key}

-- what signatures over a consensus are checked against
abbrev pub view_over : State → Consensus → PeriodView
view_over state c = record {
  valid_after = state.valid_after;
  ns = record { 0 = digest_of Ns c };
  microdesc = record { 0 = digest_of Microdesc c };
  keys = map signer_key state.votes;
}

-- what signatures are checked against, where there are texts
abbrev pub view_of : State → Option PeriodView
view_of state = option_map (view_over state) state.computed
