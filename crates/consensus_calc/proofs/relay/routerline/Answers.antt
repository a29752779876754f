use Rattle.std.{proofs.Common.{◌≡◌, ◌∙◌, ap, Option}, specs.Prelude.option_map}
use Rattle.consensus_terms.specs.declared.router.Bandwidth.{Bandwidth}
use Rattle.compute_terms.specs.{Bandwidths.relay_bandwidth, Tuples.chosen_tuple}
use Rattle.relay_select.specs.declared.choice.Choice.{Choice}
use Rattle.consensus_calc.{specs.Routerlines.routerline_with, proofs.Routerlines.by_choice}
use Rattle.consensus_calc.proofs.relay.routerline.Goals as goal

pub returns-clause-value : goal.returns-clause-value
returns-clause-value c =
    c.with_choice.ensures.value
    ∙ ap (λ (w : Option Bandwidth). option_map (routerline_with c.args.identity c.args.flags w) c.in_ok-choice.choice) c.in_ok-w.ensures
    ∙ ap (λ (o : Option Choice). option_map (routerline_with c.args.identity c.args.flags (relay_bandwidth c.args.most c.args.entries.now)) o) c.in_ok-choice.ensures.value
    ∙ by_choice c.args.method c.args.most c.args.identity c.args.flags c.args.entries.now (chosen_tuple c.args.entries.now)
