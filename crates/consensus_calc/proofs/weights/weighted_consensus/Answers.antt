use Rattle.std.proofs.Common.{List, ap, ◌∙◌}
use Rattle.consensus_terms.specs.declared.router.Routerline.{Routerline}
use Rattle.bandwidth_rules.specs.Weights.{relay_weights}
use Rattle.consensus_calc.proofs.weights.weighted_consensus.Goals as goal

pub returns-clause-value : goal.returns-clause-value
returns-clause-value c =
    let facts = c.args.facts in
    let weights =
    c.relay_weights-weights.ensures.value
    ∙ ap (λ (routers : List Routerline). relay_weights facts.method routers facts.lists.params) c.as_slice.ensures in
    λ i. record { facts = facts; weights = weights i }
