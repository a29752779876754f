-- The weights that follow from relays and params (dir-spec, "Computing Bandwidth Weights").
use Rattle.std.specs.Prelude.{ℕ, ℤ, List, Option, Some, if◌then◌else◌}
use Rattle.bw_weights.specs.{Checks.stated_weights, Weights.weights_of, declared.position_weights.Weights.Weights}
use Rattle.list_values.specs.declared.named.Named.{Named}
use Rattle.consensus_terms.specs.{Methods.is_34_or_later, declared.router.Routerline.Routerline}
use Rattle.bandwidth_rules.specs.{Classes.sums_of, Limits.weight_scale}

-- the weights of a consensus by this method that lists these relays and these params: from method 34 on those that stand in a
-- line, before it always some
abbrev pub relay_weights : ℕ → List Routerline → List (Named ℤ) → Option Weights
relay_weights method routers params =
    if is_34_or_later method then stated_weights (sums_of routers) (weight_scale params)
    else Some (weights_of (sums_of routers) (weight_scale params))
