-- The weights of a consensus (dir-spec, "Computing Bandwidth Weights").
use Rattle.std.specs.Prelude.{ℕ, ◌+◌, ◌≤◌, if◌then◌else◌}
use Rattle.bw_weights.specs.{Sums.{is_scarce, are_unequal}, Cases.shares_at, Ranges.{are_within, nearest_within}}
use Rattle.bw_weights.specs.declared.{sums.Sums.Sums, shares.Shares.Shares, position_weights.Weights.Weights}
use Rattle.bw_weights.specs.Cases as cases

-- both scarce and comparable: exits help in the middle, unless one of the weights would then be out of range
abbrev pub comparable : Sums → ℕ → Shares
comparable sums scale =
    if are_within scale (shares_at cases.comparable_with_exits sums scale)
    then shares_at cases.comparable_with_exits sums scale
    else shares_at cases.comparable_without_exits sums scale

-- guards and exits scarce
abbrev pub both_scarce : Sums → ℕ → Shares
both_scarce sums scale =
    if are_unequal sums then shares_at cases.both_scarce_unequal sums scale else comparable sums scale

-- guards scarce, and exits not
abbrev pub guards_scarce : Sums → ℕ → Shares
guards_scarce sums scale =
    if is_scarce (sums.g + sums.d) sums
    then shares_at cases.guards_very_scarce sums scale
    else shares_at cases.guards_somewhat_scarce sums scale

-- exits scarce, and guards not
abbrev pub exits_scarce : Sums → ℕ → Shares
exits_scarce sums scale =
    if is_scarce (sums.e + sums.d) sums
    then shares_at cases.exits_very_scarce sums scale
    else shares_at cases.exits_somewhat_scarce sums scale

-- the weights of the case that the sums are in
abbrev pub shares_of : Sums → ℕ → Shares
shares_of sums scale =
    if is_scarce sums.g sums
    then (if is_scarce sums.e sums then both_scarce sums scale else guards_scarce sums scale)
    else (if is_scarce sums.e sums then exits_scarce sums scale else shares_at cases.neither_scarce sums scale)

-- each weight brought into 0 to the scale
abbrev pub weights_within : ℕ → Shares → Weights
weights_within scale shares = record {
  wgd = nearest_within scale shares.wgd;
  wed = nearest_within scale shares.wed;
  wmd = nearest_within scale shares.wmd;
  wme = nearest_within scale shares.wme;
  wmg = nearest_within scale shares.wmg;
  wgg = nearest_within scale shares.wgg;
  wee = nearest_within scale shares.wee;
  scale = scale;
}

-- the weights at these sums and this scale
abbrev pub weights_of : Sums → ℕ → Weights
weights_of sums scale = weights_within scale (shares_of sums scale)

-- each weight lies in 0 to the scale
pub record AreFractions (weights : Weights) : Type 0 where
  pub wgd : weights.wgd ≤ weights.scale
  pub wed : weights.wed ≤ weights.scale
  pub wmd : weights.wmd ≤ weights.scale
  pub wme : weights.wme ≤ weights.scale
  pub wmg : weights.wmg ≤ weights.scale
  pub wgg : weights.wgg ≤ weights.scale
  pub wee : weights.wee ≤ weights.scale
