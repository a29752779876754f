-- What the weights give out of the bandwidth of each class (dir-spec, "Computing Bandwidth Weights").
use Rattle.std.specs.Prelude.{ℕ, ◌≡◌, ◌+◌, ◌≤◌}
use Rattle.bw_weights.specs.declared.position_weights.Weights.{Weights}

-- a part of the scale is the whole of it, but for at most so many units that truncation loses
pub record IsWholeBut (lost part scale : ℕ) : Type 0 where
  pub most : part ≤ scale
  pub least : scale ≤ part + lost

-- the weights of each class, over the positions, are the whole of the scale: nothing of a class is counted twice, and
-- but for truncation all of it is used
pub record GivesOutEachClass (weights : Weights) : Type 0 where
  pub guards : weights.wgg + weights.wmg ≡ weights.scale
  pub exits : IsWholeBut 1 (weights.wee + weights.wme) weights.scale
  pub both : IsWholeBut 2 (weights.wgd + weights.wed + weights.wmd) weights.scale
