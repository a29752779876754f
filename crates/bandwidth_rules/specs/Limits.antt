-- The params by which a consensus is computed (dir-spec, "Computing a consensus from a set of votes" and "Computing Bandwidth
-- Weights").
use Rattle.std.specs.Prelude.{ℕ, ℤ, pos, negsuc, max, int_lt, ◌&&◌, List, codes, Option, Some, None, unwrap_or}
use Rattle.std.specs.Prelude.{if◌then◌else◌}
use Rattle.consensus_terms.specs.Methods.{is_34_or_later}
use Rattle.list_values.specs.{declared.named.Named.Named, Maps.value_at}

-- a number, and 1 in place of a lesser one
abbrev pub at_least_one : ℤ → ℕ
at_least_one (pos n) = max n 1
at_least_one (negsuc _) = 1

-- the number of the param with a name, or this one where there is none; never under 1
abbrev pub number_of : List ℕ → ℕ → List (Named ℤ) → ℕ
number_of name default params = at_least_one (unwrap_or (value_at params name) (pos default))

-- the limit that a number sets, at least 1; from 34 on a number under 0 sets none
abbrev pub limit_from : ℕ → ℤ → Option ℕ
limit_from method number = if int_lt number (pos 0) && is_34_or_later method then None else Some (at_least_one number)

-- what a bandwidth that is not measured is at most by this method, in kilobytes per second
abbrev pub unmeasured_limit : ℕ → List (Named ℤ) → Option ℕ
unmeasured_limit method params = limit_from method (unwrap_or (value_at params (codes "maxunmeasuredbw")) (pos 20))

-- the scale of the weights of bandwidth
abbrev pub weight_scale : List (Named ℤ) → ℕ
weight_scale params = number_of (codes "bwweightscale") 10000 params
