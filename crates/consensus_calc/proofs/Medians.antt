-- The bound of a median.
use Rattle.std.proofs.Common.{◌≡◌, ℕ, ◌≤◌, Bool, true, false, List, [], ◌∷◌, length, Some, refl, arith}
use Rattle.std.{proofs.lemmas.List.Elements.{All-head, All-tail}, specs.{Prelude.{All, unwrap_or, cond}, List.find}}
use Rattle.count_terms.specs.Counts.{low_median, member_at, middle, stands_at}

-- what is found among values that are within a bound is within it, and so is 0
find-within : (p : ℕ → Bool) (bound : ℕ) (values : List ℕ) → All (λ v. v ≤ bound) values → unwrap_or (find p values) 0 ≤ bound
find-within p bound [] all = omega arith
find-within p bound (v ∷ values) all =
    let here : v ≤ bound = All-head (λ x. x ≤ bound) v values all in
    let later = find-within p bound values (All-tail (λ x. x ≤ bound) v values all) in
    elim (p v) as (λ b. unwrap_or (cond b (Some v) (find p values)) 0 ≤ bound) [ true ↦ here | false ↦ later ]

-- the median of values that are within a bound is within it
pub low_median-within : (bound : ℕ) (values : List ℕ) → All (λ v. v ≤ bound) values → low_median values ≤ bound
unfolding member_at
low_median-within bound values all = find-within (stands_at (middle values) values) bound values all

-- the median of no values is 0
pub median_of_none : (values : List ℕ) → length values ≡ 0 → 0 ≡ low_median values
unfolding member_at
median_of_none [] none = refl
median_of_none (v ∷ values) none = absurd (omega (arith, none))
