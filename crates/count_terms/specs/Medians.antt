-- Low medians by an order (dir-spec, "Computing a consensus from a set of votes").
use Rattle.std.specs.{Prelude.{ℕ, nat_lt, nat_le, Bool, ◌&&◌, List, count_by, unwrap_or}, List.find}
use Rattle.std.specs.{declared.cmp.Ordering.Ordering, Ordering.{is_lt, is_le}}
use Rattle.count_terms.specs.Counts.{middle}

-- whether a value stands at a place, from 0: at most so many members are below it, and more are at or below it
abbrev pub stands_by : {A : Type 0} → (A → A → Ordering) → ℕ → List A → A → Bool
stands_by order place list x =
    nat_le (count_by (λ y. is_lt (order y x)) list) place && nat_lt place (count_by (λ y. is_le (order y x)) list)

-- the low median of a list: the member that stands in the middle; a list with no member has none
abbrev pub low_median_by : {A : Type 0} → (A → A → Ordering) → A → List A → A
low_median_by order none list = unwrap_or (find (stands_by order (middle list) list) list) none
