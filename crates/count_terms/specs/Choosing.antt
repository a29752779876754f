-- The value that stands most often (dir-spec, "Computing a consensus from a set of votes").
use Rattle.std.specs.Prelude.{ℕ, nat_eq, nat_lt, Bool, not, ◌&&◌, ◌||◌, List, count_by, Option}
use Rattle.std.specs.{declared.cmp.Ordering.Ordering, Cmp.Lexicographic.slice_cmp, Ordering.{nat_cmp, is_eq, is_gt}}
use Rattle.std.specs.List.{find, list_all}

-- the order of texts by their bytes
abbrev pub text_order : List ℕ → List ℕ → Ordering
text_order a b = slice_cmp nat_cmp a b

-- how often a value stands in a list
abbrev pub times : {A : Type 0} → (A → A → Ordering) → List A → A → ℕ
times order list x = count_by (λ y. is_eq (order x y)) list

-- a value that stands more often than another, or as often and is the greater
abbrev pub outdoes : {A : Type 0} → (A → A → Ordering) → List A → A → A → Bool
outdoes order list y x =
    nat_lt (times order list x) (times order list y)
    || (nat_eq (times order list x) (times order list y) && is_gt (order y x))

-- whether no member of a list outdoes a value
abbrev pub leads : {A : Type 0} → (A → A → Ordering) → List A → A → Bool
leads order list x = list_all (λ y. not (outdoes order list y x)) list

-- the member of a list that stands most often, and of those that stand as often the greatest
abbrev pub chosen : {A : Type 0} → (A → A → Ordering) → List A → Option A
chosen order list = find (leads order list) list
