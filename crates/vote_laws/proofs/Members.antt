-- What holds of the members of lists holds of parts of them, of those that pass and of what is made of them.
use Rattle.std.proofs.Common.{◌≡◌, ◌≤◌, Bool, true, false, List, [], ◌∷◌, ◌++◌, length, map, filter, arith}
use Rattle.std.proofs.lemmas.{Bool.or_parts, List.Elements.{All-cons, All-head, All-map, All-nil, All-tail}}
use Rattle.std.specs.{Prelude.{All, AllPairs, if◌then◌else◌}, List.list_any}
use Rattle.dir_values.proofs.Orders.{AllPairs-cons, AllPairs-head, AllPairs-nil, AllPairs-tail}

-- the members in front, and those behind them
pub front_of : {X : Type 0} (P : X → Type 0) (xs ys : List X) → All P (xs ++ ys) → All P xs
front_of P [] ys all = All-nil P
front_of P (x ∷ xs) ys all =
    All-cons P x xs (All-head P x (xs ++ ys) all) (front_of P xs ys (All-tail P x (xs ++ ys) all))

pub back_of : {X : Type 0} (P : X → Type 0) (xs ys : List X) → All P (xs ++ ys) → All P ys
back_of P [] ys all = all
back_of P (x ∷ xs) ys all = back_of P xs ys (All-tail P x (xs ++ ys) all)

-- no more pass than there are
pub few_pass : {X : Type 0} (p : X → Bool) (xs : List X) → length (filter p xs) ≤ length xs
few_pass p [] = omega arith
few_pass {X} p (x ∷ xs) = by (p x) (few_pass p xs)
  where
    by : (t : Bool) → length (filter p xs) ≤ length xs
        → length (if t then x ∷ filter p xs else filter p xs) ≤ length (x ∷ xs)
    by true more = omega (arith, more)
    by false more = omega (arith, more)

-- where none passes, each fails
pub none_any : {X : Type 0} (p : X → Bool) (xs : List X) → list_any p xs ≡ false → All (λ x. p x ≡ false) xs
none_any p [] is = All-nil (λ x. p x ≡ false)
none_any p (x ∷ xs) is =
    let both = or_parts (p x) (list_any p xs) is in
    All-cons (λ y. p y ≡ false) x xs both.0 (none_any p xs both.1)

-- pairs of what is made
pub AllPairs-map : {X Y : Type 0} (R : Y → Y → Type 0) (f : X → Y) (xs : List X) → AllPairs (λ a b. R (f a) (f b)) xs
    → AllPairs R (map f xs)
AllPairs-map R f [] pairs = AllPairs-nil R
AllPairs-map R f (x ∷ xs) pairs =
    AllPairs-cons R (f x) (map f xs) (All-map (R (f x)) f xs (AllPairs-head (λ a b. R (f a) (f b)) x xs pairs))
    (AllPairs-map R f xs (AllPairs-tail (λ a b. R (f a) (f b)) x xs pairs))
