-- Whatever case the sums are in, the weights give out each class.
use Rattle.std.{proofs.Common.{◌≡◌, refl, ℕ, ◌+◌, ◌*◌, ◌<◌, ◌≤◌, Bool, true, false, arith}, specs.Prelude.if◌then◌else◌}
use borrow.Author.Tests.{ltb-true, ltb-false}
use Rattle.bw_weights.specs.{Balance.GivesOutEachClass, Cases.shares_at, Ranges.are_within, Sums.AreInRange}
use Rattle.bw_weights.specs.{Sums.{is_scarce, are_unequal, total_of}, Weights.{weights_of, comparable, both_scarce}}
use Rattle.bw_weights.specs.{Weights.{guards_scarce, exits_scarce}, declared.{sums.Sums.Sums, shares.Shares.Shares}}
use Rattle.bw_weights.proofs.Balances.{Balances}
use Rattle.bw_weights.specs.Cases as cases
use Rattle.bw_weights.proofs.Balances as balances

-- what holds of both choices holds of the one that a test makes
by_test : (P : Shares → Type 0) (b : Bool) (x y : Shares) →
    (b ≡ true → P x) → (b ≡ false → P y) → P (if b then x else y)
by_test P true x y first second = first refl
by_test P false x y first second = second refl

-- a class that is scarce has not twice what it is due
due : (class : ℕ) (sums : Sums) → is_scarce class sums ≡ true → 3 * class < total_of sums
due class sums h = ltb-true (3 * class) (total_of sums) h

enough : (class : ℕ) (sums : Sums) → is_scarce class sums ≡ false → total_of sums ≤ 3 * class
enough class sums h = ltb-false (3 * class) (total_of sums) h

of_comparable : (sums : Sums) (s : ℕ) → AreInRange sums →
    is_scarce sums.g sums ≡ true → is_scarce sums.e sums ≡ true → Balances s (comparable sums s)
of_comparable sums s range hg he =
    let few_guards = due sums.g sums hg in
    let few_exits = due sums.e sums he in
    let some_exits = range.exits.least in
    let some_both = range.both.least in
    by_test (Balances s) (are_within s (shares_at cases.comparable_with_exits sums s))
    (shares_at cases.comparable_with_exits sums s) (shares_at cases.comparable_without_exits sums s)
    (λ h. balances.comparable_with_exits sums.g sums.m sums.e sums.d s (omega (arith, some_exits)) h)
    (λ h. balances.comparable_without_exits sums.g sums.m sums.e sums.d s (omega (arith, some_both))
    (omega (arith, few_exits)) (omega (arith, few_guards)))

of_both_scarce : (sums : Sums) (s : ℕ) → AreInRange sums →
    is_scarce sums.g sums ≡ true → is_scarce sums.e sums ≡ true → Balances s (both_scarce sums s)
of_both_scarce sums s range hg he =
    by_test (Balances s) (are_unequal sums) (shares_at cases.both_scarce_unequal sums s) (comparable sums s)
    (λ h. balances.both_scarce_unequal sums.g sums.m sums.e sums.d s)
    (λ h. of_comparable sums s range hg he)

of_guards_scarce : (sums : Sums) (s : ℕ) → is_scarce sums.g sums ≡ true → Balances s (guards_scarce sums s)
of_guards_scarce sums s hg =
    let few = due sums.g sums hg in
    by_test (Balances s) (is_scarce (sums.g + sums.d) sums)
    (shares_at cases.guards_very_scarce sums s) (shares_at cases.guards_somewhat_scarce sums s)
    (λ h. balances.guards_very_scarce sums.g sums.m sums.e sums.d s)
    (λ h. let many = enough (sums.g + sums.d) sums h in
    balances.guards_somewhat_scarce sums.g sums.m sums.e sums.d s (omega (arith, few)) (omega (arith, many)))

of_exits_scarce : (sums : Sums) (s : ℕ) → is_scarce sums.e sums ≡ true → Balances s (exits_scarce sums s)
of_exits_scarce sums s he =
    let few = due sums.e sums he in
    by_test (Balances s) (is_scarce (sums.e + sums.d) sums)
    (shares_at cases.exits_very_scarce sums s) (shares_at cases.exits_somewhat_scarce sums s)
    (λ h. balances.exits_very_scarce sums.g sums.m sums.e sums.d s)
    (λ h. let many = enough (sums.e + sums.d) sums h in
    balances.exits_somewhat_scarce sums.g sums.m sums.e sums.d s (omega (arith, few)) (omega (arith, many)))

pub gives_out_each_class : (sums : Sums) (s : ℕ) → AreInRange sums → GivesOutEachClass (weights_of sums s)
gives_out_each_class sums s range =
    by_test (Balances s) (is_scarce sums.g sums)
    (if is_scarce sums.e sums then both_scarce sums s else guards_scarce sums s)
    (if is_scarce sums.e sums then exits_scarce sums s else shares_at cases.neither_scarce sums s)
    (λ hg. by_test (Balances s) (is_scarce sums.e sums) (both_scarce sums s) (guards_scarce sums s)
    (λ he. of_both_scarce sums s range hg he) (λ he. of_guards_scarce sums s hg))
    (λ hg. by_test (Balances s) (is_scarce sums.e sums) (exits_scarce sums s) (shares_at cases.neither_scarce sums s)
    (λ he. of_exits_scarce sums s he) (λ he. balances.neither_scarce sums.g sums.m sums.e sums.d s))
