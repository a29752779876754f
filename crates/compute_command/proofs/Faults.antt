-- Where a call does not fail, its count of faults is as it was.
use Rattle.std.proofs.{Common.{◌≡◌, ◌<◌, ◌≤◌, ℕ, Ok, Err, ⊎_elim, arith}, lemmas.Bool.cases_lt}

pub no_fault : {A E : Type 0} {value : A} {error : E} (before now : ℕ) → before ≤ now → (before < now → Ok value ≡ Err error) → now ≡ before
no_fault before now le told = ⊎_elim (λ lt. let clash = told lt in absurd cc) (λ ge. omega arith) (cases_lt before now)
