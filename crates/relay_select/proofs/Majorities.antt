-- Majorities.
use Rattle.std.proofs.{Common.{◌≡◌, ℕ, ◌*◌, ◌/◌, ltb, arith}, lemmas.Bool.Decides.nat_tests}

-- a half below a count, rounded down, is a whole below its double
pub more_than_half : (n k : ℕ) → ltb (n / 2) k ≡ ltb n (2 * k)
more_than_half n k = grind (arith, nat_tests)
