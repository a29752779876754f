-- The numerators of the weights, as a difference of two sums and as they are written.
use Rattle.std.proofs.{Common.{◌≡◌, ℕ, ◌+◌, ◌*◌, pos, ◌+ℤ◌, ◌-ℤ◌, ◌*ℤ◌, arith}, lemmas.Int.{ints, to_z-of_z}}

-- E+G+M
pub all_but_both : (g m e : ℕ) → pos (e + g + m) -ℤ pos 0 ≡ pos e +ℤ pos g +ℤ pos m
all_but_both g m e = omega (arith, ints)

-- 2G-E-M
pub twice_less_two : (g m e : ℕ) → pos (2 * g) -ℤ pos (e + m) ≡ pos 2 *ℤ pos g -ℤ pos e -ℤ pos m
twice_less_two g m e = omega (arith, ints)

-- D-2E+4G-2M
pub with_four : (g m e d : ℕ) →
    pos (d + 4 * g) -ℤ pos (2 * e + 2 * m) ≡ pos d -ℤ pos 2 *ℤ pos e +ℤ pos 4 *ℤ pos g -ℤ pos 2 *ℤ pos m
with_four g m e d = omega (arith, ints)

-- E-G+M
pub less_and_more : (g m e : ℕ) → pos (e + m) -ℤ pos g ≡ pos e -ℤ pos g +ℤ pos m
less_and_more g m e = omega (arith, ints)

-- D-2X+Y+Z
pub less_twice : (x y z d : ℕ) → pos (d + y + z) -ℤ pos (2 * x) ≡ pos d -ℤ pos 2 *ℤ pos x +ℤ pos y +ℤ pos z
less_twice x y z d = omega (arith, ints)

-- X+Y
pub two : (x y : ℕ) → pos (x + y) -ℤ pos 0 ≡ pos x +ℤ pos y
two x y = omega (arith, ints)

pub ruleset numerators = (all_but_both, twice_less_two, with_four, less_and_more, less_twice, two, to_z-of_z)
