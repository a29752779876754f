-- Weights and what they leave of the scale, brought into range.
use Rattle.std.proofs.Common.{◌≡◌, ℕ, ◌+◌, ◌-◌, ◌/◌, ◌≤◌, ◌⊎◌, inl, inr, ℤ, pos, negsuc, ◌-ℤ◌, arith}
use Rattle.std.proofs.lemmas.{Bool.cases_lt, Int.ints}
use Rattle.bw_weights.specs.{Fractions.half, Ranges.nearest_within}

-- a weight and its rest are the scale
pub rest_and_weight : (s : ℕ) (w : ℤ) → nearest_within s (pos s -ℤ w) + nearest_within s w ≡ s
rest_and_weight s (negsuc n) = omega arith
rest_and_weight s (pos n) = elim (cases_lt s n) [
  | inl below ↦ let e : pos s -ℤ pos n ≡ negsuc (n - s - 1) = omega (arith, ints) in rw e (omega arith)
  | inr above ↦ let e : pos s -ℤ pos n ≡ pos (s - n) = omega (arith, ints) in rw e (omega arith)
]

-- so are two weights and their rest, where they are below it or the second is nothing
pub rest_and_two : (s a b : ℕ) → (a + b ≤ s) ⊎ (b ≡ 0) →
    nearest_within s (pos s -ℤ pos a -ℤ pos b) + nearest_within s (pos a) + nearest_within s (pos b) ≡ s
rest_and_two s a b (inl h) =
    let e : pos s -ℤ pos a -ℤ pos b ≡ pos (s - a - b) = omega (arith, ints) in rw e (omega arith)
rest_and_two s a b (inr h) =
    let e : pos s -ℤ pos a -ℤ pos b ≡ pos s -ℤ pos a = omega (arith, ints) in
    rw e (omega (arith, rest_and_weight s (pos a)))

-- half of the rest of a weight in range
pub half_of_rest : (s a : ℕ) → a ≤ s → half (pos s -ℤ pos a) ≡ pos ((s - a) / 2)
half_of_rest s a h = let e : pos s -ℤ pos a ≡ pos (s - a) = omega (arith, ints) in rw e
