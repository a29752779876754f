-- The first blank of a text, as a search finds it.
use Rattle.std.proofs.Common.{◌≡◌, ℕ, Bool, true, false, List, length, get_or, Some, None, refl, ap, arith}
use Rattle.std.{proofs.lemmas.List.Sums.prefix_len_is, specs.{Prelude.not, List.prefix_len}}
use Rattle.memchr.specs.Find.{IsFirstByte}

not_true : (b : Bool) → (b ≡ true → ⊥) → b ≡ false
not_true true none = absurd (none refl)
not_true false none = refl

-- as many bytes come before the first that passes as stand before the place where it was found
pub before_found : (p : ℕ → Bool) (hay : List ℕ) (k : ℕ) → IsFirstByte p hay (Some k)
    → prefix_len (λ b. not (p b)) hay ≡ k
before_found p hay k found =
    prefix_len_is (λ b. not (p b)) hay k 0 (omega (arith, found.0.high))
    (λ j lt. ap not (not_true (p (get_or hay j 0)) (found.0.before j (omega arith) lt)))
    (λ _. ap not found.1)

-- and all of them, where none was found
pub before_none : (p : ℕ → Bool) (hay : List ℕ) → IsFirstByte p hay None
    → prefix_len (λ b. not (p b)) hay ≡ length hay
before_none p hay none =
    prefix_len_is (λ b. not (p b)) hay (length hay) 0 (omega arith)
    (λ j lt. ap not (not_true (p (get_or hay j 0)) (none j (omega arith) lt)))
    (λ lt. absurd (omega arith))
