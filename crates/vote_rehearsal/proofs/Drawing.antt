-- Draws, one after the other.
use Rattle.std.proofs.Common.{◌≡◌, ℕ, zero, suc, ◌+◌, ◌*◌, refl, sym, ap, ◌∙◌, arith}
use Rattle.vote_rehearsal.specs.{Draws.{next_number, number_after}, Relays.start_of}

-- no draw
pub none_drawn : (number : ℕ) → number_after number 0 ≡ number
unfolding number_after
none_drawn number = refl

-- one draw more
pub one_more_draw : (number draws : ℕ) → number_after number (draws + 1) ≡ next_number (number_after number draws)
unfolding number_after
one_more_draw number draws = let e : draws + 1 ≡ suc draws = omega arith in ap (λ n. number_after number n) e

pub ruleset draws = (none_drawn, one_more_draw)

-- so many draws behind others
pub draws_on : (number k m : ℕ) → number_after (number_after number k) m ≡ number_after number (k + m)
unfolding number_after
draws_on number k zero = let e : k ≡ k + zero = omega arith in ap (λ n. number_after number n) e
draws_on number k (suc m) =
    let e : suc (k + m) ≡ k + suc m = omega arith in
    ap (λ n. next_number n) (draws_on number k m) ∙ ap (λ n. number_after number n) e

-- behind the draws of a relay those of the next begin
pub next_start : (seed authorities number : ℕ)
    → number_after (start_of seed authorities number) (authorities + 1) ≡ start_of seed authorities (number + 1)
next_start seed authorities number =
    let e : number * (authorities + 1) + (authorities + 1) ≡ (number + 1) * (authorities + 1) = grind arith in
    draws_on seed (number * (authorities + 1)) (authorities + 1) ∙ ap (λ n. number_after seed n) e

-- the first relay's draws begin with the seed
pub first_start : (seed authorities : ℕ) → seed ≡ start_of seed authorities 0
first_start seed authorities =
    let e : 0 ≡ 0 * (authorities + 1) = grind arith in
    sym (none_drawn seed) ∙ ap (λ n. number_after seed n) e
