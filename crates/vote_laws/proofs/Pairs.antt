-- What two answers that are one have.
use Rattle.std.proofs.Common.{◌≡◌, ℕ, ◌+◌, Result, Ok, Err, sym, ap, ◌∙◌, arith}
use Rattle.blank_lines.specs.Behind.{behind}
use Rattle.frame_terms.specs.declared.fault.ReadRefusal.{ReadRefusal}
use Rattle.vote_terms.specs.Votes.{ReadVote}

pair_or : {A B E : Type 0} → A × B → Result (A × B) E → A × B
pair_or other (Ok pair) = pair
pair_or other (Err error) = other

-- each part of the one is that of the other
pub parts_are : {A B E : Type 0} (a c : A) (b d : B) → ◌≡◌ {A = Result (A × B) E} (Ok (a, b)) (Ok (c, d))
    → (a ≡ c) × (b ≡ d)
unfolding pair_or
parts_are {A} {B} {E} a c b d e =
    let pairs : ◌≡◌ {A = A × B} (a, b) (c, d) = ap (pair_or {A = A} {B = B} {E = E} (a, b)) e in
    (ap (λ (p : A × B). p.0) pairs, ap (λ (p : A × B). p.1) pairs)

-- what stands behind nothing is what stands alone
pub from_start : (read : Result (ReadVote × ℕ) ReadRefusal) (vote : ReadVote) (end : ℕ) → behind 0 read ≡ Ok (vote, end)
    → read ≡ Ok (vote, end)
from_start (Ok (found, used)) vote end is =
    let zero : 0 + used ≡ used = omega arith in
    ap (λ (n : ℕ). Ok (found, n)) (sym zero) ∙ is
from_start (Err why) vote end is = absurd cc
