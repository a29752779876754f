-- What is surely kept, and what is surely computed.
use Rattle.std.proofs.Common.{◌≡◌, ℕ, ◌+◌, ◌<◌, true, false, nat_le, Option, Some, refl, ap, ◌∙◌, bytes_eq, arith}
use Rattle.std.{proofs.lemmas.Bool.eq-eqb, specs.Cmp.Lexicographic.bytes_decides}
use Rattle.vote_terms.specs.Votes.{ReadVote}
use Rattle.period_terms.specs.{declared.{event.Via.Via, state.State.State}, Schedules.cutoff_of, States.is_voting}
use Rattle.period_terms.specs.{States.digest_of, Offers.{offer, is_late, most_vote_changes}, Advances.advance}
use Rattle.period_terms.specs.SignIns.{sign_in, sign_in_over}
use Rattle.consensus_terms.specs.declared.consensus.Consensus.{Consensus}
use Rattle.period_terms.specs.declared.answer.SignIn.TheVariants as signs
use Rattle.period_laws.specs.Chances.{IsInTime, FirstVotesAreKept, GreaterVotesReplace, SignaturesAreKept}
use Rattle.period_laws.specs.Chances.{MajoritiesCompute}

not_le : (n m : ℕ) → n < m → nat_le m n ≡ false
not_le n m lt = grind (arith, lt)

in_time : (state : State) (vote : ReadVote) (via : Via) (now : ℕ) → IsInTime state vote via now
    → is_late state via now ≡ false
in_time state vote via now t =
    rw (ap is_voting t.voting, not_le now (cutoff_of via state.schedule state.valid_after) t.early) refl

pub first_kept : FirstVotesAreKept
unfolding offer
first_kept state vote via now t none =
    rw (
      eq-eqb vote.says.valid_after state.valid_after t.period,
      t.member,
      in_time state vote via now t,
      none,
      not_le state.vote_changes most_vote_changes t.room,
    ) refl

pub greater_replaces : GreaterVotesReplace
unfolding offer
greater_replaces state vote held via now t some up down =
    rw (
      eq-eqb vote.says.valid_after state.valid_after t.period,
      t.member,
      in_time state vote via now t,
      some,
      down,
      up,
      not_le state.vote_changes most_vote_changes t.room,
    ) refl

pub signature_kept : SignaturesAreKept
unfolding sign_in
signature_kept state signature c p is d key none open_it =
    let same : bytes_eq signature.digest (digest_of signature.flavour c) ≡ true =
    (bytes_decides signature.digest (digest_of signature.flavour c)).1 d in
    let ours : (sign_in_over state signature (Some c)).answer ≡ signs.Kept (state.front + 1) =
    rw (same, key, none, open_it) refl in
    rw (eq-eqb signature.valid_after state.valid_after p)
    (ap (λ (o : Option Consensus). (sign_in_over state signature o).answer) is ∙ ours)

pub majority_computes : MajoritiesCompute
unfolding advance
majority_computes state now given at more = rw (at, more) refl
