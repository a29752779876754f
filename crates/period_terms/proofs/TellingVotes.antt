-- What the change of a vote tells.
use Rattle.std.proofs.Common.{◌≡◌, ℕ, ◌+◌, ◌&&◌, ◌||◌, Bool, true, false, cond, [], ◌∷◌, ◌++◌, Option, Some, option_map}
use Rattle.std.proofs.Common.{refl, sym, ap, ◌∙◌, subst}
use Rattle.dir_values.specs.{declared.digest.Fingerprint.Fingerprint, Digests.same_identity}
use Rattle.vote_terms.{specs.{Votes.{ReadVote, rank_of}, Held.votes_with}, proofs.Orders.same_one}
use Rattle.consensus_terms.specs.declared.flavour.Flavour.TheVariants.{Ns, Microdesc}
use Rattle.period_terms.specs.declared.change.ChangeKind.TheVariants as kind
use Rattle.period_terms.specs.{declared.state.State.State, States.vote_of, Offers.{vote_change, with_vote}}
use Rattle.period_terms.{specs.KeptFacts.{keeps_vote_of, rank_told, last_of}, proofs.Placing.{Beats, placed_new}}
use Rattle.period_terms.proofs.{Placing.placed_other, Telling.{TellsAt, signers_stay, rank_push, stage_push}}
use Rattle.period_terms.proofs.Telling.{count_push, length_push}

ranks_by : (b : Bool) (s : State) (v : ReadVote) (a : Fingerprint) → same_identity v.says.identity a ≡ b
    → Beats s.votes v
    → TellsAt s
    → option_map rank_of (vote_of (votes_with s.votes v) a) ≡ option_map rank_told (cond b (Some (vote_change v))
    (last_of (keeps_vote_of a) s.changes))
ranks_by true s v a e beats k =
    subst (λ (x : Fingerprint). option_map rank_of (vote_of (votes_with s.votes v) x) ≡ Some (rank_told (vote_change v)))
    (same_one v.says.identity a e)
    (ap (λ (x : Option ReadVote). option_map rank_of x) (placed_new s.votes v beats))
ranks_by false s v a e beats k = ap (λ (x : Option ReadVote). option_map rank_of x) (placed_other s.votes v a e)
    ∙ k.ranks a

pub vote_tells : (s : State) (v : ReadVote) → Beats s.votes v → TellsAt s → TellsAt (with_vote v s)
vote_tells s v beats k = record {
  ranks = λ a. ranks_by _ s v a refl beats k ∙ sym (rank_push s.changes (vote_change v) a);
  stage_is = k.stage_is ∙ sym (stage_push s.changes (vote_change v));
  ns_signers = λ a. k.ns_signers a ∙ sym (signers_stay Ns s.changes (vote_change v) a refl);
  micro_signers = λ a. k.micro_signers a ∙ sym (signers_stay Microdesc s.changes (vote_change v) a refl);
  count = ap (λ (n : ℕ). n + 1) k.count ∙ sym (count_push s.changes (vote_change v));
  front_is = length_push s.changes (vote_change v) s.front s.base k.front_is;
}
