-- What is surely kept, and what is surely computed.
use Rattle.std.specs.Prelude.{◌≡◌, ◌<◌, ◌+◌, ℕ, true, false, length, Some, None}
use Rattle.dir_values.specs.Rosters.{has_member}
use Rattle.vote_terms.specs.{Votes.{ReadVote, rank_of}, Held.outranks}
use Rattle.consensus_terms.specs.declared.consensus.Consensus.{Consensus}
use Rattle.count_terms.specs.Counts.{over}
use Rattle.period_terms.specs.declared.answer.Advance.TheVariants as moments
use Rattle.period_terms.specs.declared.answer.Offer.TheVariants as offers
use Rattle.period_terms.specs.declared.answer.SignIn.TheVariants as signs
use Rattle.period_terms.specs.declared.{event.{Signing.Signing, Via.Via}, signature.OfferedSignature.OfferedSignature}
use Rattle.period_terms.specs.declared.{stage.Stage.TheVariants.{Voting, Frozen}, state.State.State}
use Rattle.period_terms.specs.{Schedules.cutoff_of, States.{vote_of, has_key, has_line, lines_of, digest_of, is_ended}}
use Rattle.period_terms.specs.{Offers.{offer, most_vote_changes}, Advances.advance, SignIns.sign_in}

-- A vote of a member of the roster, for this period, comes while votes are taken and before its cutoff, and the
-- period has room.
pub record IsInTime (state : State) (vote : ReadVote) (via : Via) (now : ℕ) : Type 0 where
  pub period : vote.says.valid_after ≡ state.valid_after
  pub member : has_member state.roster vote.says.identity ≡ true
  pub voting : state.stage ≡ Voting
  pub early : now < cutoff_of via state.schedule state.valid_after
  pub room : state.vote_changes < most_vote_changes

-- Where no vote of its authority is held it is kept.
abbrev pub FirstVotesAreKept : Type 0
FirstVotesAreKept = (state : State) (vote : ReadVote) (via : Via) (now : ℕ) → IsInTime state vote via now
    → vote_of state.votes vote.says.identity ≡ None → (offer state vote via now).answer ≡ offers.Kept (state.front + 1)

-- Where one of smaller rank is held it takes its place.
abbrev pub GreaterVotesReplace : Type 0
GreaterVotesReplace = (state : State) (vote held : ReadVote) (via : Via) (now : ℕ) → IsInTime state vote via now
    → vote_of state.votes vote.says.identity ≡ Some held → outranks vote held ≡ true → outranks held vote ≡ false
    → (offer state vote via now).answer ≡ offers.Replaced (state.front + 1) (rank_of held)

-- A signature of this period, over the digest of what is computed, by a held vote's key, not yet held and before the
-- period ended, is kept.
abbrev pub SignaturesAreKept : Type 0
SignaturesAreKept = (state : State) (signature : OfferedSignature) (c : Consensus)
    → signature.valid_after ≡ state.valid_after → state.computed ≡ Some c
    → signature.digest ≡ digest_of signature.flavour c → has_key state.votes signature.authority signature.key ≡ true
    → has_line (lines_of signature.flavour state) signature.authority ≡ false → is_ended state.stage ≡ false
    → (sign_in state signature).answer ≡ signs.Kept (state.front + 1)

-- Of a frozen state with the votes of more than half of the roster the consensus is computed.
abbrev pub MajoritiesCompute : Type 0
MajoritiesCompute = (state : State) (now : ℕ) (given : Signing) → state.stage ≡ Frozen
    → over (length state.votes) (length state.roster) ≡ true
    → (advance state now given).answer ≡ moments.Computed
