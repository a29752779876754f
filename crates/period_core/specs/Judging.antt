-- What is told of an offered vote, before anything is changed.
use Rattle.std.specs.Prelude.{◌≡◌, ℕ, ◌+◌, ◌==◌, nat_le, Bool, true, not, option_map, List, Option, Some, None}
use Rattle.std.specs.Prelude.{if◌then◌else◌}
use Rattle.dir_values.specs.Rosters.{has_member}
use Rattle.vote_terms.specs.{declared.rank.Rank.Rank, Votes.{ReadVote, rank_of, is_above}, Held.outranks}
use Rattle.period_terms.specs.declared.answer.Offer.{Offer, TheVariants.{OtherPeriod, Stranger, Late, Have, Older}}
use Rattle.period_terms.specs.declared.{answer.Offer.TheVariants.{Full, Kept, Replaced}, event.Via.Via}
use Rattle.period_terms.specs.{declared.state.State.State, Schedules.cutoff_of, States.{Outcome, unchanged_outcome}}
use Rattle.period_terms.specs.{States.{is_voting, vote_of}, Offers.{most_vote_changes, is_late, with_vote}}
use Rattle.period_core.specs.declared.judging.Judged.{Judged, TheVariants.{Refused, New, Better}}

-- what is told of a rank, beside that of the held vote of its authority
abbrev pub judged_rank : Option Rank → Rank → Bool → Judged
judged_rank None rank full = if full then Refused Full else New
judged_rank (Some held) rank full =
    if is_above held rank then Refused (Older held)
    else if is_above rank held then (if full then Refused Full else Better held)
    else Refused (Have held)

-- what is told of a vote that comes this way at this moment
abbrev pub judged_vote : State → ReadVote → Via → ℕ → Judged
judged_vote state vote via now =
    if not (vote.says.valid_after == state.valid_after) then Refused (OtherPeriod state.valid_after)
    else if not (has_member state.roster vote.says.identity) then Refused (Stranger vote.says.identity)
    else if is_late state via now
    then Refused (Late now (cutoff_of via state.schedule state.valid_after) (not (is_voting state.stage)))
    else judged_rank (option_map rank_of (vote_of state.votes vote.says.identity)) (rank_of vote)
    (nat_le most_vote_changes state.vote_changes)

-- a vote outranks that of its authority which is held, where one is
abbrev pub Beats : List ReadVote → ReadVote → Type 0
Beats votes vote = (held : ReadVote) → vote_of votes vote.says.identity ≡ Some held → outranks vote held ≡ true

-- the outcome of what is told
abbrev pub settled_vote : State → ReadVote → Judged → Outcome Offer
settled_vote state vote (Refused answer) = unchanged_outcome state answer
settled_vote state vote New = record { answer = Kept (state.front + 1); after = with_vote vote state }
settled_vote state vote (Better old) = record { answer = Replaced (state.front + 1) old; after = with_vote vote state }
