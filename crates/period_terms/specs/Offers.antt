-- What an offered vote is answered, and what it changes (dir-spec, "Vote-exchange").
use Rattle.std.specs.Prelude.{ℕ, ◌+◌, ◌==◌, nat_le, Bool, not, ◌||◌, Option, Some, None, if◌then◌else◌}
use Rattle.dir_values.specs.Rosters.{has_member}
use Rattle.vote_terms.specs.{Votes.{ReadVote, rank_of}, Held.{outranks, votes_with}}
use Rattle.period_terms.specs.declared.answer.Offer.{Offer, TheVariants.{OtherPeriod, Stranger, Late, Have, Older}}
use Rattle.period_terms.specs.declared.{answer.Offer.TheVariants.{Full, Kept, Replaced}, change.Change.Change}
use Rattle.period_terms.specs.{declared.{event.Via.Via, state.State.State}, Schedules.cutoff_of, States.Outcome}
use Rattle.period_terms.specs.States.{unchanged_outcome, is_voting, vote_of, change, with_change}
use Rattle.period_terms.specs.declared.change.ChangeKind.TheVariants as kind

-- how many changes of votes a period may have
abbrev pub most_vote_changes : ℕ
most_vote_changes = 65535

-- the short form of a kept vote
abbrev pub vote_change : ReadVote → Change
vote_change vote = change kind.Vote (Some vote.says.identity) vote.says.published (rank_of vote).whole.0

-- the state with the vote held, in place of its authority's
abbrev pub with_vote : ReadVote → State → State
with_vote vote state =
    with_change (vote_change vote)
    (record state { votes = votes_with state.votes vote; vote_changes = state.vote_changes + 1 })

-- whether a vote that comes this way at this moment is late
abbrev pub is_late : State → Via → ℕ → Bool
is_late state via now = not (is_voting state.stage) || nat_le (cutoff_of via state.schedule state.valid_after) now

-- the outcome of a vote that is held from now on, unless the period has as many changes of votes as it may have
abbrev pub kept_vote : State → ReadVote → Offer → Outcome Offer
kept_vote state vote answer =
    if nat_le most_vote_changes state.vote_changes then unchanged_outcome state Full
    else record { answer = answer; after = with_vote vote state }

-- the outcome of a vote where this one of its authority is held
abbrev pub compared_vote : State → ReadVote → Option ReadVote → Outcome Offer
compared_vote state vote None = kept_vote state vote (Kept (state.front + 1))
compared_vote state vote (Some held) =
    if outranks held vote then unchanged_outcome state (Older (rank_of held))
    else if outranks vote held then kept_vote state vote (Replaced (state.front + 1) (rank_of held))
    else unchanged_outcome state (Have (rank_of held))

-- the outcome of a vote that comes this way at this moment
unfoldable pub offer : State → ReadVote → Via → ℕ → Outcome Offer
offer state vote via now =
    if not (vote.says.valid_after == state.valid_after) then unchanged_outcome state (OtherPeriod state.valid_after)
    else if not (has_member state.roster vote.says.identity) then unchanged_outcome state (Stranger vote.says.identity)
    else if is_late state via now
    then unchanged_outcome state (Late now (cutoff_of via state.schedule state.valid_after) (not (is_voting state.stage)))
    else compared_vote state vote (vote_of state.votes vote.says.identity)
