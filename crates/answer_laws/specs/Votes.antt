-- The votes of an input of bytes are such as a consensus that can be read is computed of (dir-spec, "Computing a consensus from
-- a set of votes").
use Rattle.std.specs.Prelude.{◌≡◌, ℕ, List, All, Ok}
use Rattle.base64.specs.GeneralPurpose.{IsBytes}
use Rattle.vote_terms.specs.{Held.held, Votes.ReadVote}
use Rattle.vote_doc.specs.Reading.{vote_from}
use Rattle.computed_laws.specs.{Computed.IsVoteInRange, WithinLimits.FillsLines}
use Rattle.range_laws.specs.Votes.{IsInRangeButForLimits}
use Rattle.compute_command.specs.Votes.{votes_of}

-- The vote is fit: it says what can be read, where a consensus takes something of it, and its texts may be the rests of lines.
pub record IsFit (vote : ReadVote) : Type 0 where
  pub in_range : IsVoteInRange vote.says
  pub fills : FillsLines vote.says

-- A vote that is in range, but for the limits, is fit.
abbrev pub VotesInRangeAreFit : Type 0
VotesInRangeAreFit = (vote : ReadVote) → IsInRangeButForLimits vote.says → IsFit vote

-- A vote that was read from bytes, wherever it begins in them, is fit.
abbrev pub VotesReadAreFit : Type 0
VotesReadAreFit = (start : ℕ) (bytes : List ℕ) (vote : ReadVote) (after : ℕ) → IsBytes bytes
    → vote_from start bytes ≡ Ok (vote, after) → IsFit vote

-- So is each vote of an input of bytes, and each that is held of them.
abbrev pub VotesOfInputsAreFit : Type 0
VotesOfInputsAreFit = (bytes : List ℕ) (votes : List ReadVote) → IsBytes bytes → votes_of bytes ≡ Ok votes
    → All IsFit votes × All IsFit (held votes)
