-- How many relays the consensus of votes lists (dir-spec, "Computing a consensus from a set of votes").
use Rattle.std.specs.Prelude.{◌≡◌, ℕ, ◌<◌, ◌≤◌, ◌^◌, List, length, All, Ok}
use Rattle.base64.specs.GeneralPurpose.{IsBytes}
use Rattle.vote_terms.specs.{Held.held, Votes.ReadVote}
use Rattle.vote_doc.specs.Reading.{vote_from}
use Rattle.count_terms.specs.declared.newest.Newest.{Newest}
use Rattle.compute_terms.specs.Consensuses.{facts_of}
use Rattle.compute_command.specs.Votes.{most_votes, votes_of}

-- The vote was read from bytes, wherever it begins in them.
pub record WasRead (vote : ReadVote) : Type 0 where
  pub start : ℕ
  pub bytes : List ℕ
  pub after : ℕ
  pub are : IsBytes bytes
  pub read : vote_from start bytes ≡ Ok (vote, after)

-- The consensus of these votes lists fewer than 2 ^ 22 relays, whatever the newest method that is known and the roster.
abbrev pub ListsFew : List ReadVote → Type 0
ListsFew votes = (newest : Newest) (roster : ℕ) → length (facts_of newest roster votes).routers < 2 ^ 22

-- So does that of 64 votes or fewer that were read from bytes.
abbrev pub RelaysOfVotesAreFew : Type 0
RelaysOfVotesAreFew = (votes : List ReadVote) → length votes ≤ most_votes → All WasRead votes → ListsFew votes

-- So does that of the votes that are held of an input of bytes.
abbrev pub RelaysOfInputsAreFew : Type 0
RelaysOfInputsAreFew = (bytes : List ℕ) (votes : List ReadVote) → IsBytes bytes → votes_of bytes ≡ Ok votes
    → ListsFew (held votes)
