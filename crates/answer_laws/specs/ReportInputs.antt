-- The votes that an input of `report` begins with, and where its consensus begins, as a relation.
use Rattle.std.specs.Prelude.{◌≡◌, ◌↔◌, ℕ, ◌+◌, ◌≤◌, List, [], ◌∷◌, length, Some, None, Ok}
use Rattle.item_terms.specs.Items.{Item, items_from, no_limit}
use Rattle.vote_terms.specs.Votes.{ReadVote}
use Rattle.vote_doc.specs.Reading.{vote_from}
use Rattle.report_command.specs.Inputs.{line_place, line_size, most_votes, votes_of}

-- The first line from a place on that is not blank is `report-consensus`, and the other place is behind it.
pub record IsLineAt (place : ℕ) (bytes : List ℕ) (behind : ℕ) : Type 0 where
  pub line : ℕ
  pub stands : line_place place bytes ≡ Some line
  pub is_behind : behind ≡ line + line_size

-- It is another line, and an item stands there.
pub record IsOther (place : ℕ) (bytes : List ℕ) : Type 0 where
  pub none : line_place place bytes ≡ None
  pub item : Item
  pub others : List Item
  pub stand : (items_from place no_limit bytes).items ≡ item ∷ others

-- These votes stand in the input from a place on: something else than that line stands there, the first of them begins
-- with it, and the others stand from its end on. Behind the last one stands the line, and the other place is behind it.
abbrev pub AreVotesBefore : ℕ → List ReadVote → ℕ → List ℕ → Type 0
AreVotesBefore place [] behind bytes = IsLineAt place bytes behind
AreVotesBefore place (vote ∷ votes) behind bytes =
    IsOther place bytes × (end : ℕ) × (vote_from place bytes ≡ Ok (vote, end)) × AreVotesBefore end votes behind bytes

-- An input begins with these votes, and its consensus at this place, exactly where they stand in it so from its first byte
-- on and are no more than 64.
abbrev pub ReportInputsAreVotes : Type 0
ReportInputsAreVotes = (bytes : List ℕ) (votes : List ReadVote) (behind : ℕ)
    → (votes_of bytes ≡ Ok (votes, behind)) ↔ (AreVotesBefore 0 votes behind bytes × (length votes ≤ most_votes))
