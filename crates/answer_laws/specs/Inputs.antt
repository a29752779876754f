-- The votes that an input is, as a relation.
use Rattle.std.specs.Prelude.{◌≡◌, ◌≢◌, ◌↔◌, ℕ, ◌≤◌, List, [], ◌∷◌, length, None, Ok}
use Rattle.vote_terms.specs.Votes.{ReadVote}
use Rattle.vote_doc.specs.Reading.{vote_from}
use Rattle.compute_command.specs.Votes.{most_votes, one_more, votes_of}

-- nothing but blank lines stands in the input from a place on
abbrev pub EndsAt : ℕ → List ℕ → Type 0
EndsAt place bytes = one_more place bytes ≡ None

-- These votes stand in the input from a place on: something else than blank lines stands there, the first of them begins with it, and the
-- others stand from its end on. Behind the last one stand blank lines alone.
abbrev pub AreVotes : ℕ → List ReadVote → List ℕ → Type 0
AreVotes place [] bytes = EndsAt place bytes
AreVotes place (vote ∷ votes) bytes =
    (one_more place bytes ≢ None) × (end : ℕ) × (vote_from place bytes ≡ Ok (vote, end)) × AreVotes end votes bytes

-- An input is these votes exactly where they stand in it from its first byte on and are no more than 64.
abbrev pub InputsAreVotes : Type 0
InputsAreVotes = (bytes : List ℕ) (votes : List ReadVote)
    → (votes_of bytes ≡ Ok votes) ↔ (AreVotes 0 votes bytes × (length votes ≤ most_votes))
