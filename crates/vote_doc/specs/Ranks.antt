-- The digest of a vote's rank, where it is known.
use Rattle.std.specs.Prelude.{◌≡◌, Option, Some, None}
use Rattle.dir_values.specs.declared.digest.Digest2.{Digest2}
use Rattle.vote_terms.specs.Votes.{ReadVote, rank_of}

-- this is the digest of the vote's bytes, or it is not known
abbrev pub IsWholeOf : ReadVote → Option Digest2 → Type 0
IsWholeOf vote None = Unit {0}
IsWholeOf vote (Some whole) = whole ≡ (rank_of vote).whole
