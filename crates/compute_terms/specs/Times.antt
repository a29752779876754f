-- The times of a consensus.
use Rattle.std.specs.Prelude.{ℕ, List, map}
use Rattle.vote_terms.specs.Votes.{ReadVote}
use Rattle.count_terms.specs.Counts.{low_median}

-- the low median of what votes say
abbrev pub median_of : (ReadVote → ℕ) → List ReadVote → ℕ
median_of value votes = low_median (map value votes)
