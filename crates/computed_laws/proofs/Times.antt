-- The times of a consensus are those of votes, or 0.
use Rattle.std.{proofs.{Common.{ℕ, ◌≤◌, List, map}, lemmas.List.Elements.All-map}, specs.Prelude.All}
use Rattle.vote_terms.specs.Votes.{ReadVote}
use Rattle.compute_terms.specs.Times.{median_of}
use Rattle.computed_laws.proofs.Medians.{median_within}

-- a number of each vote that is at most so much
pub time_within : (most : ℕ) (value : ReadVote → ℕ) (votes : List ReadVote) → All (λ (vote : ReadVote). value vote ≤ most) votes
    → median_of value votes ≤ most
time_within most value votes all = median_within most (map value votes) (All-map (λ (n : ℕ). n ≤ most) value votes all)
