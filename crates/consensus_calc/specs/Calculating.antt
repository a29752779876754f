-- What computing a consensus answers.
pub use Rattle.consensus_terms.specs.Moments.{HasMoments}
use Rattle.std.specs.Prelude.{◌≡◌, ℕ, true, false, List, length, Result, Ok, Err}
use Rattle.vote_terms.specs.Votes.{ReadVote}
use Rattle.count_terms.specs.{Counts.over, declared.newest.Newest.Newest}
use Rattle.compute_terms.specs.Consensuses.{consensus}
use Rattle.consensus_terms.specs.declared.consensus.Consensus.{Consensus}
use Rattle.consensus_calc.specs.declared.record.CalcFault.{CalcFault, TheVariants.{TooFew, Memory}}

-- the consensus of the held votes, where this is the newest method that is known and they are of more than half of the
-- roster; and else how many there are
abbrev pub Calculates : Newest → ℕ → List ReadVote → Result Consensus CalcFault → Type 0
Calculates newest roster votes (Ok c) = (over (length votes) roster ≡ true) × (c ≡ consensus newest roster votes)
Calculates newest roster votes (Err (TooFew held of_roster)) =
    (over (length votes) roster ≡ false) × (held ≡ length votes) × (of_roster ≡ roster)
Calculates newest roster votes (Err Memory) = Unit {0}
