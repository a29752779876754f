-- The shared random values that votes agree on are in range.
use Rattle.std.{proofs.Common.{List, ℕ}, specs.{Prelude.{All, IfSome}, List.filter_map}}
use Rattle.group_laws.specs.LineAgain.{IsRandomInRange}
use Rattle.value_groups.specs.declared.line.RandomLine.{RandomLine}
use Rattle.compute_terms.specs.Randoms.{agreed_random, is_agreed, random_of}
use Rattle.vote_terms.specs.Votes.{ReadVote}
use Rattle.computed_laws.proofs.Kept.{All-filter_map, IfSome-find}

pub random_in_range : (line : RandomLine) (roster least : ℕ) (votes : List ReadVote)
    → All (λ (vote : ReadVote). IfSome (random_of line vote) IsRandomInRange) votes
    → IfSome (agreed_random line roster least votes) IsRandomInRange
random_in_range line roster least votes each =
    IfSome-find IsRandomInRange (is_agreed line roster least votes) (filter_map (random_of line) votes)
    (All-filter_map IsRandomInRange (random_of line) votes each)
