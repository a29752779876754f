-- What a consensus says of the authorities whose votes it counts is in range.
use Rattle.std.{proofs.{Common.{List, map}, lemmas.List.Elements.{All-map, All-weaker}}, specs.Prelude.All}
use Rattle.vote_terms.specs.Votes.{ReadVote}
use Rattle.consensus_laws.specs.Again.{IsAuthorityInRange}
use Rattle.compute_terms.specs.Consensuses.{source_of}
use Rattle.computed_laws.specs.Computed.{AreVotesInRange, IsVoteInRange}
use Rattle.vote_laws.proofs.Digests.{twenty}

source_in_range : (vote : ReadVote) → IsVoteInRange vote.says → IsAuthorityInRange (source_of vote)
source_in_range vote is = record { line = is.source; vote_digest = twenty vote.signed }

pub sources_in_range : (votes : List ReadVote) → AreVotesInRange votes → All IsAuthorityInRange (map source_of votes)
sources_in_range votes all =
    All-map IsAuthorityInRange source_of votes
    (All-weaker (λ (vote : ReadVote). IsVoteInRange vote.says) (λ (vote : ReadVote). IsAuthorityInRange (source_of vote))
    source_in_range votes all)
