-- The versions, protocols and params of a consensus (dir-spec, "Computing a consensus from a set of votes").
use Rattle.std.specs.Prelude.{ℕ, ◌+◌, ◌*◌, ◌/◌, ℤ, List, [], length, map, Option, unwrap_or, if◌then◌else◌}
use Rattle.field_votes.specs.{Lists.{voted_params, voted_protocols}, Versions.voted_versions}
use Rattle.list_values.specs.declared.named.Named.{Named}
use Rattle.vote_terms.specs.{Votes.ReadVote, declared.lists.VoteLists.VoteLists}
use Rattle.consensus_terms.specs.{Methods.is_34_or_later, declared.consensus.ConsensusLists.ConsensusLists}

-- what each vote has on a line, nothing where it has not the line
abbrev pub members_of : {A : Type 0} → (VoteLists → Option (List A)) → List ReadVote → List (List A)
members_of line votes = map (λ (vote : ReadVote). unwrap_or (line vote.says.lists) []) votes

-- the params: those that enough votes have, each with the low median of its values
abbrev pub listed_params : ℕ → List ReadVote → List (Named ℤ)
listed_params roster votes = voted_params roster (members_of (λ (lists : VoteLists). lists.params) votes)

-- a line of versions: those that more than half of the votes with the line have on it
abbrev pub listed_versions : (VoteLists → Option (List (List ℕ))) → List ReadVote → List (List ℕ)
listed_versions line votes = voted_versions (map (λ (vote : ReadVote). line vote.says.lists) votes)

-- a line of protocols: the numbers that at least so many votes have on it
abbrev pub listed_protocols : ℕ → (VoteLists → Option (List (Named (List ℕ)))) → List ReadVote
    → List (Named (List ℕ))
listed_protocols least line votes = voted_protocols least (members_of line votes)

-- half of a roster, rounded up
abbrev pub half_of : ℕ → ℕ
half_of roster = (roster + 1) / 2

-- two thirds of a roster, rounded up
abbrev pub two_thirds_of : ℕ → ℕ
two_thirds_of roster = (2 * roster + 2) / 3

-- how many of these votes must at least have a number on a line of protocols: more than half of them, but from 34 on this
-- share of the roster
abbrev pub needed_votes : ℕ → ℕ → List ReadVote → ℕ
needed_votes method share votes = if is_34_or_later method then share else length votes / 2 + 1

-- the lists of the consensus of votes by this method, where the roster has so many authorities: from 34 on a recommended line
-- needs half of it, and a required one two thirds
abbrev pub lists_of : ℕ → ℕ → List ReadVote → ConsensusLists
lists_of method roster votes = record {
  client_versions = listed_versions (λ (lists : VoteLists). lists.client_versions) votes;
  server_versions = listed_versions (λ (lists : VoteLists). lists.server_versions) votes;
  recommended_client_protocols = listed_protocols (needed_votes method (half_of roster) votes)
      (λ (lists : VoteLists). lists.recommended_client_protocols) votes;
  recommended_relay_protocols = listed_protocols (needed_votes method (half_of roster) votes)
      (λ (lists : VoteLists). lists.recommended_relay_protocols) votes;
  required_client_protocols = listed_protocols (needed_votes method (two_thirds_of roster) votes)
      (λ (lists : VoteLists). lists.required_client_protocols) votes;
  required_relay_protocols = listed_protocols (needed_votes method (two_thirds_of roster) votes)
      (λ (lists : VoteLists). lists.required_relay_protocols) votes;
  params = listed_params roster votes;
}
