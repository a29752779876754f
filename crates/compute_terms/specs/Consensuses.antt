-- The consensus of held votes (dir-spec, "Computing a consensus from a set of votes").
use Rattle.std.specs.Prelude.{ℕ, List, map}
use Rattle.vote_terms.specs.Votes.{ReadVote, vote_digest}
use Rattle.count_terms.specs.declared.newest.Newest.{Newest}
use Rattle.compute_terms.specs.{Times.median_of, Flags.known_flags, Lists.{listed_params, lists_of}}
use Rattle.compute_terms.specs.{Randoms.{agreed_random, least_agreements}, Methods.chosen_method, Routers.routers}
use Rattle.value_groups.specs.declared.line.RandomLine.TheVariants.{Previous, Current}
use Rattle.bandwidth_rules.specs.{Limits.unmeasured_limit, Weights.relay_weights}
use Rattle.consensus_terms.specs.declared.consensus.{Consensus.Consensus, ConsensusFacts.ConsensusFacts}
use Rattle.consensus_terms.specs.declared.consensus.SourceLine.{SourceLine}

-- what a consensus says of a vote's authority
abbrev pub source_of : ReadVote → SourceLine
source_of vote = record {
  nickname = vote.says.nickname;
  identity = vote.says.identity;
  address = vote.says.address;
  ip = vote.says.ip;
  dir_port = vote.says.dir_port;
  or_port = vote.says.or_port;
  contact = vote.says.contact;
  vote_digest = vote_digest vote;
}

-- how many votes must at least have a shared random value that the consensus of votes says
abbrev pub agreements_of : ℕ → ℕ → List ReadVote → ℕ
agreements_of method roster votes =
    least_agreements method roster (listed_params roster votes)
    (median_of (λ vote. vote.says.valid_after) votes) (median_of (λ vote. vote.says.fresh_until) votes)

-- what the consensus of votes says but for its weights, where this is the newest method that is known, and the roster
-- has so many authorities
abbrev pub facts_of : Newest → ℕ → List ReadVote → ConsensusFacts
facts_of newest roster votes = record {
  method = chosen_method newest votes;
  valid_after = median_of (λ vote. vote.says.valid_after) votes;
  fresh_until = median_of (λ vote. vote.says.fresh_until) votes;
  valid_until = median_of (λ vote. vote.says.valid_until) votes;
  vote_seconds = median_of (λ vote. vote.says.vote_seconds) votes;
  dist_seconds = median_of (λ vote. vote.says.dist_seconds) votes;
  known_flags = known_flags (chosen_method newest votes) votes;
  lists = lists_of (chosen_method newest votes) roster votes;
  random_previous = agreed_random Previous roster (agreements_of (chosen_method newest votes) roster votes) votes;
  random_current = agreed_random Current roster (agreements_of (chosen_method newest votes) roster votes) votes;
  sources = map source_of votes;
  routers = routers roster (chosen_method newest votes)
      (unmeasured_limit (chosen_method newest votes) (listed_params roster votes)) votes;
}

-- the consensus that says this, with the weights that follow from its method, its relays and its params
abbrev pub weighted_consensus : ConsensusFacts → Consensus
weighted_consensus facts = record {
  facts = facts;
  weights = relay_weights facts.method facts.routers facts.lists.params;
}

-- the consensus of the held votes, where this is the newest method that is known, and the roster has so many
-- authorities
abbrev pub consensus : Newest → ℕ → List ReadVote → Consensus
consensus newest roster votes = weighted_consensus (facts_of newest roster votes)
