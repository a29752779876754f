-- What is computed of votes in range is in range, and its text is read again.
use Rattle.std.proofs.{Common.{ℕ, List, Option}, lemmas.List.{Elements.{All-filter, All-weaker}, Kept.AllPairs-filter}}
use Rattle.std.specs.Prelude.{All, IfSome}
use Rattle.dir_bytes.specs.Causes.{last_moment}
use Rattle.list_values.specs.declared.named.Named.{Named}
use Rattle.value_laws.specs.Ranges.{AreProtocolsInRange, AreVersionsInRange}
use Rattle.vote_terms.specs.{Votes.ReadVote, declared.lists.VoteLists.VoteLists}
use Rattle.vote_laws.specs.Again as votes_
use Rattle.consensus_terms.specs.Routers.{is_listed}
use Rattle.consensus_laws.{specs.Again.{AreListsInRange, IsRouterInRange}, proofs.SignedParts.computed_again}
use Rattle.bandwidth_rules.specs.Limits.{unmeasured_limit}
use Rattle.compute_terms.specs.{Consensuses.{agreements_of, consensus}, Lists.{half_of, listed_params, lists_of}}
use Rattle.compute_terms.specs.{Lists.{needed_votes, two_thirds_of}, Methods.{chosen_method, listed_methods}}
use Rattle.compute_terms.specs.Routers.{routers}
use Rattle.computed_laws.specs.Computed.{AreVotesInRange, ComputedFactsAreInRange, ComputedTextsAreReadAgain}
use Rattle.computed_laws.{specs.Computed.{IsVoteInRange, ReadableVotesAreInRange}, proofs.KnownFlags.KnowNames}
use Rattle.computed_laws.proofs.{KnownFlags.known_in_range, ListedParams.{params_in_range, protocols_in_range}}
use Rattle.computed_laws.proofs.{ListedRandoms.random_in_range, ListedVersions.versions_in_range}
use Rattle.computed_laws.proofs.{RelayEntries.AllEntries, RelayOrder.{Before, relays_ascend, relays_in_range}}
use Rattle.computed_laws.proofs.{SaidFacts.{facts_said, method_within}, Sources.sources_in_range, Times.time_within}
use Rattle.value_groups.specs.declared.line.RandomLine.TheVariants as line

pub readable_in_range : ReadableVotesAreInRange
readable_in_range facts is = record {
  valid_after = is.valid_after;
  fresh_until = is.fresh_until;
  valid_until = is.valid_until;
  vote_seconds = is.vote_seconds;
  dist_seconds = is.dist_seconds;
  known_flags = is.known_flags.each;
  lists = is.lists;
  source = record {
    nickname_is = is.nickname;
    identity_is = is.identity;
    address_is = is.address;
    ip_is = is.ip;
    dir_port_is = is.dir_port;
    or_port_is = is.or_port;
  };
  random_previous = is.random_previous;
  random_current = is.random_current;
  entries = is.entries.each;
}

module _ (votes : List ReadVote) (all : AreVotesInRange votes) where
  -- what is said of each vote follows from what it says
  each : (P : ReadVote → Type 0) → ((vote : ReadVote) → IsVoteInRange vote.says → P vote) → All P votes
  each P from = All-weaker (λ (vote : ReadVote). IsVoteInRange vote.says) P from votes all

  names : KnowNames votes
  names = each _ (λ vote is. is.known_flags)

  entries : AllEntries votes_.IsEntryInRange votes
  entries = each _ (λ vote is. is.entries)

  versions : (line : VoteLists → Option (List (List ℕ)))
      → ((lists : VoteLists) → votes_.AreListsInRange lists → IfSome (line lists) AreVersionsInRange)
      → All (λ (vote : ReadVote). IfSome (line vote.says.lists) AreVersionsInRange) votes
  versions line from = each _ (λ vote is. from vote.says.lists is.lists)

  protocols : (line : VoteLists → Option (List (Named (List ℕ))))
      → ((lists : VoteLists) → votes_.AreListsInRange lists → IfSome (line lists) AreProtocolsInRange)
      → All (λ (vote : ReadVote). IfSome (line vote.says.lists) AreProtocolsInRange) votes
  protocols line from = each _ (λ vote is. from vote.says.lists is.lists)

  lists_in_range : (method roster : ℕ) → AreListsInRange (lists_of method roster votes)
  lists_in_range method roster = record {
    client_versions = versions_in_range (λ (lists : VoteLists). lists.client_versions) votes
        (versions (λ (lists : VoteLists). lists.client_versions) (λ lists is. is.client_versions));
    server_versions = versions_in_range (λ (lists : VoteLists). lists.server_versions) votes
        (versions (λ (lists : VoteLists). lists.server_versions) (λ lists is. is.server_versions));
    recommended_client_protocols = protocols_in_range (needed_votes method (half_of roster) votes)
        (λ (lists : VoteLists). lists.recommended_client_protocols) votes
        (protocols (λ (lists : VoteLists). lists.recommended_client_protocols) (λ lists is. is.recommended_client_protocols));
    recommended_relay_protocols = protocols_in_range (needed_votes method (half_of roster) votes)
        (λ (lists : VoteLists). lists.recommended_relay_protocols) votes
        (protocols (λ (lists : VoteLists). lists.recommended_relay_protocols) (λ lists is. is.recommended_relay_protocols));
    required_client_protocols = protocols_in_range (needed_votes method (two_thirds_of roster) votes)
        (λ (lists : VoteLists). lists.required_client_protocols) votes
        (protocols (λ (lists : VoteLists). lists.required_client_protocols) (λ lists is. is.required_client_protocols));
    required_relay_protocols = protocols_in_range (needed_votes method (two_thirds_of roster) votes)
        (λ (lists : VoteLists). lists.required_relay_protocols) votes
        (protocols (λ (lists : VoteLists). lists.required_relay_protocols) (λ lists is. is.required_relay_protocols));
    params = params_in_range roster votes
        (each (λ (vote : ReadVote). IfSome vote.says.lists.params votes_.AreVoteParams) (λ vote is. is.lists.params));
  }

pub facts_in_range : ComputedFactsAreInRange
facts_in_range flavour newest roster votes all =
    let method = chosen_method newest votes in
    let limit = unmeasured_limit method (listed_params roster votes) in
    let least = agreements_of method roster votes in
    let relays = routers roster method limit votes in
    record {
      method = method_within newest (listed_methods votes);
      valid_after = time_within last_moment (λ vote. vote.says.valid_after) votes
          (each votes all _ (λ vote is. is.valid_after));
      fresh_until = time_within last_moment (λ vote. vote.says.fresh_until) votes
          (each votes all _ (λ vote is. is.fresh_until));
      valid_until = time_within last_moment (λ vote. vote.says.valid_until) votes
          (each votes all _ (λ vote is. is.valid_until));
      vote_seconds = time_within 4294967295 (λ vote. vote.says.vote_seconds) votes
          (each votes all _ (λ vote is. is.vote_seconds));
      dist_seconds = time_within 4294967295 (λ vote. vote.says.dist_seconds) votes
          (each votes all _ (λ vote is. is.dist_seconds));
      known_flags = known_in_range method votes (names votes all);
      lists = lists_in_range votes all method roster;
      random_previous = random_in_range line.Previous roster least votes
          (each votes all _ (λ vote is. is.random_previous));
      random_current = random_in_range line.Current roster least votes
          (each votes all _ (λ vote is. is.random_current));
      sources = sources_in_range votes all;
      routers = All-filter (is_listed flavour) (IsRouterInRange flavour) relays
          (relays_in_range flavour roster method limit votes (names votes all) (entries votes all));
      ascending = AllPairs-filter Before (is_listed flavour) relays (relays_ascend roster method limit votes);
    }

pub texts_again : ComputedTextsAreReadAgain
texts_again flavour newest roster votes lines all signatures items =
    computed_again flavour (consensus newest roster votes) lines
    (record {
      facts = facts_said flavour (consensus newest roster votes).facts (facts_in_range flavour newest roster votes all);
      signatures = signatures;
      items = items;
    })
