-- What lines say that are lists of values, in a vote's preamble and in what a vote is made of (dir-spec, "Vote and consensus status document formats").
use Rattle.std.specs.Prelude.{ℕ, ℤ, List, option_map, Option, None}
use Rattle.frame_terms.specs.declared.{document.Taken.Taken, keyword.Keyword.TheVariants.ClientVersions}
use Rattle.frame_terms.specs.declared.keyword.Keyword.TheVariants.{ServerVersions, Params, RecommendedClientProtocols}
use Rattle.frame_terms.specs.declared.keyword.Keyword.TheVariants.{RecommendedRelayProtocols, RequiredClientProtocols}
use Rattle.frame_terms.specs.declared.keyword.Keyword.TheVariants.{RequiredRelayProtocols}
use Rattle.frame_values.specs.{declared.{found.Span.Span, values.Value.Value}, Parts.part, Values.{item_at, text_if}}
use Rattle.value_groups.specs.Listed.{params_in, protocols_in, versions_in}
use Rattle.list_values.specs.declared.named.Named.{Named}
use Rattle.vote_terms.specs.declared.{lists.VoteLists.VoteLists, list_lines.ListSpans.ListSpans}

-- the lists of a document that has none
abbrev pub no_lists : ListSpans
no_lists = record {
  client_versions = None;
  server_versions = None;
  recommended_client_protocols = None;
  recommended_relay_protocols = None;
  required_client_protocols = None;
  required_relay_protocols = None;
  params = None;
}

-- where the lists stand that were taken of a document
abbrev pub lists_in : {V : Type 0} → List (Taken (Value V)) → ListSpans
lists_in taken = record {
  client_versions = text_if (item_at taken ClientVersions);
  server_versions = text_if (item_at taken ServerVersions);
  recommended_client_protocols = text_if (item_at taken RecommendedClientProtocols);
  recommended_relay_protocols = text_if (item_at taken RecommendedRelayProtocols);
  required_client_protocols = text_if (item_at taken RequiredClientProtocols);
  required_relay_protocols = text_if (item_at taken RequiredRelayProtocols);
  params = text_if (item_at taken Params);
}

-- the versions of Tor that stand in a span, where there is one
abbrev pub versions_if : List ℕ → Option Span → Option (List (List ℕ))
versions_if bytes span = option_map versions_in (option_map (part bytes) span)

-- the versions of protocols that stand in a span, where there is one
abbrev pub protocols_if : List ℕ → Option Span → Option (List (Named (List ℕ)))
protocols_if bytes span = option_map protocols_in (option_map (part bytes) span)

-- the params that stand in a span, where there is one
abbrev pub params_if : List ℕ → Option Span → Option (List (Named ℤ))
params_if bytes span = option_map params_in (option_map (part bytes) span)

-- the lists that stand there in these bytes
abbrev pub vote_lists : List ℕ → ListSpans → VoteLists
vote_lists bytes spans = record {
  client_versions = versions_if bytes spans.client_versions;
  server_versions = versions_if bytes spans.server_versions;
  recommended_client_protocols = protocols_if bytes spans.recommended_client_protocols;
  recommended_relay_protocols = protocols_if bytes spans.recommended_relay_protocols;
  required_client_protocols = protocols_if bytes spans.required_client_protocols;
  required_relay_protocols = protocols_if bytes spans.required_relay_protocols;
  params = params_if bytes spans.params;
}
