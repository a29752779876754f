-- The texts that a consensus takes of votes as they stand may be the rests of lines.
use Rattle.std.proofs.{Common.{ℕ, List, [], ◌∷◌, Option, Some, None, map}, lemmas.List.Elements.{All-cons, All-map}}
use Rattle.std.{proofs.lemmas.List.Elements.{All-nil, All-weaker}, specs.{Prelude.{All, IfSome}, Str.bytes_eq}}
use Rattle.dir_values.specs.{declared.digest.Fingerprint.Fingerprint, Versions.named_order}
use Rattle.dirdoc_grammar.specs.Writing.{IsLineRest}
use Rattle.count_terms.specs.Choosing.{text_order}
use Rattle.vote_terms.specs.{Votes.ReadVote, declared.entry.EntryFacts.EntryFacts}
use Rattle.consensus_terms.specs.declared.consensus.SourceLine.{SourceLine}
use Rattle.compute_terms.specs.{Bandwidths.cap_of, Consensuses.source_of, Identities.{eds_of, included_part}}
use Rattle.compute_terms.specs.{Lines.policy_with, Listings.{identities_in, listings}, RelayFlags.router_flags}
use Rattle.compute_terms.specs.{Routers.{belonging_listings, router_of, routerline_of, routers}, Tuples.Tuple}
use Rattle.compute_terms.specs.Tuples.{chosen_tuple}
use Rattle.computed_laws.{specs.WithinLimits.{AllFillLines, FillsLines, HasLineTexts}, proofs.FactItems.HasTexts}
use Rattle.computed_laws.proofs.{Kept.All-filter_map, RelayEntries.{AllEntries, chosen_of, value_if}}
use Rattle.computed_laws.proofs.RelayLines.{line_within}

everywhere : {X : Type 0} (P : X → Type 0) (list : List X) → ((x : X) → P x) → All P list
everywhere P [] each = All-nil P
everywhere P (x ∷ rest) each = All-cons P x rest (each x) (everywhere P rest each)

if_some : {X : Type 0} (P : X → Type 0) (o : Option X) → ((x : X) → P x) → IfSome o P
if_some P None each = tt
if_some P (Some x) each = each x

-- contacts
pub contacts_fill : (votes : List ReadVote) → AllFillLines votes
    → All (λ (s : SourceLine). IfSome s.contact IsLineRest) (map source_of votes)
contacts_fill votes all =
    All-map (λ (s : SourceLine). IfSome s.contact IsLineRest) source_of votes
    (All-weaker (λ (vote : ReadVote). FillsLines vote.says) (λ (vote : ReadVote). IfSome vote.says.contact IsLineRest)
    (λ vote is. is.contact) votes all)

-- what is chosen among such entries
texts_chosen : (method : ℕ) (most : Option ℕ) (rsa : Fingerprint) (flags : List (List ℕ)) (members : List EntryFacts)
    (tuple : Tuple) → All HasLineTexts members → HasTexts (routerline_of method most rsa flags members tuple)
texts_chosen method most rsa flags members tuple all = record {
  version = chosen_of HasLineTexts IsLineRest named_order (λ (e : EntryFacts). e.version) members (λ e is. is.version) all;
  protocols = chosen_of HasLineTexts IsLineRest text_order (λ (e : EntryFacts). e.protocols) members (λ e is. is.protocols) all;
  policy = chosen_of HasLineTexts IsLineRest text_order (policy_with tuple.digest) members
      (λ e is. value_if IsLineRest (bytes_eq e.digest.0 tuple.digest.0) e.policy is.policy) all;
}

entries_fill : (votes : List ReadVote) → AllFillLines votes → AllEntries HasLineTexts votes
entries_fill votes all =
    All-weaker (λ (vote : ReadVote). FillsLines vote.says) (λ (vote : ReadVote). All HasLineTexts vote.says.entries)
    (λ vote is. is.entries) votes all

-- those of relays
pub relays_fill : (roster method : ℕ) (limit : Option ℕ) (votes : List ReadVote) → AllFillLines votes
    → All HasTexts (routers roster method limit votes)
relays_fill roster method limit votes all =
    All-filter_map HasTexts (router_of roster method limit votes) (identities_in votes)
    (everywhere (λ (rsa : Fingerprint). IfSome (router_of roster method limit votes rsa) HasTexts) (identities_in votes)
    (λ rsa. line_within HasLineTexts HasTexts method (cap_of limit votes) votes rsa (entries_fill votes all)
    (λ ed members each.
    let flags = router_flags method votes ed (belonging_listings ed (listings votes rsa)) in
    if_some (λ (tuple : Tuple). HasTexts (routerline_of method (cap_of limit votes) rsa flags members tuple))
    (chosen_tuple members)
    (λ tuple. texts_chosen method (cap_of limit votes) rsa flags members tuple each))
    (included_part roster (eds_of (listings votes rsa)))))
