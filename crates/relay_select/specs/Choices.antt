-- What is chosen of what entries say of a relay (dir-spec, "Computing a consensus from a set of votes").
use Rattle.std.specs.{Prelude.{ℕ, Bool, false, List, filter}, Option.option_map_or}
use Rattle.vote_terms.specs.{Votes.ReadVote, declared.entry.EntryFacts.EntryFacts}
use Rattle.compute_terms.specs.declared.{belong.Belong.Belong, identity.{EdPart.EdPart, Identity.Identity}}
use Rattle.compute_terms.specs.{Listings.{Listing, listings, listing_at, entries_of}, Identities.belongs}
use Rattle.compute_terms.specs.{Routers.belonging_listings, Tuples.Tuple, Lines.{chosen_version, chosen_protocols}}
use Rattle.compute_terms.specs.Lines.{chosen_policy, chosen_micro, chosen_address}
use Rattle.relay_select.specs.{Walks.members_from, declared.choice.Choice.Choice}

-- whether the entry at a place belongs to an identity with this part
abbrev pub belongs_at : List ReadVote → EdPart → Belong → Bool
belongs_at votes ed at = option_map_or (λ (l : Listing). belongs ed l.entry.ed) (listing_at votes at) false

-- the places of the entries that belong to an identity, in the order of the votes
abbrev pub belonging_places : List ReadVote → Identity → List Belong
belonging_places votes identity = filter (belongs_at votes identity.ed) (members_from 0 votes identity.rsa)

-- these entries
abbrev pub belonging_entries : List ReadVote → Identity → List EntryFacts
belonging_entries votes identity = entries_of (belonging_listings identity.ed (listings votes identity.rsa))

-- what is chosen by this method of entries, where this tuple is
abbrev pub choice_of : ℕ → List EntryFacts → Tuple → Choice
choice_of method entries tuple = record {
  nickname = tuple.nickname;
  digest = tuple.digest;
  published = tuple.published;
  ip = tuple.ip;
  or_port = tuple.or_port;
  dir_port = tuple.dir_port;
  a = chosen_address method tuple entries;
  v = chosen_version entries;
  pr = chosen_protocols entries;
  p = chosen_policy tuple.digest entries;
  m = chosen_micro method tuple.digest entries;
}
