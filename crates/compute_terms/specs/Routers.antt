-- The relays that a consensus lists (dir-spec, "Computing a consensus from a set of votes").
use Rattle.std.specs.Prelude.{ℕ, List, filter, Option, None, option_map, option_and_then, if◌then◌else◌}
use Rattle.std.specs.List.{filter_map}
use Rattle.dir_values.specs.declared.digest.Fingerprint.{Fingerprint}
use Rattle.vote_terms.specs.{Votes.ReadVote, declared.entry.EntryFacts.EntryFacts}
use Rattle.consensus_terms.specs.declared.router.Routerline.{Routerline}
use Rattle.compute_terms.specs.{declared.identity.EdPart.EdPart, Listings.{Listing, listings, identities_in}}
use Rattle.compute_terms.specs.{Listings.entries_of, Identities.{eds_of, included_part, belongs}, Tuples.Tuple}
use Rattle.compute_terms.specs.{Tuples.chosen_tuple, RelayFlags.{router_flags, is_running_and_valid}}
use Rattle.compute_terms.specs.Lines.{chosen_version, chosen_protocols, chosen_policy, chosen_micro, chosen_address}
use Rattle.compute_terms.specs.Bandwidths.{relay_bandwidth, cap_of}

-- what a consensus by this method says of a relay with these flags, these entries and this tuple
abbrev pub routerline_of : ℕ → Option ℕ → Fingerprint → List (List ℕ) → List EntryFacts → Tuple → Routerline
routerline_of method most rsa flags entries tuple = record {
  nickname = tuple.nickname;
  identity = rsa;
  digest = tuple.digest;
  published = tuple.published;
  ip = tuple.ip;
  or_port = tuple.or_port;
  dir_port = tuple.dir_port;
  a = chosen_address method tuple entries;
  m = chosen_micro method tuple.digest entries;
  flags = flags;
  v = chosen_version entries;
  pr = chosen_protocols entries;
  w = relay_bandwidth most entries;
  p = chosen_policy tuple.digest entries;
}

-- those of these listings that belong to an identity with this part
abbrev pub belonging_listings : EdPart → List Listing → List Listing
belonging_listings ed said = filter (λ (l : Listing). belongs ed l.entry.ed) said

-- what is said of a relay with these flags and these entries, where it is listed
abbrev pub router_with : ℕ → Option ℕ → Fingerprint → List (List ℕ) → List EntryFacts → Option Routerline
router_with method most rsa flags entries =
    if is_running_and_valid flags then option_map (routerline_of method most rsa flags entries) (chosen_tuple entries)
    else None

-- what is said of an identity with this part, to which these listings belong
abbrev pub router_as : ℕ → Option ℕ → List ReadVote → Fingerprint → EdPart → List Listing → Option Routerline
router_as method most votes rsa ed members =
    router_with method most rsa (router_flags method votes ed members) (entries_of members)

-- what is said of an RSA identity of which the votes say this
abbrev pub router_from : ℕ → ℕ → Option ℕ → List ReadVote → Fingerprint → List Listing → Option Routerline
router_from roster method most votes rsa said =
    option_and_then (λ ed. router_as method most votes rsa ed (belonging_listings ed said))
    (included_part roster (eds_of said))

-- what is said of an RSA identity, where it is included and listed
abbrev pub router_of : ℕ → ℕ → Option ℕ → List ReadVote → Fingerprint → Option Routerline
router_of roster method limit votes rsa = router_from roster method (cap_of limit votes) votes rsa (listings votes rsa)

-- the listed relays, ascending by RSA identity
abbrev pub routers : ℕ → ℕ → Option ℕ → List ReadVote → List Routerline
routers roster method limit votes = filter_map (router_of roster method limit votes) (identities_in votes)
