-- Which relays a consensus lists (dir-spec, "Computing a consensus from a set of votes").
use Rattle.std.specs.{Prelude.{◌≡◌, ℕ, Bool, false, List}, Option.option_map_or, List.list_any}
use Rattle.dir_values.specs.{declared.digest.Fingerprint.Fingerprint, Digests.same_identity}
use Rattle.vote_terms.specs.Votes.{ReadVote}
use Rattle.count_terms.specs.declared.newest.Newest.{Newest}
use Rattle.consensus_terms.specs.declared.router.Routerline.{Routerline}
use Rattle.compute_terms.specs.{declared.identity.EdPart.EdPart, Listings.listings, Methods.chosen_method}
use Rattle.compute_terms.specs.{Identities.{eds_of, included_part}, RelayFlags.{router_flags, is_running_and_valid}}
use Rattle.compute_terms.specs.{Routers.belonging_listings, Consensuses.consensus}

-- whether an RSA identity stands among routers
abbrev pub has_router : List Routerline → Fingerprint → Bool
has_router routers rsa = list_any (λ (r : Routerline). same_identity r.identity rsa) routers

-- the flags by a method of an RSA identity that is included with this part
abbrev pub relay_flags : ℕ → List ReadVote → Fingerprint → EdPart → List (List ℕ)
relay_flags method votes rsa ed = router_flags method votes ed (belonging_listings ed (listings votes rsa))

-- whether an RSA identity is included and its flags have `Running` and `Valid`
abbrev pub is_listed_relay : ℕ → ℕ → List ReadVote → Fingerprint → Bool
is_listed_relay method roster votes rsa =
    option_map_or (λ ed. is_running_and_valid (relay_flags method votes rsa ed))
    (included_part roster (eds_of (listings votes rsa))) false

-- An RSA identity stands among the routers of a consensus exactly where it is included and its flags have `Running`
-- and `Valid`, whatever the newest method that is known.
abbrev pub ListedRelaysAreListed : Type 0
ListedRelaysAreListed = (newest : Newest) (roster : ℕ) (votes : List ReadVote) (rsa : Fingerprint)
    → has_router (consensus newest roster votes).facts.routers rsa
    ≡ is_listed_relay (chosen_method newest votes) roster votes rsa
