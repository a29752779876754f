-- The relays that a consensus lists are in range, and ascend by identity.
use Rattle.std.proofs.{Common.{◌≡◌, ℕ, Bool, true, false, List, Option, Some, None, refl}, lemmas.List.Elements.All-map}
use Rattle.std.{proofs.lemmas.List.Elements.All-weaker, specs.Prelude.{All, AllPairs, IfSome, option_and_then}}
use Rattle.std.specs.{Prelude.{option_map, if◌then◌else◌}, List.flat_map}
use Rattle.dir_values.specs.{Digests.identity_below, FlagSets.as_set, declared.digest.Fingerprint.Fingerprint}
use Rattle.dir_values.proofs.Flags.{Ascend-as_set}
use Rattle.frame_values.specs.Ranges.{AreTwenty}
use Rattle.vote_terms.specs.{Votes.ReadVote, declared.entry.EntryFacts.EntryFacts}
use Rattle.vote_laws.{specs.Again.IsEntryInRange, proofs.{FlagSets.All-as_set, Members.AllPairs-map}}
use Rattle.consensus_terms.specs.declared.{flavour.Flavour.Flavour, router.Routerline.Routerline}
use Rattle.consensus_laws.specs.Again.{Ascending, IsRouterInRange}
use Rattle.compute_terms.specs.{Bandwidths.cap_of, Identities.{eds_of, included_part}, Listings.{Listing, entries_of}}
use Rattle.compute_terms.specs.{Listings.{identities_in, identities_of, listings}, RelayFlags.is_running_and_valid}
use Rattle.compute_terms.specs.{RelayFlags.router_flags, Routers.{belonging_listings, router_as, router_of}}
use Rattle.compute_terms.specs.{Routers.{routerline_of, routers}, Tuples.{Tuple, chosen_tuple}}
use Rattle.compute_terms.specs.declared.identity.EdPart.{EdPart}
use Rattle.computed_laws.proofs.{Kept.{All-filter_map, All-flat_map, AllPairs-filter_map}, KnownFlags.KnowNames}
use Rattle.computed_laws.proofs.{RelayEntries.AllEntries, RelayLines.relay_in_range}

-- ---- the identities

-- the bytes of the identities that votes list
abbrev bytes_in : List ReadVote → List (List ℕ)
bytes_in votes = flat_map (λ (vote : ReadVote). identities_of vote.says.entries) votes

abbrev print_of : List ℕ → Fingerprint
print_of bytes = record { 0 = bytes }

abbrev HasTwenty : Fingerprint → Type 0
HasTwenty rsa = AreTwenty rsa.0

bytes_in_range : (votes : List ReadVote) → AllEntries IsEntryInRange votes → All AreTwenty (bytes_in votes)
bytes_in_range votes all =
    All-flat_map AreTwenty (λ (vote : ReadVote). identities_of vote.says.entries) votes
    (All-weaker (λ (vote : ReadVote). All IsEntryInRange vote.says.entries)
    (λ (vote : ReadVote). All AreTwenty (identities_of vote.says.entries))
    (λ vote each. All-map AreTwenty (λ (entry : EntryFacts). entry.identity.0) vote.says.entries
    (All-weaker IsEntryInRange (λ (entry : EntryFacts). AreTwenty entry.identity.0) (λ entry is. is.relay.identity_is)
    vote.says.entries each)) votes all)

identities_in_range : (votes : List ReadVote) → AllEntries IsEntryInRange votes → All HasTwenty (identities_in votes)
identities_in_range votes all =
    All-map HasTwenty print_of (as_set (bytes_in votes)) (All-as_set AreTwenty (bytes_in votes) (bytes_in_range votes all))

abbrev Below : Fingerprint → Fingerprint → Type 0
Below earlier later = identity_below earlier later ≡ true

identities_ascend : (votes : List ReadVote) → AllPairs Below (identities_in votes)
identities_ascend votes = AllPairs-map Below print_of (as_set (bytes_in votes)) (Ascend-as_set (bytes_in votes))

-- ---- the relays

-- each that is listed is in range
pub relays_in_range : (flavour : Flavour) (roster method : ℕ) (limit : Option ℕ) (votes : List ReadVote) → KnowNames votes
    → AllEntries IsEntryInRange votes → All (IsRouterInRange flavour) (routers roster method limit votes)
relays_in_range flavour roster method limit votes names entries =
    All-filter_map (IsRouterInRange flavour) (router_of roster method limit votes) (identities_in votes)
    (All-weaker HasTwenty (λ (rsa : Fingerprint). IfSome (router_of roster method limit votes rsa) (IsRouterInRange flavour))
    (λ rsa identity. relay_in_range flavour roster method limit votes rsa identity names entries)
    (identities_in votes) (identities_in_range votes entries))

-- a relay has an identity
abbrev Has : Fingerprint → Routerline → Type 0
Has rsa router = router.identity ≡ rsa

named_if : (method : ℕ) (most : Option ℕ) (rsa : Fingerprint) (flags : List (List ℕ)) (entries : List EntryFacts) (b : Bool)
    (o : Option Tuple) → IfSome (if b then option_map (routerline_of method most rsa flags entries) o else None) (Has rsa)
named_if method most rsa flags entries true None = tt
named_if method most rsa flags entries true (Some tuple) = refl
named_if method most rsa flags entries false o = tt

named_by : (method : ℕ) (most : Option ℕ) (votes : List ReadVote) (rsa : Fingerprint) (said : List Listing) (o : Option EdPart)
    → IfSome (option_and_then (λ ed. router_as method most votes rsa ed (belonging_listings ed said)) o) (Has rsa)
named_by method most votes rsa said None = tt
named_by method most votes rsa said (Some ed) =
    let members = belonging_listings ed said in
    named_if method most rsa (router_flags method votes ed members) (entries_of members)
    (is_running_and_valid (router_flags method votes ed members)) (chosen_tuple (entries_of members))

-- what is said of an identity has it
named : (roster method : ℕ) (limit : Option ℕ) (votes : List ReadVote) (rsa : Fingerprint)
    → IfSome (router_of roster method limit votes rsa) (Has rsa)
named roster method limit votes rsa =
    named_by method (cap_of limit votes) votes rsa (listings votes rsa) (included_part roster (eds_of (listings votes rsa)))

abbrev pub Before : Routerline → Routerline → Type 0
Before earlier later = Below earlier.identity later.identity

before : (x y : Fingerprint) (a b : Routerline) → Has x a → Has y b → Below x y → Before a b
before x y a b is other below = rw (is, other) below

-- so they ascend
pub relays_ascend : (roster method : ℕ) (limit : Option ℕ) (votes : List ReadVote) → Ascending (routers roster method limit votes)
relays_ascend roster method limit votes =
    AllPairs-filter_map Below Before Has (router_of roster method limit votes) (named roster method limit votes) before
    (identities_in votes) (identities_ascend votes)
