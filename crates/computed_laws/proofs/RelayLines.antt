-- What a consensus says of one relay is in range.
use Rattle.std.proofs.Common.{◌≡◌, ℕ, ◌<◌, ◌≤◌, ◌^◌, Bool, true, false, List, [], ◌∷◌, length, Option, Some, None}
use Rattle.std.{proofs.{Common.arith, lemmas.Option.IfSome_then}, specs.Prelude.{All, IfSome, nat_le, option_and_then}}
use Rattle.std.specs.Prelude.{option_map, if◌then◌else◌}
use Rattle.dir_bytes.specs.Causes.{last_moment}
use Rattle.dir_values.specs.{Names.is_nickname, declared.digest.{Digest1.Digest1, Digest2.Digest2}}
use Rattle.dir_values.specs.declared.digest.Fingerprint.{Fingerprint}
use Rattle.frame_values.specs.Ranges.{AreTwenty}
use Rattle.group_laws.specs.{LineAgain.AreFlagsInRange, Ranges.AreThirtyTwo}
use Rattle.count_terms.specs.Counts.{low_median}
use Rattle.vote_terms.specs.{Votes.ReadVote, declared.entry.EntryFacts.EntryFacts}
use Rattle.vote_laws.specs.Again.{IsEntryInRange}
use Rattle.consensus_terms.specs.declared.flavour.Flavour.{Flavour, TheVariants.{Ns, Microdesc}}
use Rattle.consensus_terms.specs.declared.router.{Bandwidth.Bandwidth, Routerline.Routerline}
use Rattle.consensus_laws.specs.Again.{IsDigestInRange, IsMicroInRange, IsRouterInRange}
use Rattle.compute_terms.specs.Bandwidths.{bandwidth_values, cap_of, capped_value, measured_values, measures_needed}
use Rattle.compute_terms.specs.{Bandwidths.{relay_bandwidth, unmeasured_bandwidth}, Identities.{eds_of, included_part}}
use Rattle.compute_terms.specs.{Lines.chosen_micro, Listings.{entries_of, listings}, RelayFlags.is_running_and_valid}
use Rattle.compute_terms.specs.{RelayFlags.router_flags, Routers.{belonging_listings, router_as, router_of}}
use Rattle.compute_terms.specs.{Routers.{router_with, routerline_of}, Tuples.{Tuple, chosen_tuple, tuple_of}}
use Rattle.compute_terms.specs.declared.identity.EdPart.{EdPart}
use Rattle.computed_laws.proofs.{Kept.IfSome-map, KnownFlags.{KnowNames, relay_flags_in_range}, Medians.median_within}
use Rattle.computed_laws.proofs.RelayEntries.{AllEntries, IsNumber, address_in_range, bandwidths_in_range}
use Rattle.computed_laws.proofs.RelayEntries.{measured_in_range, members_within, micro_in_range, tuple_within}

-- ---- the bandwidth

abbrev IsGood : Bandwidth → Type 0
IsGood w = w.value ≤ 4294967295

capped : (most : Option ℕ) (value : ℕ) → value ≤ 4294967295 → capped_value most value ≤ 4294967295
capped None value is = is
capped (Some limit) value is = omega (arith, is)

unmeasured_in_range : (most : Option ℕ) (values : List ℕ) → All IsNumber values → IfSome (unmeasured_bandwidth most values) IsGood
unmeasured_in_range most [] all = tt
unmeasured_in_range most (first ∷ rest) all =
    capped most (low_median (first ∷ rest)) (median_within 4294967295 (first ∷ rest) all)

bandwidth_in_range : (most : Option ℕ) (entries : List EntryFacts) → All IsEntryInRange entries
    → IfSome (relay_bandwidth most entries) IsGood
bandwidth_in_range most entries all = by (nat_le measures_needed (length (measured_values entries)))
  where
    by : (b : Bool) → IfSome (if b then Some (record { value = low_median (measured_values entries); unmeasured = false })
        else unmeasured_bandwidth most (bandwidth_values entries)) IsGood
    by true = median_within 4294967295 (measured_values entries) (measured_in_range entries all)
    by false = unmeasured_in_range most (bandwidth_values entries) (bandwidths_in_range entries all)

-- ---- the line

record IsTupleInRange (tuple : Tuple) : Type 0 where
  digest : AreTwenty tuple.digest.0
  published : tuple.published ≤ last_moment
  nickname : is_nickname tuple.nickname ≡ true
  ip : tuple.ip < 2 ^ 32
  or_port : tuple.or_port ≤ 65535
  dir_port : tuple.dir_port ≤ 65535

tuple_in_range : (e : EntryFacts) → IsEntryInRange e → IsTupleInRange (tuple_of e)
tuple_in_range e is = record {
  digest = is.relay.digest_is;
  published = is.published;
  nickname = is.relay.nickname_is;
  ip = is.relay.ip_is;
  or_port = is.relay.or_port_is;
  dir_port = is.relay.dir_port_is;
}

digest_in : (flavour : Flavour) (digest : Digest1) → AreTwenty digest.0 → IsDigestInRange flavour digest
digest_in Ns digest is = is
digest_in Microdesc digest is = tt

micro_in : (flavour : Flavour) (m : Option Digest2) → IfSome m (λ (d : Digest2). AreThirtyTwo d.0) → IsMicroInRange flavour m
micro_in Ns m is = tt
micro_in Microdesc m is = is

module _ (flavour : Flavour) (method : ℕ) (most : Option ℕ) (rsa : Fingerprint) (identity : AreTwenty rsa.0) where
  line_in_range : (flags : List (List ℕ)) (entries : List EntryFacts) (tuple : Tuple) → AreFlagsInRange flags
      → All IsEntryInRange entries → IsTupleInRange tuple
      → IsRouterInRange flavour (routerline_of method most rsa flags entries tuple)
  line_in_range flags entries tuple are all is = record {
    nickname = is.nickname;
    identity = identity;
    digest = digest_in flavour tuple.digest is.digest;
    published = is.published;
    ip = is.ip;
    or_port = is.or_port;
    dir_port = is.dir_port;
    a = address_in_range method tuple entries all;
    m = micro_in flavour (chosen_micro method tuple.digest entries) (micro_in_range method tuple.digest entries all);
    flags = are;
    w = bandwidth_in_range most entries all;
  }

-- ---- from entries to the line

-- what holds of each line that is made of entries holds of the line of an identity
module _ (E : EntryFacts → Type 0) (P : Routerline → Type 0) (method : ℕ) (most : Option ℕ) (votes : List ReadVote)
    (rsa : Fingerprint) (entries : AllEntries E votes) where
  -- the line of a part is such, whichever tuple is chosen
  abbrev IsMade : EdPart → List EntryFacts → Type 0
  IsMade ed members =
      IfSome (chosen_tuple members)
      (λ (tuple : Tuple). P (routerline_of method most rsa
      (router_flags method votes ed (belonging_listings ed (listings votes rsa))) members tuple))

  with_within : (flags : List (List ℕ)) (members : List EntryFacts)
      → IfSome (chosen_tuple members) (λ (tuple : Tuple). P (routerline_of method most rsa flags members tuple))
      → IfSome (router_with method most rsa flags members) P
  with_within flags members is = by (is_running_and_valid flags)
    where
      by : (b : Bool) → IfSome (if b then option_map (routerline_of method most rsa flags members) (chosen_tuple members)
          else None) P
      by true = IfSome-map P (routerline_of method most rsa flags members) (chosen_tuple members) is
      by false = tt

  pub line_within : ((ed : EdPart) (members : List EntryFacts) → All E members → IsMade ed members) → (o : Option EdPart)
      → IfSome (option_and_then (λ ed. router_as method most votes rsa ed (belonging_listings ed (listings votes rsa))) o) P
  line_within each None = tt
  line_within each (Some ed) =
      let members = belonging_listings ed (listings votes rsa) in
      with_within (router_flags method votes ed members) (entries_of members)
      (each ed (entries_of members) (members_within E votes rsa ed entries))

-- ---- in range

-- what is said of an identity of twenty bytes
pub relay_in_range : (flavour : Flavour) (roster method : ℕ) (limit : Option ℕ) (votes : List ReadVote) (rsa : Fingerprint) → AreTwenty rsa.0
    → KnowNames votes → AllEntries IsEntryInRange votes
    → IfSome (router_of roster method limit votes rsa) (IsRouterInRange flavour)
relay_in_range flavour roster method limit votes rsa identity names entries =
    let most = cap_of limit votes in
    line_within IsEntryInRange (IsRouterInRange flavour) method most votes rsa entries
    (λ ed members all.
    let flags = router_flags method votes ed (belonging_listings ed (listings votes rsa)) in
    let are = relay_flags_in_range method votes ed (belonging_listings ed (listings votes rsa)) names in
    IfSome_then (chosen_tuple members)
    {P = IsTupleInRange} {Q = λ (tuple : Tuple). IsRouterInRange flavour (routerline_of method most rsa flags members tuple)}
    (tuple_within IsTupleInRange IsEntryInRange members tuple_in_range all)
    (λ tuple is. line_in_range flavour method most rsa identity flags members tuple are all is))
    (included_part roster (eds_of (listings votes rsa)))
