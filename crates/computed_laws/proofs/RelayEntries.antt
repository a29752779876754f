-- What votes say of one relay: its entries, and what is chosen among their values.
use Rattle.std.proofs.Common.{ℕ, ◌≤◌, Bool, true, false, List, Option, Some, None, map}
use Rattle.std.{proofs.lemmas.List.Elements.{All-filter, All-map, All-weaker}, specs.Prelude.{All, IfSome, not, ◌&&◌}}
use Rattle.std.specs.{Prelude.{option_and_then, if◌then◌else◌}, List.{filter_map, find}, Ordering.is_eq, Str.bytes_eq}
use Rattle.std.specs.declared.cmp.Ordering.{Ordering}
use Rattle.dir_values.specs.declared.digest.{Digest1.Digest1, Digest2.Digest2, Fingerprint.Fingerprint}
use Rattle.dir_values.specs.Digests.{same_identity}
use Rattle.relay_entries.specs.declared.said.Bandwidths.{Bandwidths}
use Rattle.group_laws.specs.Ranges.{AreBandwidthsInRange, AreThirtyTwo, IsAddressInRange}
use Rattle.count_terms.specs.Choosing.{chosen, leads, text_order}
use Rattle.vote_terms.specs.{Votes.ReadVote, Entries.{bandwidth_of, first_address, gives, measured_of, micro_for}}
use Rattle.vote_terms.specs.declared.entry.{EntryFacts.EntryFacts, MicroFacts.MicroFacts}
use Rattle.vote_laws.specs.Again.{IsEntryInRange, IsMicroInRange}
use Rattle.consensus_terms.specs.Methods.{is_34_or_later}
use Rattle.compute_terms.specs.{Bandwidths.{bandwidth_values, measured_values}, Identities.belongs, Lines.address_with}
use Rattle.compute_terms.specs.Lines.{chosen_address, chosen_micro, counted_address, digest_order, is_ipv6, micro_with}
use Rattle.compute_terms.specs.Listings.{Listing, entries_of, entry_of, listing_in, listings}
use Rattle.compute_terms.specs.{Routers.belonging_listings, Tuples.{Tuple, chosen_tuple, tuple_of, tuple_order}}
use Rattle.compute_terms.specs.declared.identity.EdPart.{EdPart}
use Rattle.computed_laws.proofs.Kept.{All-filter_map, IfSome-find, IfSome-map}

-- ---- the entries

module _ (E : EntryFacts → Type 0) where
  -- each entry of each vote is such
  abbrev pub AllEntries : List ReadVote → Type 0
  AllEntries votes = All (λ (vote : ReadVote). All E vote.says.entries) votes

  abbrev IsListing : Listing → Type 0
  IsListing l = E l.entry

  -- so is what votes say of an identity
  said_within : (votes : List ReadVote) (rsa : Fingerprint) → AllEntries votes → All IsListing (listings votes rsa)
  said_within votes rsa all =
      All-filter_map IsListing (listing_in rsa) votes
      (All-weaker (λ (vote : ReadVote). All E vote.says.entries) (λ (vote : ReadVote). IfSome (listing_in rsa vote) IsListing)
      (λ vote each. IfSome-map IsListing (λ (entry : EntryFacts). record { vote = vote; entry = entry }) (entry_of rsa vote)
      (IfSome-find E (λ (entry : EntryFacts). same_identity entry.identity rsa) vote.says.entries each)) votes all)

  -- and what of it belongs to a part
  pub members_within : (votes : List ReadVote) (rsa : Fingerprint) (ed : EdPart) → AllEntries votes
      → All E (entries_of (belonging_listings ed (listings votes rsa)))
  members_within votes rsa ed all =
      All-map E (λ (l : Listing). l.entry) (belonging_listings ed (listings votes rsa))
      (All-filter (λ (l : Listing). belongs ed l.entry.ed) IsListing (listings votes rsa) (said_within votes rsa all))

  -- what is chosen of what is made of entries is made of one of them
  pub chosen_of : {A : Type 0} (P : A → Type 0) (order : A → A → Ordering) (f : EntryFacts → Option A)
      (entries : List EntryFacts) → ((e : EntryFacts) → E e → IfSome (f e) P) → All E entries
      → IfSome (chosen order (filter_map f entries)) P
  chosen_of P order f entries each all =
      IfSome-find P (leads order (filter_map f entries)) (filter_map f entries)
      (All-filter_map P f entries (All-weaker E (λ (e : EntryFacts). IfSome (f e) P) each entries all))

-- ---- what is chosen

-- the tuple
pub tuple_within : (P : Tuple → Type 0) (E : EntryFacts → Type 0) (entries : List EntryFacts)
    → ((e : EntryFacts) → E e → P (tuple_of e)) → All E entries → IfSome (chosen_tuple entries) P
tuple_within P E entries each all =
    IfSome-find P (leads tuple_order (map tuple_of entries)) (map tuple_of entries)
    (All-map P tuple_of entries (All-weaker E (λ (e : EntryFacts). P (tuple_of e)) each entries all))

pub value_if : {A : Type 0} (P : A → Type 0) (b : Bool) (o : Option A) → IfSome o P → IfSome (if b then o else None) P
value_if P true o is = is
value_if P false o is = tt

-- an address, where it counts
counted_within : (method : ℕ) (o : Option (List ℕ)) → IfSome o IsAddressInRange
    → IfSome (counted_address method o) IsAddressInRange
counted_within method None is = tt
counted_within method (Some address) is = by (is_34_or_later method && not (is_ipv6 address))
  where
    by : (b : Bool) → IfSome (if b then None else Some address) IsAddressInRange
    by true = tt
    by false = is

-- the address
pub address_in_range : (method : ℕ) (tuple : Tuple) (entries : List EntryFacts) → All IsEntryInRange entries
    → IfSome (chosen_address method tuple entries) IsAddressInRange
address_in_range method tuple entries all =
    chosen_of IsEntryInRange IsAddressInRange text_order (address_with method tuple) entries
    (λ e is. value_if IsAddressInRange (is_eq (tuple_order (tuple_of e) tuple))
    (counted_address method (first_address e))
    (counted_within method (first_address e)
    (IfSome-find IsAddressInRange (λ (text : List ℕ). true) e.addresses is.addresses))) all

-- the digest of the microdescriptor
pub micro_in_range : (method : ℕ) (digest : Digest1) (entries : List EntryFacts) → All IsEntryInRange entries
    → IfSome (chosen_micro method digest entries) (λ (d : Digest2). AreThirtyTwo d.0)
micro_in_range method digest entries all =
    let IsGood : Digest2 → Type 0 = λ d. AreThirtyTwo d.0 in
    chosen_of IsEntryInRange IsGood digest_order (micro_with method digest) entries
    (λ e is. value_if IsGood (bytes_eq e.digest.0 digest.0) (micro_for method e)
    (IfSome-map IsGood (λ (line : MicroFacts). line.digest) (find (gives method) e.micros)
    (IfSome-find (λ (line : MicroFacts). AreThirtyTwo line.digest.0) (gives method) e.micros
    (All-weaker IsMicroInRange (λ (line : MicroFacts). AreThirtyTwo line.digest.0) (λ line one. one.digest) e.micros
    is.micros)))) all

-- ---- bandwidths

abbrev pub IsNumber : ℕ → Type 0
IsNumber n = n ≤ 4294967295

number_of : (f : Bandwidths → Option ℕ) → ((w : Bandwidths) → AreBandwidthsInRange w → IfSome (f w) IsNumber)
    → (o : Option Bandwidths) → IfSome o AreBandwidthsInRange → IfSome (option_and_then f o) IsNumber
number_of f each None is = tt
number_of f each (Some w) is = each w is

-- what is measured
pub measured_in_range : (entries : List EntryFacts) → All IsEntryInRange entries → All IsNumber (measured_values entries)
measured_in_range entries all =
    All-filter_map IsNumber measured_of entries
    (All-weaker IsEntryInRange (λ (e : EntryFacts). IfSome (measured_of e) IsNumber)
    (λ e is. number_of (λ (w : Bandwidths). w.measured) (λ w are. are.measured) e.bandwidths is.bandwidths) entries all)

-- and what is said
pub bandwidths_in_range : (entries : List EntryFacts) → All IsEntryInRange entries → All IsNumber (bandwidth_values entries)
bandwidths_in_range entries all =
    All-filter_map IsNumber bandwidth_of entries
    (All-weaker IsEntryInRange (λ (e : EntryFacts). IfSome (bandwidth_of e) IsNumber)
    (λ e is. number_of (λ (w : Bandwidths). w.bandwidth) (λ w are. are.bandwidth) e.bandwidths is.bandwidths) entries all)
