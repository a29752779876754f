-- What votes say of one relay (dir-spec, "Computing a consensus from a set of votes").
use Rattle.std.specs.{Prelude.{ℕ, List, map, All, Option, IsSome, option_map, option_and_then, slice_get}, List.find}
use Rattle.std.specs.List.{filter_map, flat_map}
use Rattle.dir_values.specs.{declared.digest.Fingerprint.Fingerprint, Digests.same_identity, FlagSets.as_set}
use Rattle.vote_terms.specs.{Votes.ReadVote, declared.entry.EntryFacts.EntryFacts}
use Rattle.compute_terms.specs.declared.belong.Belong.{Belong}

-- a vote, and its entry of a relay
pub record Listing : Type 0 where
  pub vote : ReadVote
  pub entry : EntryFacts

-- the entry of an RSA identity in a vote, which has one at most
abbrev pub entry_of : Fingerprint → ReadVote → Option EntryFacts
entry_of rsa vote = find (λ (entry : EntryFacts). same_identity entry.identity rsa) vote.says.entries

-- the same, with the vote
abbrev pub listing_in : Fingerprint → ReadVote → Option Listing
listing_in rsa vote = option_map (λ entry. record { vote = vote; entry = entry }) (entry_of rsa vote)

-- what votes say of an RSA identity, in their order
abbrev pub listings : List ReadVote → Fingerprint → List Listing
listings votes rsa = filter_map (listing_in rsa) votes

-- the entries of listings
abbrev pub entries_of : List Listing → List EntryFacts
entries_of said = map (λ (l : Listing). l.entry) said

-- the bytes of the RSA identities of entries, one after the other
abbrev pub identities_of : List EntryFacts → List (List ℕ)
identities_of entries = map (λ (entry : EntryFacts). entry.identity.0) entries

-- the RSA identities that some vote lists, ascending by their bytes, each once
abbrev pub identities_in : List ReadVote → List Fingerprint
identities_in votes =
    map (λ bytes. record { 0 = bytes })
    (as_set (flat_map (λ (vote : ReadVote). identities_of vote.says.entries) votes))

-- ---- by places

-- what stands at a place, with its vote
abbrev pub listing_at : List ReadVote → Belong → Option Listing
listing_at votes at =
    option_and_then (λ (vote : ReadVote).
    option_map (λ entry. record { vote = vote; entry = entry }) (slice_get vote.says.entries at.entry))
    (slice_get votes at.vote)

-- what stands at some places, one after the other
abbrev pub listings_at : List ReadVote → List Belong → List Listing
listings_at votes members = filter_map (listing_at votes) members

-- Each of these places has an entry.
abbrev pub AreMembers : List ReadVote → List Belong → Type 0
AreMembers votes members = All (λ at. IsSome (listing_at votes at)) members
