-- The consensus of few votes lists few relays: each is of an entry of some vote, and each once.
use Rattle.std.proofs.Common.{◌≡◌, ℕ, suc, ◌+◌, ◌*◌, ◌<◌, ◌≤◌, Bool, true, false, List, [], ◌∷◌, length, Option, Some}
use Rattle.std.proofs.{Common.{None, arith}, lemmas.List.{length-append, length-map, Elements.{All-head, All-tail}}}
use Rattle.std.{proofs.lemmas.List.Elements.All-weaker, specs.{Prelude.{All, ◌^◌, if◌then◌else◌}, List.cons_option}}
use Rattle.std.specs.List.{filter_map, flat_map, fold}
use Rattle.dir_values.specs.{Digests.identity_below, FlagSets.as_set, declared.digest.Fingerprint.Fingerprint}
use Rattle.vote_terms.specs.{Held.{held, outranks, votes_with, same_authority}, Votes.ReadVote}
use Rattle.vote_terms.specs.declared.entry.EntryFacts.{EntryFacts}
use Rattle.compute_terms.specs.{Consensuses.facts_of, Listings.{identities_in, identities_of}, Routers.router_of}
use Rattle.compute_terms.specs.Routers.{routers}
use Rattle.range_laws.proofs.{ReadNames.count_of_set, VoteRead.vote_in_range}
use Rattle.answer_laws.specs.{Inputs.InputsAreVotes, Relays.{RelaysOfInputsAreFew, RelaysOfVotesAreFew, WasRead}}
use Rattle.answer_laws.proofs.VotesRead.{held_all, standing_all}

-- ---- lists

module _ {X Y : Type 0} where
  -- no more values are made than there are members
  made_within : (f : X → Option Y) (xs : List X) → length (filter_map f xs) ≤ length xs
  made_within f [] = omega arith
  made_within f (x ∷ xs) = by (f x) (made_within f xs)
    where
      by : (o : Option Y) → length (filter_map f xs) ≤ length xs
          → length (cons_option o (filter_map f xs)) ≤ length (x ∷ xs)
      by None more = omega (arith, more)
      by (Some y) more = omega (arith, more)

  -- lists of so many members at most, one behind the other
  joined_within : (f : X → List Y) (xs : List X) → All (λ (x : X). length (f x) ≤ 65535) xs
      → length (flat_map f xs) ≤ 65535 * length xs
  joined_within f [] each = omega arith
  joined_within f (x ∷ xs) each =
      let both : length (flat_map f (x ∷ xs)) ≡ length (f x) + length (flat_map f xs) =
      length-append (f x) (flat_map f xs) in
      let first : length (f x) ≤ 65535 = All-head (λ (y : X). length (f y) ≤ 65535) x xs each in
      let others = joined_within f xs (All-tail (λ (y : X). length (f y) ≤ 65535) x xs each) in
      omega (arith, both, first, others)

-- ---- votes that are held

placed_within : (votes : List ReadVote) (vote : ReadVote) → length (votes_with votes vote) ≤ suc (length votes)
placed_within [] vote = omega arith
placed_within (first ∷ rest) vote =
    by (identity_below first.says.identity vote.says.identity) (same_authority first vote) (outranks vote first)
    (placed_within rest vote)
  where
    by : (a b c : Bool) → length (votes_with rest vote) ≤ suc (length rest)
        → length (if a then first ∷ votes_with rest vote
        else if b then (if c then vote ∷ rest else first ∷ rest) else vote ∷ first ∷ rest)
        ≤ suc (length (first ∷ rest))
    by true b c more = omega (arith, more)
    by false true true more = omega arith
    by false true false more = omega arith
    by false false c more = omega arith

held_behind : (list votes : List ReadVote) → length (fold votes_with votes list) ≤ length votes + length list
held_behind [] votes = omega arith
held_behind (vote ∷ list) votes = omega (arith, held_behind list (votes_with votes vote), placed_within votes vote)

-- no more votes are held than there are
held_within : (list : List ReadVote) → length (held list) ≤ length list
held_within list = omega (arith, held_behind list [])

-- ---- relays

abbrev HasFew : ReadVote → Type 0
HasFew vote = length vote.says.entries ≤ 65535

abbrev names : ReadVote → List (List ℕ)
names vote = identities_of vote.says.entries

abbrev print_of : List ℕ → Fingerprint
print_of bytes = record { 0 = bytes }

names_within : (vote : ReadVote) → HasFew vote → length (names vote) ≤ 65535
names_within vote few =
    let same : length (names vote) ≡ length vote.says.entries =
    length-map vote.says.entries (λ (entry : EntryFacts). entry.identity.0) in
    omega (arith, same, few)

-- each relay has an identity of an entry
relays_within : (roster method : ℕ) (limit : Option ℕ) (votes : List ReadVote) → All HasFew votes
    → length (routers roster method limit votes) ≤ 65535 * length votes
relays_within roster method limit votes few =
    let all = flat_map names votes in
    let relays : length (routers roster method limit votes) ≤ length (identities_in votes) =
    made_within (router_of roster method limit votes) (identities_in votes) in
    let once : length (identities_in votes) ≡ length (as_set all) = length-map (as_set all) print_of in
    let apart : length (as_set all) ≤ length all = count_of_set all in
    let joined =
    joined_within names votes
    (All-weaker HasFew (λ (vote : ReadVote). length (names vote) ≤ 65535) names_within votes few) in
    omega (arith, relays, once, apart, joined)

-- 64 times 65,535 is less
below : (n count : ℕ) → n ≤ 65535 * count → count ≤ 64 → n < 2 ^ 22
below n count within few = omega (arith, within, few)

few_entries : (vote : ReadVote) → WasRead vote → HasFew vote
few_entries vote was = (vote_in_range was.start was.bytes vote was.after was.are was.read).entries.count

pub relays_of_votes : RelaysOfVotesAreFew
relays_of_votes votes few were newest roster =
    below (length (facts_of newest roster votes).routers) (length votes)
    (relays_within roster _ _ votes (All-weaker WasRead HasFew few_entries votes were)) few

-- by what an input of votes is
pub relays_of_inputs : InputsAreVotes → RelaysOfInputsAreFew
relays_of_inputs inputs bytes votes are is =
    let stand = (inputs bytes votes).0 is in
    let were =
    standing_all WasRead bytes (λ place vote end read.
    record { start = place; bytes = bytes; after = end; are = are; read = read }) 0 votes stand.0 in
    let most : length votes ≤ 64 = stand.1 in
    let few : length (held votes) ≤ 64 = omega (arith, held_within votes, most) in
    relays_of_votes (held votes) few (held_all WasRead votes were)
