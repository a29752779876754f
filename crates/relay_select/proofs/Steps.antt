-- The groups of a walk, and the lines that they give.
use Rattle.std.proofs.Common.{◌≡◌, ℕ, zero, suc, ◌+◌, ◌<◌, Bool, true, false, List, [], ◌∷◌, ◌++◌, Option, Some, None}
use Rattle.std.{proofs.Common.{drop, map, refl, sym, ap, ◌∙◌, subst, add-one, append_assoc, arith}, specs.Prelude.All}
use Rattle.std.specs.{Prelude.{IsSome, slice_get}, Option.option_to_list, List.{filter_map, find, cons_option}}
use Rattle.dir_values.specs.{declared.digest.Fingerprint.Fingerprint, Digests.same_identity}
use Rattle.vote_terms.specs.{Votes.ReadVote, declared.entry.EntryFacts.EntryFacts}
use Rattle.compute_terms.specs.{declared.belong.Belong.Belong, Listings.{Listing, entry_of, listing_in, listings}}
use Rattle.compute_terms.specs.Listings.{listing_at, listings_at, AreMembers}
use Rattle.relay_select.specs.Walks.{Group, place_from, member_in, members_from, group_of}

-- ---- the entry of an identity, by its place

data Found (all : List EntryFacts) (rsa : Fingerprint) (place : Option ℕ) (entry : Option EntryFacts) : Type 0 where
  there : (k : ℕ) (e : EntryFacts) → place ≡ Some k → entry ≡ Some e → slice_get all k ≡ Some e → Found all rsa place entry
  absent : place ≡ None → entry ≡ None → Found all rsa place entry

first_of_drop : (all : List EntryFacts) (p : ℕ) (e : EntryFacts) (es : List EntryFacts) → drop p all ≡ e ∷ es → slice_get all p ≡ Some e
first_of_drop [] zero e es d = absurd cc
first_of_drop [] (suc p) e es d = absurd cc
first_of_drop (x ∷ xs) zero e es d = ap (λ (y : EntryFacts). Some y) cc
first_of_drop (x ∷ xs) (suc p) e es d = first_of_drop xs p e es d

rest_of_drop : (all : List EntryFacts) (p : ℕ) (e : EntryFacts) (es : List EntryFacts) → drop p all ≡ e ∷ es → drop (suc p) all ≡ es
rest_of_drop [] zero e es d = absurd cc
rest_of_drop [] (suc p) e es d = absurd cc
rest_of_drop (x ∷ xs) zero e es d = cc
rest_of_drop (x ∷ xs) (suc p) e es d = rest_of_drop xs p e es d

found_by : (b : Bool) (all : List EntryFacts) (e : EntryFacts) (es : List EntryFacts) (p : ℕ) (rsa : Fingerprint) → same_identity e.identity rsa ≡ b → drop p all ≡ e ∷ es
    → Found all rsa (place_from (p + 1) es rsa) (find (λ (entry : EntryFacts). same_identity entry.identity rsa) es)
    → Found all rsa (place_from p (e ∷ es) rsa) (find (λ (entry : EntryFacts). same_identity entry.identity rsa) (e ∷ es))
found_by true all e es p rsa h d more = there p e (rw h refl) (rw h refl) (first_of_drop all p e es d)
found_by false all e es p rsa h d more = elim more [
  | there k x place entry stands ↦ there k x (rw h place) (rw h entry) stands
  | absent place entry ↦ absent (rw h place) (rw h entry)
]

found : (all es : List EntryFacts) (p : ℕ) (rsa : Fingerprint) → drop p all ≡ es → Found all rsa (place_from p es rsa) (find (λ (entry : EntryFacts). same_identity entry.identity rsa) es)
found all [] p rsa d = absent refl refl
found all (e ∷ es) p rsa d = found_by _ all e es p rsa refl d (found all es (p + 1) rsa (rw add-one (rest_of_drop all p e es d)))

-- ---- the members of a group

-- the members of a group have entries, and these are what the votes say
pub record AreListings (all : List ReadVote) (members : List Belong) (said : List Listing) : Type 0 where
  pub members_are : AreMembers all members
  pub listings_are : listings_at all members ≡ said

first_vote : (all : List ReadVote) (n : ℕ) (v : ReadVote) (vs : List ReadVote) → drop n all ≡ v ∷ vs → slice_get all n ≡ Some v
first_vote [] zero v vs d = absurd cc
first_vote [] (suc n) v vs d = absurd cc
first_vote (x ∷ xs) zero v vs d = ap (λ (y : ReadVote). Some y) cc
first_vote (x ∷ xs) (suc n) v vs d = first_vote xs n v vs d

rest_votes : (all : List ReadVote) (n : ℕ) (v : ReadVote) (vs : List ReadVote) → drop n all ≡ v ∷ vs → drop (suc n) all ≡ vs
rest_votes [] zero v vs d = absurd cc
rest_votes [] (suc n) v vs d = absurd cc
rest_votes (x ∷ xs) zero v vs d = cc
rest_votes (x ∷ xs) (suc n) v vs d = rest_votes xs n v vs d

cons_all : (P : Belong → Type 0) (x : Belong) (xs : List Belong) → P x → All P xs → All P (x ∷ xs)
cons_all P x xs p all zero d lt = p
cons_all P x xs p all (suc k) d lt = all k d (omega (arith, lt))

none_all : (P : Belong → Type 0) → All P []
none_all P = λ k d lt. absurd (omega (arith, lt))

one_more_vote_listed : (all : List ReadVote) (n : ℕ) (v : ReadVote) (rsa : Fingerprint) (members : List Belong) (said : List Listing) → slice_get all n ≡ Some v
    → Found v.says.entries rsa (place_from 0 v.says.entries rsa) (entry_of rsa v) → AreListings all members said
    → AreListings all (option_to_list (member_in n v rsa) ++ members) (cons_option (listing_in rsa v) said)
one_more_vote_listed all n v rsa members said stands f more = elim f [
  | there k e place entry at ↦
      let here : listing_at all (record { vote = n; entry = k }) ≡ Some (record { vote = v; entry = e }) = rw (stands, at) refl in
      rw (place, entry) (record {
        members_are = cons_all (λ b. IsSome (listing_at all b)) (record { vote = n; entry = k }) members (rw here refl) more.members_are;
        listings_are = rw (here, more.listings_are) refl;
      })
  | absent place entry ↦ rw (place, entry) more
]

-- the places of an identity's entries, in all votes
pub members_list : (all votes : List ReadVote) (n : ℕ) (rsa : Fingerprint) → drop n all ≡ votes → AreListings all (members_from n votes rsa) (listings votes rsa)
members_list all [] n rsa d = record { members_are = none_all (λ b. IsSome (listing_at all b)); listings_are = refl }
members_list all (v ∷ votes) n rsa d =
    one_more_vote_listed all n v rsa (members_from (n + 1) votes rsa) (listings votes rsa) (first_vote all n v votes d) (found v.says.entries v.says.entries 0 rsa refl)
    (members_list all votes (n + 1) rsa (rw add-one (rest_votes all n v votes d)))

-- ---- the steps

-- What a step takes off the groups that are left.
pub record Step (votes : List ReadVote) (left new : List Group) (rsa : Fingerprint) (members : List Belong) : Type 0 where
  pub identities : map (λ (g : Group). g.identity) left ≡ rsa ∷ map (λ (g : Group). g.identity) new
  pub groups : new ≡ map (group_of votes) (map (λ (g : Group). g.identity) new)
  pub members_are : AreMembers votes members
  pub listings_are : listings_at votes members ≡ listings votes rsa

heads : (x y : Group) (xs ys : List Group) → x ∷ xs ≡ y ∷ ys → x ≡ y
heads x y xs ys e = cc

tails : (x y : Group) (xs ys : List Group) → x ∷ xs ≡ y ∷ ys → xs ≡ ys
tails x y xs ys e = cc

pub step : (votes : List ReadVote) (left new : List Group) (rsa : Fingerprint) (members : List Belong) → left ≡ record { identity = rsa; members = members } ∷ new
    → left ≡ map (group_of votes) (map (λ (g : Group). g.identity) left) → Step votes left new rsa members
step votes left new rsa members e groups =
    let both : record { identity = rsa; members = members } ∷ new ≡ group_of votes rsa ∷ map (group_of votes) (map (λ (g : Group). g.identity) new) =
    sym e ∙ groups ∙ ap (λ (gs : List Group). map (group_of votes) (map (λ (g : Group). g.identity) gs)) e in
    let are : members ≡ members_from 0 votes rsa = ap (λ (g : Group). g.members) (heads _ _ _ _ both) in
    let listed = members_list votes votes 0 rsa refl in
    record {
      identities = ap (λ (gs : List Group). map (λ (g : Group). g.identity) gs) e;
      groups = tails _ _ _ _ both;
      members_are = subst (AreMembers votes) (sym are) listed.members_are;
      listings_are = ap (listings_at votes) are ∙ listed.listings_are;
    }

-- the identities of groups that are made of identities
pub identities_back : (votes : List ReadVote) (ids : List Fingerprint) → map (λ (g : Group). g.identity) (map (group_of votes) ids) ≡ ids
identities_back votes [] = refl
identities_back votes (x ∷ ids) = ap (λ (l : List Fingerprint). x ∷ l) (identities_back votes ids)

module _ {X Y : Type 0} (f : X → Option Y) where
  cons_is : (o : Option Y) (ys : List Y) → option_to_list o ++ ys ≡ cons_option o ys
  cons_is None ys = refl
  cons_is (Some y) ys = refl

  -- what one more gives comes behind what was given
  pub gives_more : (out new : List Y) (given : Option Y) (x : X) (rest all : List X) (whole : List Y) → all ≡ x ∷ rest → given ≡ f x → new ≡ out ++ option_to_list given → out ++ filter_map f all ≡ whole → new ++ filter_map f rest ≡ whole
  gives_more out new given x rest all whole splits is pushed so_far =
      ap (λ (l : List Y). l ++ filter_map f rest) pushed ∙ append_assoc out (option_to_list given) (filter_map f rest)
      ∙ ap (λ (l : List Y). out ++ l) (cons_is given (filter_map f rest) ∙ ap (λ (o : Option Y). cons_option o (filter_map f rest)) is ∙ sym (ap (filter_map f) splits)) ∙ so_far
