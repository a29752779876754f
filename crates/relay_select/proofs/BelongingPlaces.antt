-- The places of the entries that belong to an identity, one vote after the other.
use Rattle.std.proofs.Common.{◌≡◌, ℕ, ◌+◌, ◌≤◌, Bool, true, false, List, [], ◌∷◌, ◌++◌, Option, Some, None, length}
use Rattle.std.proofs.Common.{drop, refl, sym, ap, ◌∙◌, subst, add-one, drop-cons, append_assoc}
use Rattle.std.proofs.lemmas.List.{Elements.{filter-append, All-nil, All-cons, All-head, All-tail}, append-nil}
use Rattle.std.{proofs.lemmas.{List.drop_all, Option.{get_or_from_slice_get, slice_get_within}}, specs.Prelude.All}
use Rattle.std.specs.{Prelude.{IsSome, filter, slice_get}, Option.option_to_list}
use Rattle.vote_terms.specs.Votes.{ReadVote}
use Rattle.compute_terms.specs.declared.{belong.Belong.Belong, identity.{EdPart.EdPart, Identity.Identity}}
use Rattle.compute_terms.specs.{Listings.{Listing, listing_at, listings_at, listings, AreMembers}, Identities.belongs}
use Rattle.compute_terms.specs.Routers.{belonging_listings}
use Rattle.relay_select.specs.{Walks.{member_in, members_from}, Choices.{belongs_at, belonging_places}}
use Rattle.relay_select.proofs.Steps.{members_list}

-- ---- all votes

-- one more vote
pub places_more : (all : List ReadVote) (identity : Identity) (n : ℕ) (vote : ReadVote) (out new : List Belong) (found : Option Belong) (whole : List Belong) → slice_get all n ≡ Some vote
    → option_to_list found ≡ filter (belongs_at all identity.ed) (option_to_list (member_in n vote identity.rsa)) → new ≡ out ++ option_to_list found
    → out ++ filter (belongs_at all identity.ed) (members_from n (drop n all) identity.rsa) ≡ whole
    → new ++ filter (belongs_at all identity.ed) (members_from (n + 1) (drop (n + 1) all) identity.rsa) ≡ whole
places_more all identity n vote out new found whole at is pushed so_far =
    let p = belongs_at all identity.ed in
    let rest = members_from (n + 1) (drop (n + 1) all) identity.rsa in
    let shape : drop n all ≡ vote ∷ drop (n + 1) all =
    rw add-one (drop-cons all n vote (slice_get_within all n vote at)) ∙ ap (λ (v : ReadVote). v ∷ drop (n + 1) all) (get_or_from_slice_get all n vote vote at) in
    let step : filter p (members_from n (drop n all) identity.rsa) ≡ filter p (option_to_list (member_in n vote identity.rsa)) ++ filter p rest =
    ap (λ (vs : List ReadVote). filter p (members_from n vs identity.rsa)) shape ∙ filter-append p (option_to_list (member_in n vote identity.rsa)) rest in
    ap (λ (l : List Belong). l ++ filter p rest) pushed ∙ append_assoc out (option_to_list found) (filter p rest)
    ∙ ap (λ (l : List Belong). out ++ (l ++ filter p rest)) is ∙ ap (λ (l : List Belong). out ++ l) (sym step) ∙ so_far

-- behind the last vote
pub places_end : (all : List ReadVote) (identity : Identity) (n : ℕ) (out whole : List Belong) → length all ≤ n
    → out ++ filter (belongs_at all identity.ed) (members_from n (drop n all) identity.rsa) ≡ whole → out ≡ whole
places_end all identity n out whole le so_far =
    sym (append-nil out) ∙ ap (λ (vs : List ReadVote). out ++ filter (belongs_at all identity.ed) (members_from n vs identity.rsa)) (sym (drop_all n all le)) ∙ so_far

-- ---- what stands at these places

kept_by : (b : Bool) (all : List ReadVote) (ed : EdPart) (at : Belong) (members : List Belong) (l : Listing) → listing_at all at ≡ Some l → belongs ed l.entry.ed ≡ b
    → listings_at all (filter (belongs_at all ed) members) ≡ belonging_listings ed (listings_at all members)
    → listings_at all (filter (belongs_at all ed) (at ∷ members)) ≡ belonging_listings ed (listings_at all (at ∷ members))
kept_by true all ed at members l stands is more = rw (stands, is) (rw stands (ap (λ (ls : List Listing). l ∷ ls) more))
kept_by false all ed at members l stands is more = rw (stands, is) more

kept_one : (o : Option Listing) (all : List ReadVote) (ed : EdPart) (at : Belong) (members : List Belong) → listing_at all at ≡ o
    → listings_at all (filter (belongs_at all ed) members) ≡ belonging_listings ed (listings_at all members)
    → listings_at all (filter (belongs_at all ed) (at ∷ members)) ≡ belonging_listings ed (listings_at all (at ∷ members))
kept_one None all ed at members stands more = rw stands more
kept_one (Some l) all ed at members stands more = kept_by _ all ed at members l stands refl more

kept : (all : List ReadVote) (ed : EdPart) (members : List Belong) → listings_at all (filter (belongs_at all ed) members) ≡ belonging_listings ed (listings_at all members)
kept all ed [] = refl
kept all ed (at ∷ members) = kept_one _ all ed at members refl (kept all ed members)

-- what stands at the places is what belongs to the identity
pub places_are : (all : List ReadVote) (identity : Identity) (places : List Belong) → places ≡ belonging_places all identity → listings_at all places ≡ belonging_listings identity.ed (listings all identity.rsa)
places_are all identity places is =
    ap (listings_at all) is ∙ kept all identity.ed (members_from 0 all identity.rsa)
    ∙ ap (belonging_listings identity.ed) (members_list all all 0 identity.rsa refl).listings_are

pass_by : (b : Bool) (p : Belong → Bool) (P : Belong → Type 0) (x : Belong) (xs : List Belong) → p x ≡ b → P x → All P (filter p xs) → All P (filter p (x ∷ xs))
pass_by true p P x xs e h more = rw e (All-cons P x (filter p xs) h more)
pass_by false p P x xs e h more = rw e more

pass : (p : Belong → Bool) (P : Belong → Type 0) (xs : List Belong) → All P xs → All P (filter p xs)
pass p P [] all = All-nil P
pass p P (x ∷ xs) all = pass_by _ p P x xs refl (All-head P x xs all) (pass p P xs (All-tail P x xs all))

-- each of the places has an entry
pub places_have : (all : List ReadVote) (identity : Identity) (places : List Belong) → places ≡ belonging_places all identity → AreMembers all places
places_have all identity places is =
    subst (AreMembers all) (sym is) (pass (belongs_at all identity.ed) (λ at. IsSome (listing_at all at)) (members_from 0 all identity.rsa) (members_list all all 0 identity.rsa refl).members_are)
