-- The places whose entries belong to an identity, one after the other.
use Rattle.std.proofs.Common.{◌≡◌, ℕ, ◌+◌, ◌<◌, ◌≤◌, ◌⊎◌, Bool, true, false, List, [], ◌∷◌, ◌++◌, Option, Some, None}
use Rattle.std.proofs.{Common.{length, get_or, take, refl, sym, ap, ◌∙◌, subst, ⊎_elim}, lemmas.Option.same_Some}
use Rattle.std.proofs.lemmas.List.{append-nil, Elements.{All-append, All-cons, All-nil, filter-append}}
use Rattle.std.{proofs.lemmas.List.Elements.filter_map-append, specs.Prelude.{All, IsSome, filter, option_map}}
use Rattle.std.specs.Prelude.{if◌then◌else◌}
use Rattle.vote_terms.specs.{Votes.ReadVote, declared.entry.EntryFacts.EntryFacts}
use Rattle.compute_terms.specs.{declared.{belong.Belong.Belong, identity.EdPart.EdPart}, Listings.{Listing, listing_at}}
use Rattle.compute_terms.specs.{Listings.{listings_at, AreMembers}, Identities.belongs, Routers.belonging_listings}
use Rattle.consensus_calc.{specs.Places.with_place, proofs.Counts.listings_more}

kept_by : (b : Bool) (part : EdPart) (l : Listing) → belongs part l.entry.ed ≡ b → belonging_listings part (l ∷ []) ≡ (if b then l ∷ [] else [])
kept_by true part l e = rw e refl
kept_by false part l e = rw e refl

with_by : (b : Bool) (votes : List ReadVote) (out : List Belong) (at : Belong) (l : Listing) → listing_at votes at ≡ Some l → listings_at votes (with_place out at b) ≡ listings_at votes out ++ (if b then l ∷ [] else [])
with_by true votes out at l e = filter_map-append (listing_at votes) out (at ∷ []) ∙ rw e refl
with_by false votes out at l e = sym (append-nil (listings_at votes out))

-- one more place
pub kept_more : (votes : List ReadVote) (part : EdPart) (group : List Belong) (i : ℕ) (d : Belong) (out new : List Belong) (wanted : Bool) (l : Listing) → i < length group → listing_at votes (get_or group i d) ≡ Some l
    → wanted ≡ belongs part l.entry.ed → listings_at votes out ≡ belonging_listings part (listings_at votes (take i group)) → new ≡ with_place out (get_or group i d) wanted
    → listings_at votes new ≡ belonging_listings part (listings_at votes (take (i + 1) group))
kept_more votes part group i d out new wanted l lt e w so_far n =
    let said = listings_at votes (take i group) in
    ap (listings_at votes) n ∙ with_by wanted votes out (get_or group i d) l e
    ∙ ap (λ (ls : List Listing). ls ++ (if wanted then l ∷ [] else [])) so_far
    ∙ ap (λ (ls : List Listing). belonging_listings part said ++ ls) (sym (kept_by wanted part l (sym w)))
    ∙ sym (filter-append (λ (m : Listing). belongs part m.entry.ed) said (l ∷ []))
    ∙ ap (belonging_listings part) (listings_more votes group i d l lt e)

push_all : (P : Belong → Type 0) (xs : List Belong) (x : Belong) → All P xs → P x → All P (xs ++ x ∷ [])
push_all P xs x all p = All-append P xs (x ∷ []) all (All-cons P x [] p (All-nil P))

pub members_more : (votes : List ReadVote) (out new : List Belong) (at : Belong) (wanted : Bool) → AreMembers votes out → IsSome (listing_at votes at) → new ≡ with_place out at wanted → AreMembers votes new
members_more votes out new at true all some n = subst (AreMembers votes) (sym n) (push_all (λ b. IsSome (listing_at votes b)) out at all some)
members_more votes out new at false all some n = subst (AreMembers votes) (sym n) all

-- A place has this listing.
pub record Standing (votes : List ReadVote) (at : Belong) (entry : EntryFacts) : Type 0 where
  pub listing : Listing
  pub stands : listing_at votes at ≡ Some listing
  pub says : listing.entry ≡ entry

standing_by : (o : Option Listing) (votes : List ReadVote) (at : Belong) (entry : EntryFacts) → listing_at votes at ≡ o → option_map (λ (l : Listing). l.entry) o ≡ Some entry → Standing votes at entry
standing_by None votes at entry e has = absurd cc
standing_by (Some l) votes at entry e has = record { listing = l; stands = e; says = same_Some l.entry entry has }

pub standing : (votes : List ReadVote) (at : Belong) (entry : EntryFacts) → option_map (λ (l : Listing). l.entry) (listing_at votes at) ≡ Some entry → Standing votes at entry
standing votes at entry has = standing_by (listing_at votes at) votes at entry refl has
