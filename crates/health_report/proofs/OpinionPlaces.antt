-- What an authority says of a relay, by the place of its entry.
use Rattle.std.proofs.{Common.{◌≡◌, ℕ, List, Option, Some, None, get_or, refl, sym, ap, ◌∙◌}, lemmas.Option.same_Some}
use Rattle.std.{proofs.lemmas.Option.get_or_from_slice_get, specs.Prelude.{option_map, option_and_then, slice_get}}
use Rattle.dir_values.specs.declared.digest.Fingerprint.{Fingerprint}
use Rattle.vote_terms.specs.{Votes.ReadVote, declared.entry.EntryFacts.EntryFacts}
use Rattle.compute_terms.specs.{declared.belong.Belong.Belong, Listings.{Listing, listing_at}}
use Rattle.health_report.specs.{declared.opinion.Opinion.Opinion, Lines.opinion_of}

abbrev listing_with : ReadVote → EntryFacts → Listing
listing_with vote entry = record { vote = vote; entry = entry }

abbrev opinion_with : Fingerprint → List (List ℕ) → Opinion
opinion_with authority flags = record { authority = authority; flags = flags }

-- where a vote and an entry stand
record Stands (votes : List ReadVote) (at : Belong) (entry : EntryFacts) : Type 0 where
  pub vote : ReadVote
  pub in_votes : slice_get votes at.vote ≡ Some vote
  pub listing : listing_at votes at ≡ Some (listing_with vote entry)

entry_stands : (votes : List ReadVote) (at : Belong) (entry : EntryFacts) (vote : ReadVote) (there : Option EntryFacts)
    → slice_get votes at.vote ≡ Some vote → slice_get vote.says.entries at.entry ≡ there
    → option_map (λ (l : Listing). l.entry) (option_map (listing_with vote) there)
    ≡ Some entry → Stands votes at entry
entry_stands votes at entry vote None v e says = absurd cc
entry_stands votes at entry vote (Some found) v e says =
    record {
      vote = vote;
      in_votes = v;
      listing = rw (v, e, same_Some found entry says) refl;
    }

vote_stands : (votes : List ReadVote) (at : Belong) (entry : EntryFacts) (there : Option ReadVote)
    → slice_get votes at.vote ≡ there
    → option_map (λ (l : Listing). l.entry) (option_and_then (λ (vote : ReadVote).
    option_map (listing_with vote) (slice_get vote.says.entries at.entry)) there)
    ≡ Some entry → Stands votes at entry
vote_stands votes at entry None v says = absurd cc
vote_stands votes at entry (Some vote) v says =
    entry_stands votes at entry vote (slice_get vote.says.entries at.entry) v refl says

stands : (votes : List ReadVote) (at : Belong) (entry : EntryFacts)
    → option_map (λ (l : Listing). l.entry) (listing_at votes at) ≡ Some entry → Stands votes at entry
stands votes at entry says = vote_stands votes at entry (slice_get votes at.vote) refl says

-- the opinion of the vote and the entry at a place
pub opinion_is : (votes : List ReadVote) (at : Belong) (entry : EntryFacts) (vote : ReadVote) (opinion : Opinion)
    → option_map (λ (l : Listing). l.entry) (listing_at votes at) ≡ Some entry → vote ≡ get_or votes at.vote vote
    → opinion.authority ≡ vote.says.identity → opinion.flags ≡ entry.flags
    → option_map opinion_of (listing_at votes at) ≡ Some opinion
opinion_is votes at entry vote opinion says is authority flags =
    let s = stands votes at entry says in
    let one : vote ≡ s.vote = is ∙ get_or_from_slice_get votes at.vote s.vote vote s.in_votes in
    ap (λ (l : Option Listing). option_map opinion_of l) s.listing
    ∙ ap (λ (v : ReadVote). Some (opinion_of (listing_with v entry))) (sym one)
    ∙ ap (λ (f : List (List ℕ)). Some (opinion_with vote.says.identity f)) (sym flags)
    ∙ ap (λ (a : Fingerprint). Some (opinion_with a opinion.flags)) (sym authority)
