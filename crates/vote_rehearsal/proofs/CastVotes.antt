-- Votes that are cast, one after the other.
use Rattle.std.proofs.Common.{◌≡◌, ℕ, ◌+◌, ◌<◌, List, [], ◌∷◌, ◌++◌, length, get_or, take, Option, sym, ap, ap₂, ◌∙◌}
use Rattle.std.proofs.lemmas.{Grind.flat_map-append, List.{append-nil, take_more, Sums.fold-append}}
use Rattle.std.specs.{Prelude.option_to_list, List.{flat_map, fold}}
use Rattle.vote_terms.specs.{Held.{held, votes_with}, Votes.ReadVote}
use Rattle.vote_rehearsal.specs.declared.authority.Authority.{Authority}

module _ (cast : Authority → Option ReadVote) where
  -- the votes that authorities cast
  abbrev votes_of : List Authority → List ReadVote
  votes_of voters = flat_map (λ (voter : Authority). option_to_list (cast voter)) voters

  pub more_held : (all : List Authority) (n : ℕ) (one : Authority) (vote : Option ReadVote) (now new : List ReadVote)
      → n < length all → one ≡ get_or all n one → vote ≡ cast one → now ≡ held (votes_of (take n all))
      → new ≡ fold votes_with now (option_to_list vote) → new ≡ held (votes_of (take (n + 1) all))
  more_held all n one vote now new lt is its before after =
      let front = votes_of (take n all) in
      let next = option_to_list (cast one) in
      let more : votes_of (take (n + 1) all) ≡ front ++ next =
      ap votes_of (take_more all n one lt ∙ ap (λ (a : Authority). take n all ++ a ∷ []) (sym is))
      ∙ flat_map-append (λ (voter : Authority). option_to_list (cast voter)) (take n all) (one ∷ [])
      ∙ ap (λ (l : List ReadVote). front ++ l) (append-nil next) in
      after
      ∙ ap₂ (λ (l : List ReadVote) (v : Option ReadVote). fold votes_with l (option_to_list v)) before its
      ∙ sym (fold-append votes_with [] front next)
      ∙ ap held (sym more)
