-- What the verifier is asked of votes that are checked in their order.
use Rattle.std.proofs.Common.{◌≡◌, ◌∙◌, ℕ, ◌+◌, ◌<◌, ◌≤◌, List, [], ◌∷◌, ◌++◌, length, take, drop, Option, Some, None}
use Rattle.std.proofs.Common.{get_or, refl, sym, ap, subst, arith, length-take, append_assoc}
use Rattle.std.{proofs.lemmas.List.{take-append-drop, take_all, take_more}, specs.Prelude.{true, false, is_some}}
use Rattle.key_port.specs.Answers.{Steps}
use Rattle.key_port.specs.declared.verifier.VerifyAnswer.TheVariants as verified
use Rattle.vote_terms.specs.Votes.{ReadVote}
use Rattle.vote_doc.specs.{Checks.{AsksAll, AsksOfRefused}, declared.check.VoteRefusal.VoteRefusal}
use Rattle.compute_command.specs.{declared.refusal.AcceptRefusal.AcceptRefusal, Accepting.refusal_of}
use Rattle.compute_command.specs.Asked.{AsksAccepted, AsksUpTo, AsksVotes}

-- ---- one vote more

taken_more : (all : List ReadVote) (n : ℕ) (vote : ReadVote) → n < length all → vote ≡ get_or all n vote
    → take (n + 1) all ≡ take n all ++ vote ∷ []
taken_more all n vote lt is =
    take_more all n vote lt ∙ ap (λ (v : ReadVote). take n all ++ v ∷ []) (sym is)

module _ {V : Type 0} (steps : Steps V) where
  one_accepted : (votes : List ReadVote) (vote : ReadVote) (start before now : V) → AsksAccepted steps votes start before
      → AsksAll steps vote before verified.Yes now → AsksAccepted steps (votes ++ vote ∷ []) start now
  one_accepted [] vote start before now none asks =
      (now, subst (λ (v : V). AsksAll steps vote v verified.Yes now) none asks, refl)
  one_accepted (other ∷ votes) vote start before now (between, its, rest) asks =
      (between, its, one_accepted votes vote between before now rest asks)

  -- none has come
  pub asked_none : (votes : List ReadVote) (first : Option AcceptRefusal) (now : V) → votes ≡ [] → first ≡ None
      → AsksVotes steps votes first now now
  asked_none [] None now empty none = refl
  asked_none [] (Some why) now empty none = absurd (cc none)
  asked_none (vote ∷ votes) first now empty none = absurd (cc empty)

  -- it is acceptable
  pub accepted_too : (votes : List ReadVote) (vote : ReadVote) (first : Option AcceptRefusal) (start before now : V)
      → is_some first ≡ false → AsksVotes steps votes first start before → AsksAll steps vote before verified.Yes now
      → AsksVotes steps (votes ++ vote ∷ []) first start now
  accepted_too votes vote None start before now none asked asks = one_accepted votes vote start before now asked asks
  accepted_too votes vote (Some why) start before now none asked asks = absurd (cc none)

  -- it is the first that is refused
  pub refused_there : (votes behind : List ReadVote) (vote : ReadVote) (refused : VoteRefusal) (number : ℕ)
      (why : AcceptRefusal) (start before now : V) → number ≡ length votes + 1 → why ≡ refusal_of number refused
      → AsksAccepted steps votes start before → AsksOfRefused steps vote refused before now
      → AsksUpTo steps (votes ++ vote ∷ behind) why start now
  refused_there votes behind vote refused number why start before now place is asked asks = record {
    front = votes;
    vote = vote;
    behind = behind;
    are = refl;
    refused = refused;
    told = is ∙ ap (λ (k : ℕ). refusal_of k refused) place;
    between = before;
    accepted = asked;
    asked = asks;
  }

  pub refused_now : (votes : List ReadVote) (vote : ReadVote) (refused : VoteRefusal) (number : ℕ) (why : AcceptRefusal)
      (first : Option AcceptRefusal) (start before now : V) → number ≡ length votes → why ≡ refusal_of (number + 1) refused
      → is_some first ≡ false → AsksVotes steps votes first start before → AsksOfRefused steps vote refused before now
      → AsksVotes steps (votes ++ vote ∷ []) (Some why) start now
  refused_now votes vote refused number why None start before now count is none asked asks =
      refused_there votes [] vote refused (number + 1) why start before now (ap (λ (k : ℕ). k + 1) count) is asked asks
  refused_now votes vote refused number why (Some other) start before now count is none asked asks = absurd (cc none)

  -- ---- of a list

  pub accepted_more : (all : List ReadVote) (n : ℕ) (vote : ReadVote) (start before now : V) → n < length all
      → vote ≡ get_or all n vote → AsksAccepted steps (take n all) start before → AsksAll steps vote before verified.Yes now
      → AsksAccepted steps (take (n + 1) all) start now
  accepted_more all n vote start before now lt is asked asks =
      subst (λ (l : List ReadVote). AsksAccepted steps l start now) (sym (taken_more all n vote lt is))
      (one_accepted (take n all) vote start before now asked asks)

  pub refused_at : (all : List ReadVote) (n : ℕ) (vote : ReadVote) (refused : VoteRefusal) (why : AcceptRefusal)
      (start before now : V) → n < length all → vote ≡ get_or all n vote → why ≡ refusal_of (n + 1) refused
      → AsksAccepted steps (take n all) start before → AsksOfRefused steps vote refused before now
      → AsksUpTo steps all why start now
  refused_at all n vote refused why start before now lt is told asked asks =
      let behind = drop (n + 1) all in
      let parts : all ≡ take n all ++ vote ∷ behind =
      sym (take-append-drop (n + 1) all) ∙ ap (λ (l : List ReadVote). l ++ behind) (taken_more all n vote lt is)
      ∙ append_assoc (take n all) (vote ∷ []) behind in
      let size : length (take n all) ≡ n = length-take n all ∙ omega (arith, lt) in
      subst (λ (l : List ReadVote). AsksUpTo steps l why start now) (sym parts)
      (refused_there (take n all) behind vote refused (n + 1) why start before now
      (ap (λ (k : ℕ). k + 1) (sym size)) told asked asks)

  -- ---- behind one that is refused

  -- one before it is refused
  pub not_asked : (votes : List ReadVote) (vote : ReadVote) (first : Option AcceptRefusal) (start now : V)
      → is_some first ≡ true → AsksVotes steps votes first start now → AsksVotes steps (votes ++ vote ∷ []) first start now
  not_asked votes vote None start now some asked = absurd (cc some)
  not_asked votes vote (Some why) start now some asked = record {
    front = asked.front;
    vote = asked.vote;
    behind = asked.behind ++ vote ∷ [];
    are =
        ap (λ (l : List ReadVote). l ++ vote ∷ []) asked.are
        ∙ append_assoc asked.front (asked.vote ∷ asked.behind) (vote ∷ []);
    refused = asked.refused;
    told = asked.told;
    between = asked.between;
    accepted = asked.accepted;
    asked = asked.asked;
  }
