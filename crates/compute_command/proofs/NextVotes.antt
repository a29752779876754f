-- The votes of an input, by what stands behind those that were read.
use Rattle.std.proofs.Common.{◌≡◌, ◌∙◌, ℕ, zero, suc, ◌+◌, ◌-◌, ◌<◌, ◌^◌, List, [], ◌∷◌, ◌++◌, length, Option, Some}
use Rattle.std.proofs.Common.{None, Result, Ok, Err, refl, sym, ap, subst, arith, length-append, append_assoc}
use Rattle.std.{proofs.{Common.append-nil, Math.Seq.drop-append_seam}, specs.Option.option_map}
use Rattle.frame_terms.specs.declared.fault.{FrameFault.FrameFault, ReadRefusal.{ReadRefusal, TheVariants.Frame}}
use Rattle.vote_terms.specs.Votes.{ReadVote}
use Rattle.vote_doc.specs.Reading.{vote_from, vote_of}
use Rattle.blank_lines.specs.Behind.{behind, fault_behind, refusal_behind}
use Rattle.vote_feed.proofs.WholeVotes.{votes_same}
use Rattle.compute_command.specs.{Rests.{AreVotes, EndsVote, Read, next_by, next_of, room_behind}, Votes.one_more}
use Rattle.compute_command.specs.Votes.{one_more_of, then_votes, unless_end, unless_more, votes_from, votes_of}
use Rattle.compute_command.specs.Votes.{with_front}

-- ---- votes in front

abbrev ok_of : List ReadVote → Result (List ReadVote) ReadRefusal
ok_of votes = Ok votes

front_of_front : (xs ys : List ReadVote) (read : Result (List ReadVote) ReadRefusal)
    → with_front xs (with_front ys read) ≡ with_front (xs ++ ys) read
front_of_front xs ys (Ok zs) = ap (λ (t : List ReadVote). ok_of t) (sym (append_assoc xs ys zs))
front_of_front xs ys (Err e) = refl

-- ---- behind other bytes

-- why there is one more, so many bytes further on
abbrev moved_more : ℕ → Option ReadRefusal → Option ReadRefusal
moved_more n more = option_map (refusal_behind n) more

-- behind other bytes there is one more where there is alone
one_more_same : (before bytes : List ℕ)
    → one_more (length before) (before ++ bytes) ≡ moved_more (length before) (one_more_of bytes)
one_more_same before bytes =
    ap (λ (l : List ℕ). moved_more (length before) (one_more_of l)) (drop-append_seam before bytes)

-- ---- what stands there

abbrev Votes_ : Type 0
Votes_ = Result (List ReadVote) ReadRefusal

-- the votes from a place on, by what stands there
abbrev pub votes_by : ℕ → ℕ → List ℕ → Option Read → Votes_
votes_by n room all None = Ok []
votes_by n room all (Some (Ok (vote, end))) = with_front (vote ∷ []) (votes_from (room - 1) (n + end) all)
votes_by n room all (Some (Err refusal)) = Err (refusal_behind n refusal)

pub votes_next : (room : ℕ) (before bytes : List ℕ)
    → votes_from room (length before) (before ++ bytes)
    ≡ votes_by (length before) room (before ++ bytes) (next_of room bytes)
unfolding votes_from
votes_next zero before bytes = ap unless_more (one_more_same before bytes) ∙ by (one_more_of bytes)
  where
    by : (more : Option ReadRefusal) → unless_more (moved_more (length before) more)
        ≡ votes_by (length before) zero (before ++ bytes) (next_by more zero bytes)
    by None = refl
    by (Some refusal) = refl
votes_next (suc room) before bytes =
    ap (λ m. unless_end m (then_votes (vote_from n all) others)) (one_more_same before bytes)
    ∙ ap (λ r. unless_end (moved_more n (one_more_of bytes)) (then_votes r others)) (votes_same before bytes)
    ∙ by (one_more_of bytes) (vote_of bytes) refl
  where
    n : ℕ
    n = length before

    all : List ℕ
    all = before ++ bytes

    others : ReadVote × ℕ → Votes_
    others read = with_front (read.0 ∷ []) (votes_from room read.1 all)

    one_less : suc room - 1 ≡ room
    one_less = omega arith

    by : (more : Option ReadRefusal) (read : Read) → vote_of bytes ≡ read
        → unless_end (moved_more n more) (then_votes (behind n read) others)
        ≡ votes_by n (suc room) all (next_by more (suc room) bytes)
    by None read is = refl
    by (Some refusal) (Ok (vote, end)) is =
        ap (λ (k : ℕ). with_front (vote ∷ []) (votes_from k (n + end) all)) (sym one_less)
        ∙ ap (λ (r : Read). votes_by n (suc room) all (Some r)) (sym is)
    by (Some refusal) (Err other) is = ap (λ (r : Read). votes_by n (suc room) all (Some r)) (sym is)

-- ---- the votes so far

module _ (front : List ℕ) (votes : List ReadVote) (are : AreVotes front votes) where
  abbrev room : ℕ
  room = room_behind votes

  -- the votes of the input, by what stands behind these
  pub votes_then : (more : List ℕ) (next : Option Read) → length (front ++ more) < 2 ^ 61 → next_of room more ≡ next
      → votes_of (front ++ more) ≡ with_front votes (votes_by (length front) room (front ++ more) next)
  votes_then more next short is =
      are more short
      ∙ ap (λ r. with_front votes r) (votes_next room front more)
      ∙ ap (λ (o : Option Read). with_front votes (votes_by (length front) room (front ++ more) o)) is

  -- a vote more
  pub one_vote_more : (own : List ℕ) (vote : ReadVote) → EndsVote room own vote
      → AreVotes (front ++ own) (votes ++ vote ∷ [])
  one_vote_more own vote ends more short =
      let same : (front ++ own) ++ more ≡ front ++ (own ++ more) = append_assoc front own more in
      let short_ : length (front ++ (own ++ more)) < 2 ^ 61 = subst (λ (l : List ℕ). length l < 2 ^ 61) same short in
      let behind : length (own ++ more) < 2 ^ 61 = omega (arith, length-append front (own ++ more), short_) in
      let place : length front + length own ≡ length (front ++ own) = sym (length-append front own) in
      let left : room - 1 ≡ room_behind (votes ++ vote ∷ []) = omega (arith, length-append votes (vote ∷ [])) in
      ap votes_of same
      ∙ votes_then (own ++ more) (Some (Ok (vote, length own))) short_ (ends more behind)
      ∙ front_of_front votes (vote ∷ []) (votes_from (room - 1) (length front + length own) (front ++ (own ++ more)))
      ∙ ap (λ (k : ℕ). with_front (votes ++ vote ∷ []) (votes_from k (length front + length own) (front ++ (own ++ more)))) left
      ∙ ap (λ (k : ℕ). with_front (votes ++ vote ∷ [])
      (votes_from (room_behind (votes ++ vote ∷ [])) k (front ++ (own ++ more)))) place
      ∙ ap (λ (l : List ℕ). with_front (votes ++ vote ∷ [])
      (votes_from (room_behind (votes ++ vote ∷ [])) (length (front ++ own)) l)) (sym same)

  -- no more, since the input ends
  pub no_more : (behind : List ℕ) → length (front ++ behind) < 2 ^ 61 → next_of room behind ≡ None
      → votes_of (front ++ behind) ≡ Ok votes
  no_more behind short ends =
      votes_then behind None short ends ∙ ap (λ (l : List ReadVote). ok_of l) (append-nil votes)

  -- or since there is a fault
  pub then_fault : (behind : List ℕ) (fault : FrameFault) → length (front ++ behind) < 2 ^ 61
      → next_of room behind ≡ Some (Err (Frame fault))
      → votes_of (front ++ behind) ≡ Err (Frame (fault_behind (length front) fault))
  then_fault behind fault short ends = votes_then behind (Some (Err (Frame fault))) short ends

-- none yet
pub none_yet : AreVotes [] []
none_yet more short = by (votes_of more)
  where
    by : (r : Votes_) → r ≡ with_front [] r
    by (Ok votes) = refl
    by (Err refusal) = refl
