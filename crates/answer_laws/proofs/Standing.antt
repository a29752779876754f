-- The votes that are read from a place on are those that stand there.
use Rattle.std.proofs.Common.{◌≡◌, ◌≢◌, ℕ, zero, suc, ◌≤◌, List, [], ◌∷◌, length, Option, Some, None, Result, Ok, Err}
use Rattle.std.proofs.Common.{refl, ap, ◌∙◌, arith}
use Rattle.frame_terms.specs.declared.fault.ReadRefusal.{ReadRefusal}
use Rattle.vote_terms.specs.Votes.{ReadVote}
use Rattle.vote_doc.specs.Reading.{vote_from}
use Rattle.compute_command.specs.Votes.{most_votes, one_more, then_votes, unless_end, unless_more, votes_from}
use Rattle.compute_command.specs.Votes.{with_front}
use Rattle.answer_laws.specs.Inputs.{AreVotes, InputsAreVotes}

-- ---- what is read stands there

-- what one vote and those behind it make
data Split (read : Result (ReadVote × ℕ) ReadRefusal) (more : ReadVote × ℕ → Result (List ReadVote) ReadRefusal) (votes : List ReadVote) : Type 0 where
  splits : (vote : ReadVote) (end : ℕ) (rest : List ReadVote) → read ≡ Ok (vote, end) → more (vote, end) ≡ Ok rest
      → votes ≡ vote ∷ rest → Split read more votes

with_front_is : (vote : ReadVote) (found : Result (List ReadVote) ReadRefusal) (votes : List ReadVote)
    → with_front (vote ∷ []) found ≡ Ok votes → (rest : List ReadVote) × (found ≡ Ok rest) × (votes ≡ vote ∷ rest)
with_front_is vote (Ok rest) votes e = (rest, refl, cc e)
with_front_is vote (Err refusal) votes e = absurd cc

split_by : (read : Result (ReadVote × ℕ) ReadRefusal) (more : ReadVote × ℕ → Result (List ReadVote) ReadRefusal) (votes : List ReadVote)
    → then_votes read (λ r. with_front (r.0 ∷ []) (more r)) ≡ Ok votes → Split read more votes
split_by (Ok (vote, end)) more votes e =
    let w = with_front_is vote (more (vote, end)) votes e in splits vote end w.0 refl w.1 w.2
split_by (Err refusal) more votes e = absurd cc

ends_by : (next : Option ReadRefusal) (votes : List ReadVote) → unless_more next ≡ Ok votes → (next ≡ None) × (votes ≡ [])
ends_by None votes e = (refl, cc e)
ends_by (Some refusal) votes e = absurd cc

-- nothing more, or what was read
data Either (next : Option ReadRefusal) (read : Result (List ReadVote) ReadRefusal) (votes : List ReadVote) : Type 0 where
  nothing : next ≡ None → votes ≡ [] → Either next read votes
  something : next ≢ None → read ≡ Ok votes → Either next read votes

either_by : (next : Option ReadRefusal) (read : Result (List ReadVote) ReadRefusal) (votes : List ReadVote) → unless_end next read ≡ Ok votes → Either next read votes
either_by None read votes e = nothing refl (cc e)
either_by (Some refusal) read votes e = something (λ n. cc n) e

pub votes_stand : (room place : ℕ) (bytes : List ℕ) (votes : List ReadVote) → votes_from room place bytes ≡ Ok votes
    → AreVotes place votes bytes × (length votes ≤ room)
unfolding votes_from
votes_stand zero place bytes votes e =
    let n = ends_by (one_more place bytes) votes e in
    rw n.1 (n.0, omega arith)
votes_stand (suc room) place bytes votes e =
    elim (either_by (one_more place bytes) (then_votes (vote_from place bytes) (λ r. with_front (r.0 ∷ []) (votes_from room r.1 bytes))) votes e) [
      | nothing n is ↦ rw is (n, omega arith)
      | something n is ↦
          elim (split_by (vote_from place bytes) (λ r. votes_from room r.1 bytes) votes is) [
            | splits vote end rest read more whole ↦
                let t = votes_stand room end bytes rest more in
                rw whole ((n, end, read, t.0), omega (arith, t.1))
          ]
    ]

-- ---- what stands there is read

some_read : (next : Option ReadRefusal) (read : Result (List ReadVote) ReadRefusal) → next ≢ None → unless_end next read ≡ read
some_read None read n = absurd (n refl)
some_read (Some refusal) read n = refl

pub back : (room place : ℕ) (bytes : List ℕ) (votes : List ReadVote) → AreVotes place votes bytes → length votes ≤ room
    → votes_from room place bytes ≡ Ok votes
unfolding votes_from
back zero place bytes [] are le = ap unless_more are
back zero place bytes (vote ∷ votes) are le = absurd (omega (arith, le))
back (suc room) place bytes [] are le = ap (λ (n : Option ReadRefusal). unless_end n (then_votes (vote_from place bytes) (λ r. with_front (r.0 ∷ []) (votes_from room r.1 bytes)))) are
back (suc room) place bytes (vote ∷ votes) are le =
    let more = λ (r : ReadVote × ℕ). with_front (r.0 ∷ []) (votes_from room r.1 bytes) in
    some_read (one_more place bytes) (then_votes (vote_from place bytes) more) are.0
    ∙ ap (λ (r : Result (ReadVote × ℕ) ReadRefusal). then_votes r more) are.2
    ∙ ap (with_front (vote ∷ [])) (back room are.1 bytes votes are.3 (omega (arith, le)))

pub inputs_are_votes : InputsAreVotes
inputs_are_votes bytes votes = (votes_stand most_votes 0 bytes votes, λ are. back most_votes 0 bytes votes are.0 are.1)
