-- Votes read one after the other, up to the line.
use Rattle.std.proofs.Common.{◌≡◌, ℕ, zero, suc, ◌+◌, ◌-◌, ◌≤◌, List, [], ◌∷◌, ◌++◌, length, drop, Result, Ok, Err}
use Rattle.std.proofs.Common.{refl, ap, sym, ◌∙◌, arith, length-drop, append_assoc, append-nil}
use Rattle.frame_terms.specs.declared.fault.{FrameFault.FrameFault, ReadRefusal.TheVariants.Frame}
use Rattle.vote_parts.proofs.VoteFaults.{fault_of_vote}
use Rattle.vote_terms.specs.Votes.{ReadVote}
use Rattle.blank_lines.specs.Behind.{behind, refusal_behind}
use Rattle.vote_doc.specs.Reading.{ReadsVote, vote_from, vote_of}
use Rattle.daemon_words.specs.declared.stop.Stop.{Stop}
use Rattle.daemon_words.specs.declared.stop.Stop.TheVariants as stop
use Rattle.report_command.specs.{declared.refusal.InputRefusal.InputRefusal, Inputs.{ahead_at, of_vote, too_many}}
use Rattle.report_command.specs.{Inputs.{votes_from, with_front}, Private.ReadsVoteAt}
use Rattle.report_command.specs.declared.refusal.InputRefusal.TheVariants as input
use Rattle.report_command.specs.declared.reading.Ahead.TheVariants as ahead

abbrev pub Read : Type 0
Read = Result (List ReadVote × ℕ) (Stop InputRefusal)

abbrev pub ok_of : List ReadVote → ℕ → Read
ok_of votes at = Ok (votes, at)

front_of_front : (xs ys : List ReadVote) (read : Read) → with_front xs (with_front ys read) ≡ with_front (xs ++ ys) read
front_of_front xs ys (Ok (zs, at)) = ap (λ (t : List ReadVote). ok_of t at) (sym (append_assoc xs ys zs))
front_of_front xs ys (Err e) = refl

goes_on : (n m place : ℕ) (bytes : List ℕ) (fault : FrameFault) (vote : ReadVote) (after : ℕ) → n ≡ suc m
    → ahead_at place bytes ≡ Ok (ahead.Vote fault) → vote_from place bytes ≡ Ok (vote, after)
    → votes_from n place bytes ≡ with_front (vote ∷ []) (votes_from m after bytes)
unfolding votes_from
goes_on n m place bytes fault vote after is more read = rw (is, more, read) refl

stops_at : (n m place : ℕ) (bytes : List ℕ) (fault : FrameFault) (why : Stop InputRefusal) → n ≡ suc m
    → ahead_at place bytes ≡ Ok (ahead.Vote fault) → of_vote (vote_from place bytes) ≡ Err why
    → votes_from n place bytes ≡ Err why
unfolding votes_from
stops_at n m place bytes fault why is more read = rw (is, more, read) refl

one_too_many : (n place : ℕ) (bytes : List ℕ) (fault : FrameFault) → n ≡ 0
    → ahead_at place bytes ≡ Ok (ahead.Vote fault) → votes_from n place bytes ≡ too_many fault
unfolding votes_from
one_too_many n place bytes fault is more = rw (is, more) refl

fails_ahead : (n place : ℕ) (bytes : List ℕ) (why : InputRefusal) → ahead_at place bytes ≡ Err why
    → votes_from n place bytes ≡ Err (stop.Refused why)
unfolding votes_from
fails_ahead zero place bytes why more = rw more refl
fails_ahead (suc n) place bytes why more = rw more refl

votes_end_at_consensus : (n place : ℕ) (bytes : List ℕ) (at : ℕ) → ahead_at place bytes ≡ Ok (ahead.Consensus at)
    → votes_from n place bytes ≡ Ok ([], at)
unfolding votes_from
votes_end_at_consensus zero place bytes at more = rw more refl
votes_end_at_consensus (suc n) place bytes at more = rw more refl

-- ---- a vote of the input

-- it is read
pub read_there : (place : ℕ) (bytes rest : List ℕ) (vote : ReadVote) (used : ℕ) → rest ≡ drop place bytes
    → place ≤ length bytes → ReadsVote rest (Ok (vote, used)) → ReadsVoteAt place bytes (Ok (vote, place + used))
read_there place bytes rest vote used is within reads =
    let of_rest : vote_of (drop place bytes) ≡ Ok (vote, used) = ap vote_of (sym is) ∙ reads.0 in
    let size : length rest ≡ length bytes - place = ap (λ (l : List ℕ). length l) is ∙ length-drop place bytes in
    (ap (behind place) of_rest, omega (arith, reads.1, size, within))

-- it has a fault
pub fails_there : (place : ℕ) (bytes rest : List ℕ) (fault : FrameFault) → rest ≡ drop place bytes
    → ReadsVote rest (Err (Frame fault)) → ReadsVoteAt place bytes (Err (refusal_behind place (Frame fault)))
fails_there place bytes rest fault is reads = ap (behind place) (ap vote_of (sym is) ∙ reads)

-- which stands within the input
pub fault_inside : (place : ℕ) (bytes rest : List ℕ) (fault : FrameFault) → rest ≡ drop place bytes → place ≤ length bytes
    → ReadsVote rest (Err (Frame fault)) → place + fault.place ≤ length bytes
fault_inside place bytes rest fault is within reads =
    let size : length rest ≡ length bytes - place = ap (λ (l : List ℕ). length l) is ∙ length-drop place bytes in
    omega (arith, fault_of_vote rest fault reads, size, within)

-- ---- what the reader answers

failing : (why : Stop InputRefusal) (found : List ReadVote) (read all : Read) → read ≡ Err why → with_front found read ≡ all
    → all ≡ Err why
failing why found read all is e = sym e ∙ ap (λ (r : Read). with_front found r) is

-- nothing may stand there
pub ahead_fails : (n place : ℕ) (bytes : List ℕ) (why : InputRefusal) (found : List ReadVote) (all : Read)
    → ahead_at place bytes ≡ Err why → with_front found (votes_from n place bytes) ≡ all → all ≡ Err (stop.Refused why)
ahead_fails n place bytes why found all more read =
    failing (stop.Refused why) found (votes_from n place bytes) all (fails_ahead n place bytes why more) read

-- one vote too many
pub too_many_there : (n place : ℕ) (bytes : List ℕ) (fault : FrameFault) (found : List ReadVote) (all : Read) → n ≡ 0
    → ahead_at place bytes ≡ Ok (ahead.Vote fault) → with_front found (votes_from n place bytes) ≡ all
    → all ≡ too_many fault
too_many_there n place bytes fault found all is more read =
    failing _ found (votes_from n place bytes) all (one_too_many n place bytes fault is more) read

-- a vote is not read
pub vote_fails : (n m place : ℕ) (bytes : List ℕ) (fault own : FrameFault) (found : List ReadVote) (all : Read)
    → n ≡ suc m → ahead_at place bytes ≡ Ok (ahead.Vote fault) → vote_from place bytes ≡ Err (Frame own)
    → with_front found (votes_from n place bytes) ≡ all → all ≡ Err (stop.Refused (input.Fault own))
vote_fails n m place bytes fault own found all is more fails e =
    failing (stop.Refused (input.Fault own)) found (votes_from n place bytes) all
    (stops_at n m place bytes fault (stop.Refused (input.Fault own)) is more (rw fails refl)) e

-- the line comes
pub done : (n place : ℕ) (bytes : List ℕ) (at : ℕ) (found : List ReadVote) (all : Read)
    → ahead_at place bytes ≡ Ok (ahead.Consensus at) → with_front found (votes_from n place bytes) ≡ all
    → all ≡ Ok (found, at)
done n place bytes at found all more read =
    sym read ∙ ap (λ (r : Read). with_front found r) (votes_end_at_consensus n place bytes at more)
    ∙ ap (λ (t : List ReadVote). ok_of t at) (append-nil found)

-- a vote is read
pub one_read : (n m place : ℕ) (bytes : List ℕ) (fault : FrameFault) (vote : ReadVote) (after : ℕ)
    (found items : List ReadVote) (all : Read) → n ≡ suc m → ahead_at place bytes ≡ Ok (ahead.Vote fault)
    → vote_from place bytes ≡ Ok (vote, after) → with_front found (votes_from n place bytes) ≡ all
    → items ≡ found ++ vote ∷ [] → with_front items (votes_from m after bytes) ≡ all
one_read n m place bytes fault vote after found items all is more read e on =
    ap (λ (l : List ReadVote). with_front l (votes_from m after bytes)) on
    ∙ sym (front_of_front found (vote ∷ []) (votes_from m after bytes))
    ∙ ap (λ (r : Read). with_front found r) (sym (goes_on n m place bytes fault vote after is more read)) ∙ e
