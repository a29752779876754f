-- What stands in the bytes behind some votes of an input, and what is known of it while they arrive. Places count
-- from the first of these bytes; those of faults that are kept or answered count from the input's first byte.
use Rattle.std.specs.Prelude.{◌≡◌, ℕ, zero, suc, ◌+◌, ◌-◌, ◌<◌, ◌≤◌, ◌^◌, List, ◌++◌, length, take, Option, Some, None}
use Rattle.std.specs.{Prelude.{Result, Ok, Err}, List.fold}
use Rattle.frame_terms.specs.declared.fault.{FrameFault.FrameFault, ReadRefusal.{ReadRefusal, TheVariants.Frame}}
use Rattle.vote_terms.specs.Votes.{ReadVote}
use Rattle.vote_doc.specs.Reading.{vote_of}
use Rattle.vote_feed.specs.Feeding.{IsOpen}
use Rattle.compute_command.specs.declared.{rest.{Rest.Rest, Stage.Stage, Turn.Turn}, tail.Tail.Tail}
use Rattle.compute_command.specs.{Furthers.IsFurther, Tails.{tail_of, tail_with}, Votes.{most_votes, one_more_of}}
use Rattle.compute_command.specs.Votes.{votes_from, votes_of, with_front}
use Rattle.compute_command.specs.declared.rest.Stage.TheVariants as stage
use Rattle.compute_command.specs.declared.rest.Turn.TheVariants as turn

-- ---- what stands there

-- what a vote or its refusal is
abbrev pub Read : Type 0
Read = Result (ReadVote × ℕ) ReadRefusal

-- the vote that bytes begin with, and the place after it, where there may be one more; and else the refusal of one
-- too many
abbrev pub vote_if : ℕ → ReadRefusal → List ℕ → Read
vote_if zero refusal bytes = Err refusal
vote_if (suc room) refusal bytes = vote_of bytes

-- nothing where the input ends, and else a vote or its refusal
abbrev pub next_by : Option ReadRefusal → ℕ → List ℕ → Option Read
next_by None room bytes = None
next_by (Some refusal) room bytes = Some (vote_if room refusal bytes)

-- what stands in bytes that may have so many votes: nothing where they are blank lines alone; and else the first vote,
-- with the place after it, or why there is none
abbrev pub next_of : ℕ → List ℕ → Option Read
next_of room bytes = next_by (one_more_of bytes) room bytes

-- ---- what is known of it whatever follows

-- this holds of each input that goes on from these bytes
abbrev pub Always : List ℕ → (List ℕ → Type 0) → Type 0
Always bytes Holds = (more : List ℕ) → length (bytes ++ more) < 2 ^ 61 → Holds (bytes ++ more)

-- Whatever follows, this vote ends with these bytes.
abbrev pub EndsVote : ℕ → List ℕ → ReadVote → Type 0
EndsVote room bytes vote = Always bytes (λ all. next_of room all ≡ Some (Ok (vote, length bytes)))

-- Whatever follows, the bytes have this fault, unless all are blank lines alone.
abbrev pub HasFault : ℕ → List ℕ → FrameFault → Type 0
HasFault room bytes fault =
    Always bytes (λ all. (refusal : ReadRefusal) → one_more_of all ≡ Some refusal → next_of room all ≡ Some (Err (Frame fault)))

-- ---- the votes so far

-- how many votes more there may be behind these
abbrev pub room_behind : List ReadVote → ℕ
room_behind votes = most_votes - length votes

-- Whatever follows these bytes, they are these votes, and others stand behind them.
abbrev pub AreVotes : List ℕ → List ReadVote → Type 0
AreVotes front votes =
    Always front (λ all. votes_of all ≡ with_front votes (votes_from (room_behind votes) (length front) all))

-- ---- what is kept of it

-- what is known of bytes that may have so many votes, and stand behind so many others
abbrev pub Knows : ℕ → ℕ → List ℕ → Stage → Type 0
Knows start room bytes (stage.Reading feeder) = (feeder ≡ bytes) × IsOpen bytes × (0 < room)
Knows start room bytes (stage.Full beyond) = (beyond ≡ bytes) × (room ≡ 0)
Knows start room bytes (stage.Faulted fault) = IsFurther start (λ own. HasFault room bytes own) fault

-- What is kept of bytes that may have so many votes, and stand behind so many others.
pub record IsRest (start room : ℕ) (bytes : List ℕ) (rest : Rest) : Type 0 where
  pub tail : rest.tail ≡ tail_of bytes
  pub knows : Knows start room bytes rest.stage

-- It is kept of some bytes behind so many others; with so many more they are fewer than an input may have.
abbrev pub HasRest : ℕ → Rest → ℕ → Type 0
HasRest start rest count =
    (room : ℕ) × (bytes : List ℕ) × IsRest start room bytes rest × (start + length bytes + count < 2 ^ 61)

-- ---- what comes of more bytes

-- all of these bytes are taken, and no vote ends
abbrev pub turn_on : Tail → Stage → List ℕ → Turn
turn_on tail stage piece = turn.On (record { tail = fold tail_with tail piece; stage = stage }) (length piece)

-- so many bytes of a piece are taken, and one at least
pub record Takes (piece : List ℕ) (taken : ℕ) : Type 0 where
  pub within : taken ≤ length piece
  pub some : 0 < length piece → 0 < taken

-- what comes of a piece: of the bytes with what was taken of it the same is known; or a vote ends with them
abbrev pub Turns : ℕ → ℕ → List ℕ → List ℕ → Turn → Type 0
Turns start room bytes piece (turn.On rest taken) = Takes piece taken × IsRest start room (bytes ++ take taken piece) rest
Turns start room bytes piece (turn.Vote vote count taken) =
    Takes piece taken × (count ≡ length bytes + taken) × (0 < room) × EndsVote room (bytes ++ take taken piece) vote

-- what is answered where no more bytes follow
abbrev pub AnswersEnd : ℕ → ℕ → List ℕ → Option FrameFault → Type 0
AnswersEnd start room bytes None = next_of room bytes ≡ None
AnswersEnd start room bytes (Some fault) = IsFurther start (λ own. next_of room bytes ≡ Some (Err (Frame own))) fault

-- ---- what a feeder of a vote gives

-- no vote is read of the bytes
abbrev pub HasNoVote : List ℕ → Type 0
HasNoVote bytes = (vote : ReadVote) (end : ℕ) → vote_of bytes ≡ Ok (vote, end) → ⊥

-- the vote is read of the bytes, and all of them are its
abbrev pub IsVoteOf : List ℕ → ReadVote × ℕ → Type 0
IsVoteOf bytes read = (vote_of bytes ≡ Ok read) × (read.1 ≡ length bytes)

-- the bytes are refused for this fault
abbrev pub IsFaultOf : List ℕ → FrameFault → Type 0
IsFaultOf bytes fault = vote_of bytes ≡ Err (Frame fault)
