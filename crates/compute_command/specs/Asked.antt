-- What the verifier is asked of the votes of an input, and in which order.
use Rattle.std.specs.Prelude.{◌≡◌, ℕ, ◌+◌, ◌<◌, ◌^◌, List, [], ◌∷◌, ◌++◌, length, Option, Some, None, Result, Ok, Err}
use Rattle.std.specs.{Global.Vec, Io.KnownBytes.Consumes}
use Rattle.key_port.specs.Answers.{Rules, Steps}
use Rattle.key_port.specs.declared.verifier.VerifyAnswer.TheVariants as verified
use Rattle.vote_terms.specs.Votes.{ReadVote}
use Rattle.vote_doc.specs.{Checks.{AsksAll, AsksOfRefused}, Holdings.Holding, declared.check.VoteRefusal.VoteRefusal}
use Rattle.daemon_words.specs.declared.{command.Compute.Compute, stop.Stop.Stop}
use Rattle.daemon_words.specs.declared.stop.Stop.TheVariants as stop
use Rattle.compute_command.specs.declared.{refusal.AcceptRefusal.AcceptRefusal, arriving.Arriving.Arriving}
use Rattle.compute_command.specs.{declared.{checking.Checking.Checking, halt.Halt.Halt}, Accepting.refusal_of}
use Rattle.compute_command.specs.{Arriving.IsArriving, Checked.CheckedSo, Rests.{AreVotes, next_of, room_behind}}
use Rattle.compute_command.specs.Votes.{votes_of}
use Rattle.compute_command.specs.declared.refusal.AcceptRefusal.TheVariants as accept
use Rattle.compute_command.specs.declared.refusal.ComputeRefusal.TheVariants as refusal
use Rattle.compute_command.specs.declared.refusal.VoteListRefusal.TheVariants as list
use Rattle.compute_command.specs.declared.halt.Halt.TheVariants as halt

-- ---- of votes

-- it accepted the signatures of each of these votes, one vote after the other, and was asked nothing else
abbrev pub AsksAccepted : {V : Type 0} → Steps V → List ReadVote → V → V → Type 0
AsksAccepted steps [] old new = new ≡ old
AsksAccepted {V} steps (vote ∷ votes) old new =
    (between : V) × AsksAll steps vote old verified.Yes between × AsksAccepted steps votes between new

-- It accepted those of each vote before one, and was asked of that one, which is refused so. Of the votes behind it it
-- was asked nothing.
pub record AsksUpTo {V : Type 0} (steps : Steps V) (votes : List ReadVote) (why : AcceptRefusal) (old new : V) : Type 0 where
  pub front : List ReadVote
  pub vote : ReadVote
  pub behind : List ReadVote
  pub are : votes ≡ front ++ vote ∷ behind
  pub refused : VoteRefusal
  pub told : why ≡ refusal_of (length front + 1) refused
  pub between : V
  pub accepted : AsksAccepted steps front old between
  pub asked : AsksOfRefused steps vote refused between new

-- what it was asked of votes that are checked in their order, up to the first that is refused, where one is
abbrev pub AsksVotes : {V : Type 0} → Steps V → List ReadVote → Option AcceptRefusal → V → V → Type 0
AsksVotes steps votes None old new = AsksAccepted steps votes old new
AsksVotes steps votes (Some why) old new = AsksUpTo steps votes why old new

-- the same by what checking a list of votes answers
abbrev pub AsksListed : {V : Type 0} → Steps V → List ReadVote → V → V → Result Holding (Stop AcceptRefusal) → Type 0
AsksListed steps votes old new (Ok accepted) = AsksAccepted steps votes old new
AsksListed steps votes old new (Err stop.Memory) = Unit {0}
AsksListed steps votes old new (Err (stop.Refused why)) = AsksUpTo steps votes why old new

-- ---- of an input

-- no vote more begins in bytes that may have so many: they have a fault, or end before
abbrev pub BeginsNone : ℕ → List ℕ → Type 0
BeginsNone room bytes = (vote : ReadVote) (end : ℕ) → next_of room bytes ≡ Some (Ok (vote, end)) → ⊥

-- All that it was asked of bytes: of the votes that they begin with, before their end or their first fault, in their
-- order, up to the first that is refused.
pub record AsksOfBytes {V : Type 0} (steps : Steps V) (rules : Rules) (wanted : Compute) (bytes : List ℕ)
    (first : Option AcceptRefusal) (old new : V) : Type 0 where
  pub front : List ℕ
  pub behind : List ℕ
  pub are : bytes ≡ front ++ behind
  pub votes : List ReadVote
  -- the front is these votes, whatever follows it, and no vote more begins behind it
  pub read : votes_of front ≡ Ok votes
  pub stay : AreVotes front votes
  pub others : BeginsNone (room_behind votes) behind
  -- so these are all where the bytes are votes
  pub all : (whole : List ReadVote) → votes_of bytes ≡ Ok whole → whole ≡ votes
  -- each is acceptable, or why the first is refused that is
  pub kept : List ReadVote
  pub checked : CheckedSo rules wanted votes kept first
  pub asked : AsksVotes steps votes first old new

-- the first refusal among the votes is the one that is told; where there is a text, or votes are too few, there is
-- none; and where the input has a fault, or was not read to its end, it is not told
abbrev pub IsFirst : Result (Vec ℕ) Halt → Option AcceptRefusal → Type 0
IsFirst (Ok text) first = first ≡ None
IsFirst (Err (halt.Stops (stop.Refused (refusal.Votes (list.Vote number word))))) first =
    first ≡ Some (accept.Vote number word)
IsFirst (Err (halt.Stops (stop.Refused (refusal.Votes (list.TooFew count roster))))) first = first ≡ None
IsFirst (Err (halt.Stops (stop.Refused refusal.Verifier))) first = first ≡ Some accept.Verifier
IsFirst (Err why) first = Unit {0}

-- these bytes of the source were looked at: all that were taken of it, but for the last piece of an input that is too
-- long
abbrev pub HasCome : Option (List ℕ) → Option (List ℕ) → Result (Vec ℕ) Halt → List ℕ → Type 0
HasCome old new (Err halt.TooLong) bytes = (piece : List ℕ) × Consumes old new (bytes ++ piece)
HasCome old new result bytes = Consumes old new bytes

-- All that it was asked of what a source gave.
pub record AsksOfSource {V : Type 0} (steps : Steps V) (rules : Rules) (wanted : Compute) (left after : Option (List ℕ))
    (result : Result (Vec ℕ) Halt) (old new : V) : Type 0 where
  pub bytes : List ℕ
  pub come : HasCome left after result bytes
  pub first : Option AcceptRefusal
  pub told : IsFirst result first
  pub asks : AsksOfBytes steps rules wanted bytes first old new

-- all that it was asked, but where there was no memory
abbrev pub AsksFrom : {V : Type 0} → Steps V → Rules → Compute → Option (List ℕ) → Option (List ℕ)
    → Result (Vec ℕ) Halt → V → V → Type 0
AsksFrom steps rules wanted left after (Err (halt.Stops stop.Memory)) old new = Unit {0}
AsksFrom steps rules wanted left after result old new = AsksOfSource steps rules wanted left after result old new

-- ---- while they arrive

-- of one vote more it was asked, unless one before it is refused
abbrev pub AsksOneMore : {V : Type 0} → Steps V → ReadVote → Checking → Checking → V → V → Type 0
AsksOneMore {V} steps vote old new before now =
    (votes : List ReadVote) (start : V) → old.count ≡ length votes → AsksVotes steps votes old.first start before
    → AsksVotes steps (votes ++ vote ∷ []) new.first start now

-- of the votes of the bytes that have come it was asked since it was so
abbrev pub AsksArrived : {V : Type 0} → Steps V → Rules → Compute → List ℕ → Arriving → V → V → Type 0
AsksArrived steps rules wanted bytes arriving start now =
    (is : IsArriving rules wanted bytes arriving) × AsksVotes steps is.votes arriving.votes.first start now

-- where it was asked of the votes of the bytes that have come, and so many more come besides, this is so
abbrev pub AskedBefore : {V : Type 0} → Steps V → Rules → Compute → Arriving → ℕ → V → (V → List ℕ → Type 0) → Type 0
AskedBefore {V} steps rules wanted old count now Holds =
    (bytes : List ℕ) (start : V) → AsksArrived steps rules wanted bytes old start now → length bytes + count < 2 ^ 61
    → Holds start bytes

-- what it was asked while the input of a source was read
abbrev pub AsksReading : {V : Type 0} → Steps V → Rules → Compute → Option (List ℕ) → Option (List ℕ)
    → V → V → Result Arriving Halt → Type 0
AsksReading steps rules wanted left after old new (Ok arriving) =
    (bytes : List ℕ) × Consumes left after bytes × AsksOfBytes steps rules wanted bytes arriving.votes.first old new
AsksReading steps rules wanted left after old new (Err why) = AsksFrom steps rules wanted left after (Err why) old new
