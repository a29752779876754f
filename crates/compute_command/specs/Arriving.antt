-- An input whose bytes arrive, and its votes, which are checked as they end.
use Rattle.std.specs.Prelude.{◌≡◌, ◌⊎◌, ℕ, ◌+◌, ◌-◌, ◌<◌, ◌≤◌, ◌^◌, List, [], ◌++◌, length, take, All, Option, Some}
use Rattle.std.specs.{Prelude.{None, Result, Ok, Err}, Global.Vec}
use Rattle.dir_bytes.specs.Streams.{TakesAtMost}
use Rattle.frame_terms.specs.declared.fault.ReadRefusal.TheVariants.{Frame}
use Rattle.key_port.specs.Answers.{Rules}
use Rattle.vote_terms.specs.{Votes.ReadVote, Held.held, Acceptable.IsAcceptable}
use Rattle.vote_doc.specs.Holdings.{Holding}
use Rattle.daemon_words.specs.declared.{command.Compute.Compute, stop.Stop.Stop}
use Rattle.daemon_words.specs.declared.stop.Stop.TheVariants as stop
use Rattle.compute_command.specs.declared.refusal.{AcceptRefusal.AcceptRefusal, EndRefusal.EndRefusal}
use Rattle.compute_command.specs.declared.{arriving.Arriving.Arriving, checking.Checking.Checking, halt.Halt.Halt}
use Rattle.compute_command.specs.{Accepting.StopsAt, Answers.ComputeAnswers, Checked.{IsChecked, TellsFirst}}
use Rattle.compute_command.specs.{Rests.{AreVotes, IsRest, Takes, room_behind}, Votes.{most_votes, votes_of}}
use Rattle.compute_command.specs.declared.refusal.ComputeRefusal.TheVariants as refusal
use Rattle.compute_command.specs.declared.refusal.EndRefusal.TheVariants as end
use Rattle.compute_command.specs.declared.halt.Halt.TheVariants as halt

-- What is kept of an input of which these bytes have come: of the votes that were read, and of the bytes behind them.
pub record IsArriving (rules : Rules) (wanted : Compute) (bytes : List ℕ) (arriving : Arriving) : Type 0 where
  pub votes : List ReadVote
  pub front : List ℕ
  pub behind : List ℕ
  pub are : bytes ≡ front ++ behind
  pub start : arriving.start ≡ length front
  pub reads : AreVotes front votes
  pub rest : IsRest arriving.start (room_behind votes) behind arriving.rest
  pub checked : IsChecked rules wanted votes arriving.votes

-- Behind these votes, the last of which ends at a place, no byte has come, and there may be as many votes more as are
-- lacking.
pub record BeginsBehind (start : ℕ) (checking : Checking) (new : Arriving) : Type 0 where
  pub same : new.start ≡ start
  pub rest : IsRest start (most_votes - checking.count) [] new.rest

-- No byte and no vote has come, whatever the votes are checked for.
abbrev pub NoneArrived : Arriving → Type 0
NoneArrived arriving =
    (rules : Rules) (wanted : Compute) → (is : IsArriving rules wanted [] arriving) × (is.votes ≡ [])

-- What is kept of an input is kept of some bytes, so many fewer than an input may have.
abbrev pub HasArrived : Rules → Compute → Arriving → ℕ → Type 0
HasArrived rules wanted arriving count =
    (bytes : List ℕ) × IsArriving rules wanted bytes arriving × (length bytes + count < 2 ^ 61)

-- where some bytes of an input have come, and these come besides, this is so
abbrev pub WithMore : Rules → Compute → Arriving → ℕ → (List ℕ → Type 0) → Type 0
WithMore rules wanted old count Holds =
    (bytes : List ℕ) → IsArriving rules wanted bytes old → length bytes + count < 2 ^ 61 → Holds bytes

-- so many bytes of a piece came besides
pub record TurnsTo (rules : Rules) (wanted : Compute) (bytes piece : List ℕ) (new : Arriving) (taken : ℕ) : Type 0 where
  pub takes : Takes piece taken
  pub arrives : IsArriving rules wanted (bytes ++ take taken piece) new

-- ---- its end

-- what is answered where the input ends: the votes that are held, of votes that are each acceptable; its first
-- fault; or why a vote is refused
abbrev pub EndsSo : Rules → Compute → List ℕ → Result Holding (Stop EndRefusal) → Type 0
EndsSo rules wanted bytes (Ok accepted) =
    (votes : List ReadVote) × (votes_of bytes ≡ Ok votes) × (accepted.votes ≡ held votes)
    × All (λ vote. IsAcceptable rules wanted.roster wanted.valid_after vote) votes
EndsSo rules wanted bytes (Err stop.Memory) = Unit {0}
EndsSo rules wanted bytes (Err (stop.Refused (end.Fault fault))) = votes_of bytes ≡ Err (Frame fault)
EndsSo rules wanted bytes (Err (stop.Refused (end.Votes why))) =
    (votes : List ReadVote) × (votes_of bytes ≡ Ok votes) × StopsAt rules wanted votes (stop.Refused why)

-- the same of all bytes that may have come, whatever the votes were checked for
abbrev pub EndsAll : Arriving → Result Holding (Stop EndRefusal) → Type 0
EndsAll arriving result =
    (rules : Rules) (wanted : Compute) → WithMore rules wanted arriving 0 (λ bytes. EndsSo rules wanted bytes result)

-- why the first vote is refused that is, is told, unless the input has a fault, or there is no memory
abbrev pub TellsEnd : Option AcceptRefusal → Result Holding (Stop EndRefusal) → Type 0
TellsEnd first (Ok accepted) = first ≡ None
TellsEnd first (Err stop.Memory) = Unit {0}
TellsEnd first (Err (stop.Refused (end.Fault fault))) = Unit {0}
TellsEnd first (Err (stop.Refused (end.Votes why))) = first ≡ Some why

-- ---- the command over a source

-- The bytes that a source had were read to their end, and are no more than the limit.
abbrev pub ReadsWhole : List ℕ → Option (List ℕ) → ℕ → Type 0
ReadsWhole bytes new limit = (new ≡ Some []) × (length bytes ≤ limit)

-- what the command answers over a source that had these bytes, if it tells: of all of them what it answers to an
-- input; or there are more than the limit
abbrev pub ComputesFrom : Rules → Compute → Option (List ℕ) → Option (List ℕ) → ℕ → Result (Vec ℕ) Halt → Type 0
ComputesFrom rules wanted None new limit result = Unit {0}
ComputesFrom rules wanted (Some bytes) new limit (Ok text) =
    ReadsWhole bytes new limit × ComputeAnswers rules wanted bytes (Ok text.items)
ComputesFrom rules wanted (Some bytes) new limit (Err halt.TooLong) = limit < length bytes
ComputesFrom rules wanted (Some bytes) new limit (Err halt.ReadFault) = Unit {0}
ComputesFrom rules wanted (Some bytes) new limit (Err (halt.Stops stop.Memory)) = Unit {0}
ComputesFrom rules wanted (Some bytes) new limit (Err (halt.Stops (stop.Refused why))) =
    ReadsWhole bytes new limit × ComputeAnswers rules wanted bytes (Err why)

-- what stands before a vote's refusal in the order of the statuses, or is want of memory
abbrev pub IsBeforeVotes : Halt → Type 0
IsBeforeVotes halt.ReadFault = Unit {0}
IsBeforeVotes halt.TooLong = Unit {0}
IsBeforeVotes (halt.Stops stop.Memory) = Unit {0}
IsBeforeVotes (halt.Stops (stop.Refused (refusal.Fault fault))) = Unit {0}
IsBeforeVotes (halt.Stops (stop.Refused why)) = ⊥

-- the verifier's fault is told, unless something stands before it
abbrev pub TellsVerifier : Result (Vec ℕ) Halt → Type 0
TellsVerifier (Ok text) = ⊥
TellsVerifier (Err why) = (why ≡ halt.Stops (stop.Refused refusal.Verifier)) ⊎ IsBeforeVotes why

-- of an input that was not read to its end, at most so many bytes were taken off the front
abbrev pub StopsReading : Option (List ℕ) → Option (List ℕ) → ℕ → Result (Vec ℕ) Halt → Type 0
StopsReading old new most (Err halt.TooLong) = TakesAtMost old new most
StopsReading old new most (Err halt.ReadFault) = TakesAtMost old new most
StopsReading old new most _ = Unit {0}

-- All bytes that the source had have come, if it tells; where it does not, some bytes have.
abbrev pub HasWhole : Option (List ℕ) → Option (List ℕ) → ℕ → List ℕ → Type 0
HasWhole None new limit bytes = length bytes ≤ limit
HasWhole (Some all) new limit bytes = (bytes ≡ all) × ReadsWhole all new limit

-- what reading the input of a source answers: what is kept of it when all bytes have come; or there are more than the
-- limit
abbrev pub HasReadVotes : Rules → Compute → Option (List ℕ) → Option (List ℕ) → ℕ → Result Arriving Halt → Type 0
HasReadVotes rules wanted old new limit (Ok arriving) =
    (bytes : List ℕ) × HasWhole old new limit bytes × IsArriving rules wanted bytes arriving
HasReadVotes rules wanted None new limit (Err why) = Unit {0}
HasReadVotes rules wanted (Some all) new limit (Err halt.TooLong) = limit < length all
HasReadVotes rules wanted (Some all) new limit (Err halt.ReadFault) = Unit {0}
HasReadVotes rules wanted (Some all) new limit (Err (halt.Stops stop.Memory)) = Unit {0}
HasReadVotes rules wanted (Some all) new limit (Err (halt.Stops (stop.Refused why))) = ⊥

-- the verifier failed at the first vote that is refused, or at none; where nothing was read whole it is not told
abbrev pub TellsRead : ℕ → ℕ → Result Arriving Halt → Type 0
TellsRead before now (Ok arriving) = TellsFirst before now arriving.votes.first
TellsRead before now (Err why) = IsBeforeVotes why
