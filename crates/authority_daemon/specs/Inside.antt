-- What the private functions of this crate say.
use Rattle.std.specs.Prelude.{◌≡◌, ℕ, ◌+◌, ◌<◌, List, drop, Option, Some, Result, Ok, Err, IfErr, Bool, true, false}
use Rattle.std.specs.{Global.Vec, Bool.OnTrue}
use Rattle.dir_bytes.specs.Causes.{Counts, Rose}
use Rattle.key_port.specs.Answers.{Rules}
use Rattle.compute_command.specs.{declared.halt.Halt.Halt, Arriving.{ComputesFrom, StopsReading, TellsVerifier}}
use Rattle.compute_command.specs.declared.halt.Halt.TheVariants as halt
use Rattle.compute_command.specs.declared.refusal.ComputeRefusal.TheVariants as compute
use Rattle.daemon_words.specs.{declared.{command.{Command.Command, Compute.Compute}, stop.Stop.Stop}, Stops.Answered}
use Rattle.daemon_words.specs.declared.command.Command.TheVariants as command
use Rattle.exit_status.specs.{declared.status.{Status.Status, Refusal.Refusal}, Told.by_compute}
use Rattle.exit_status.specs.declared.status.Status.TheVariants as status
use Rattle.exit_status.specs.declared.status.Refusal.TheVariants as refusal
use Rattle.daemon_words.specs.declared.stop.Stop.TheVariants as stop
use Rattle.serve_command.specs.Passed.{Outside}
use Rattle.authority_daemon.specs.{Commands.{Answers, IsBeforeSigner, IsEarly, May, uses}, Moments.Moment}
use Rattle.authority_daemon.specs.{Moments.TellsFaults, Runs.input_limit}

-- The source, the two sinks, the gates and the link are as they were.
pub record LeavesStreams {S K E C V N G L : Type 0} (old new : Outside S K E C V N G L) : Type 0 where
  pub source : new.source ≡ old.source
  pub sink : new.sink ≡ old.sink
  pub errors : new.errors ≡ old.errors
  pub gates : new.gates ≡ old.gates
  pub link : new.link ≡ old.link

-- how a run ends whose command stops so while it reads the input
abbrev pub status_of : Halt → Status
status_of halt.ReadFault = status.ReadFault
status_of halt.TooLong = status.TooLong
status_of (halt.Stops stop.Memory) = status.Memory
status_of (halt.Stops (stop.Refused why)) = status.Refused (by_compute why)

-- What `compute` gives over a source that had these bytes left and then those, and over verifiers of which the first is
-- asked: by how often the source and that one have failed, before and then.
pub record IsComputed {V : Type 0} (rules : Rules) (wanted : Compute) (left after : Option (List ℕ))
    (reads reads_then : ℕ) (verifiers verifiers_then : List V) (faults faults_then : ℕ)
    (result : Result (Vec ℕ) Halt) : Type 0 where
  pub answer : ComputesFrom rules wanted left after input_limit result
  pub stops : StopsReading left after (input_limit + 65536) result
  pub source : TellsFaults reads reads_then (result ≡ Err halt.ReadFault)
  pub cause : result ≡ Err (halt.Stops (stop.Refused compute.Verifier)) → Rose faults faults_then
  pub told : faults < faults_then → TellsVerifier result
  pub others : drop 1 verifiers_then ≡ drop 1 verifiers

-- The two sinks, the clocks, the signer, the gates and the link are as they were.
pub record LeavesOthers {S K E C V N G L : Type 0} (old new : Outside S K E C V N G L) : Type 0 where
  pub sink : new.sink ≡ old.sink
  pub errors : new.errors ≡ old.errors
  pub clocks : new.clocks ≡ old.clocks
  pub signer : new.signer ≡ old.signer
  pub gates : new.gates ≡ old.gates
  pub link : new.link ≡ old.link

-- a call stopped for a refusal of this kind
abbrev pub OfRefusal : (Refusal → Type 0) → Stop Refusal → Type 0
OfRefusal Is stop.Memory = ⊥
OfRefusal Is (stop.Refused why) = Is why

-- A call did not stop because the verifier or the signer failed, which it does not ask.
pub record AsksNoKeys (result : Result (Vec ℕ) (Stop Refusal)) : Type 0 where
  pub verifier : result ≡ Err (stop.Refused refusal.Verifier) → ⊥
  pub signer : result ≡ Err (stop.Refused refusal.Signer) → ⊥

-- there was memory for an answer
abbrev pub IsAnswered : Result (Vec ℕ) (Stop Refusal) → Type 0
IsAnswered (Ok text) = Unit {0}
IsAnswered (Err (stop.Refused why)) = Unit {0}
IsAnswered (Err stop.Memory) = ⊥

-- whether a command reads its input whole before it answers it with a text
abbrev pub is_gathered : Command → Bool
is_gathered (command.Compute wanted) = false
is_gathered (command.Rehearse wanted) = false
is_gathered (command.Serve wanted) = false
is_gathered given = true

-- What a command answers to an input, and what it asks of what stands outside.
pub record IsAnswer {S C V N G L : Type 0} (its : May N) (c : Command) (bytes : List ℕ) (old new : Moment S C V N G L)
    (result : Result (Vec ℕ) (Stop Refusal)) : Type 0 where
  pub answer : Answered (Answers its c new.last bytes old.signer new.signer) result
  pub verifier : TellsFaults old.verifier_faults new.verifier_faults (result ≡ Err (stop.Refused refusal.Verifier))
  pub signer : TellsFaults old.signer_faults new.signer_faults (result ≡ Err (stop.Refused refusal.Signer))
  pub others : drop 1 new.verifiers ≡ drop 1 old.verifiers
  pub unasked : (uses (Some c)).verifies ≡ false → new.verifiers ≡ old.verifiers
  pub unchecked : IfErr result (λ why. OfRefusal (IsEarly c) why → new.verifiers ≡ old.verifiers)
  pub timed : IsAnswered result → OnTrue (uses (Some c)).clock (Counts old.asks new.asks)
  pub other_clocks : drop 1 new.clocks ≡ drop 1 old.clocks
  pub untimed : (uses (Some c)).clock ≡ false → new.clocks ≡ old.clocks
  pub unsigned : (uses (Some c)).signs ≡ false → new.signer ≡ old.signer
  pub unasked_signer : IfErr result (λ why. OfRefusal IsBeforeSigner why → new.signer ≡ old.signer)
