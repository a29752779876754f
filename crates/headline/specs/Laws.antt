-- The laws of the headline, and what two runs say together.
use Rattle.std.specs.Prelude.{◌≡◌, ◌≤◌, ℕ, List, length, Option, Some}
use Rattle.dir_bytes.specs.Causes.{Rose}
use Rattle.key_port.specs.Answers.{Rules}
use Rattle.daemon_words.specs.declared.command.Command.TheVariants as command
use Rattle.daemon_words.specs.declared.{command.Compute.Compute, serving.Serve.Serve}
use Rattle.exit_status.specs.declared.status.Status.{Status}
use Rattle.exit_status.specs.declared.status.Status.TheVariants as status
use Rattle.exit_status.specs.declared.status.Refusal.TheVariants as refusal
use Rattle.vote_terms.specs.Held.{held, RanksApart, SameMembers}
use Rattle.compute_terms.specs.Consensuses.{consensus}
use Rattle.compute_command.specs.Answers.{texts_of, CanCompute}
use Rattle.authority_daemon.specs.{Commands.May, Moments.{Moment, Telling}, Runs.input_limit, Served.IsServed}
use Rattle.authority_daemon.specs.World.{IsRun}
use Rattle.headline.specs.Headline.{IsComputedAlone, ServesRightly}

-- A run of `compute` that ends with its text.
abbrev pub ComputeSays : (S C V N G L : Type 0) → May N → Type 0
ComputeSays S C V N G L its =
    (wanted : Compute) (old new : Moment S C V N G L) (bytes : List ℕ) → old.left ≡ Some bytes
    → IsRun its (Some (command.Compute wanted)) old new status.Done
    → IsComputedAlone its.rules wanted bytes old.written new.written

-- A run of `serve` that ends with its report.
abbrev pub ServeSays : (S C V N G L : Type 0) → May N → Telling C G → Type 0
ServeSays S C V N G L its tells =
    (wanted : Serve) (old new : Moment S C V N G L) (bytes : List ℕ) → old.left ≡ Some bytes
    → IsServed its tells wanted old new status.Done
    → ServesRightly its.rules wanted.bandwidths wanted.newest bytes (length old.gates) old.written new.written

-- Two inputs of `compute` with the same votes, in whatever order and however often, for one roster, period, choice of
-- flavours and newest method have one text, unless two different votes of one authority share a rank.
abbrev pub TextsAgree : Type 0
TextsAgree = (rules : Rules) (wanted : Compute) (bytes others : List ℕ) (old new old' new' : Option (List ℕ))
    (one : IsComputedAlone rules wanted bytes old new) (other : IsComputedAlone rules wanted others old' new')
    → SameMembers one.votes other.votes → RanksApart one.votes
    → texts_of wanted.flavours (consensus wanted.newest (length wanted.roster) (held one.votes))
    ≡ texts_of wanted.flavours (consensus wanted.newest (length wanted.roster) (held other.votes))

-- How a run may end whose input is acceptable votes of more than half of the roster, none of whose signatures may be
-- refused: what fails outside is told by its count.
abbrev pub EndsForMemoryAlone : {S C V N G L : Type 0} → Moment S C V N G L → Moment S C V N G L → Status → Type 0
EndsForMemoryAlone old new status.Done = Unit {0}
EndsForMemoryAlone old new status.Memory = Unit {0}
EndsForMemoryAlone old new status.ReadFault = Rose old.read_faults new.read_faults
EndsForMemoryAlone old new status.WriteFault = Rose old.write_faults new.write_faults
EndsForMemoryAlone old new (status.Refused refusal.Verifier) = Rose old.verifier_faults new.verifier_faults
EndsForMemoryAlone old new _ = ⊥

-- With votes of more than half of the roster `compute` fails for want of memory alone.
abbrev pub MajoritiesFailForMemoryAlone : (S C V N G L : Type 0) → May N → Type 0
MajoritiesFailForMemoryAlone S C V N G L its =
    (wanted : Compute) (old new : Moment S C V N G L) (bytes : List ℕ) (s : Status) → old.left ≡ Some bytes
    → length bytes ≤ input_limit → CanCompute its.rules wanted bytes
    → IsRun its (Some (command.Compute wanted)) old new s → EndsForMemoryAlone old new s
