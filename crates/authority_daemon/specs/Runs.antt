-- What a whole run says: of the words, the input, what was written, and the counts of faults.
use Rattle.std.specs.Prelude.{◌≡◌, ℕ, ◌+◌, ◌<◌, ◌≤◌, List, [], ◌∷◌, length, take, Option, Some, None, Result, Ok, Err}
use Rattle.std.specs.{Prelude.if◌then◌else◌, Io.KnownBytes.{Appends, Keeps}}
use Rattle.dir_bytes.specs.Streams.{TakesAtMost}
use Rattle.key_port.specs.Answers.{Rules}
use Rattle.authority_daemon.specs.Commands.{Answerable, IsBeforeSigner, IsEarly, uses}
use Rattle.daemon_words.specs.declared.command.Command.{Command}
use Rattle.daemon_words.specs.declared.command.Command.TheVariants as command
use Rattle.exit_status.specs.declared.status.{Status.Status, Refusal.Refusal}
use Rattle.exit_status.specs.declared.status.Status.TheVariants as status
use Rattle.exit_status.specs.declared.status.Refusal.TheVariants as refusal

-- how many bytes an input may have
abbrev pub input_limit : ℕ
input_limit = 268435456

-- where an object tells what it has
abbrev pub Told : {A : Type 0} → Option A → (A → Type 0) → Type 0
Told None P = Unit {0}
Told (Some x) P = P x

-- bad words are words that give no command, and any other status but want of memory has a command
abbrev pub KnowsWords : Option Command → Status → Type 0
KnowsWords given status.Memory = Unit {0}
KnowsWords given status.BadWords = given ≡ None
KnowsWords given _ = (c : Command) × (given ≡ Some c)

-- the input of a command: what the source has left, and no bytes where the command reads none
abbrev pub input_of : Command → Option (List ℕ) → Option (List ℕ)
input_of c left = if (uses (Some c)).reads then left else Some []

-- an input past the limit is said to be so, and no other is
abbrev pub KeepsLimit : List ℕ → Status → Type 0
KeepsLimit bytes status.Memory = Unit {0}
KeepsLimit bytes status.BadWords = Unit {0}
KeepsLimit bytes status.ReadFault = Unit {0}
KeepsLimit bytes status.TooLong = input_limit < length bytes
KeepsLimit bytes _ = length bytes ≤ input_limit

-- the command's text was written whole, or where a write failed a front of it that lacks some byte, or the command refuses the input
abbrev pub Ends : (Result (List ℕ) Refusal → Type 0) → Option (List ℕ) → Option (List ℕ) → Status → Type 0
Ends answers old new status.Done = (text : List ℕ) × answers (Ok text) × Appends old new text
Ends answers old new status.WriteFault = (text : List ℕ) × (n : ℕ) × answers (Ok text) × (n < length text) × Appends old new (take n text)
Ends answers old new (status.Refused refusal) = answers (Err refusal)
Ends answers old new _ = Unit {0}

-- nothing was written, but with the two statuses of writing
abbrev pub WritesOnlyAnswers : Option (List ℕ) → Option (List ℕ) → Status → Type 0
WritesOnlyAnswers old new status.Done = Unit {0}
WritesOnlyAnswers old new status.WriteFault = Unit {0}
WritesOnlyAnswers old new _ = Keeps old new

-- nothing is left of what a source had
abbrev pub HasEnded : Option (List ℕ) → Option (List ℕ) → Type 0
HasEnded None new = Unit {0}
HasEnded (Some old) new = new ≡ Some []

-- this holds where the input was answered: with a text, a front of it, or a refusal
abbrev pub OnAnswer : Status → Type 0 → Type 0
OnAnswer status.Done P = P
OnAnswer status.WriteFault P = P
OnAnswer (status.Refused refusal) P = P
OnAnswer _ P = Unit {0}

-- of an input that is too long, or that could not be read, bytes were taken off the front: at most the limit, and one piece
abbrev pub StopsReading : Option (List ℕ) → Option (List ℕ) → Status → Type 0
StopsReading old new status.TooLong = TakesAtMost old new (input_limit + 65536)
StopsReading old new status.ReadFault = TakesAtMost old new (input_limit + 65536)
StopsReading old new _ = Unit {0}

-- the first count of some objects
abbrev pub first_count : {X : Type 0} → (X → ℕ) → List X → ℕ
first_count count [] = 0
first_count count (x ∷ xs) = count x

-- The words are refused; or the command refuses the input before anything is checked; or the input could not be read,
-- but not with `compute`, whose votes are checked while they are read.
abbrev pub IsBeforeChecks : Option Command → Status → Type 0
IsBeforeChecks given status.BadWords = Unit {0}
IsBeforeChecks (Some given) (status.Refused why) = IsEarly given why
IsBeforeChecks (Some (command.Compute wanted)) _ = ⊥
IsBeforeChecks given status.ReadFault = Unit {0}
IsBeforeChecks given status.TooLong = Unit {0}
IsBeforeChecks given _ = ⊥

-- the words are refused, the input could not be read, or something is refused before the signer is asked
abbrev pub IsBeforeSigning : Status → Type 0
IsBeforeSigning status.BadWords = Unit {0}
IsBeforeSigning status.ReadFault = Unit {0}
IsBeforeSigning status.TooLong = Unit {0}
IsBeforeSigning (status.Refused why) = IsBeforeSigner why
IsBeforeSigning _ = ⊥

-- a status that stands before a vote's refusal in the order, or is want of memory, where the votes of the input are checked
-- while they are read: a verifier that failed is not told then
abbrev pub IsBeforeVotes : Option Command → Status → Type 0
IsBeforeVotes (Some (command.Compute wanted)) status.ReadFault = Unit {0}
IsBeforeVotes (Some (command.Compute wanted)) status.TooLong = Unit {0}
IsBeforeVotes (Some (command.Compute wanted)) status.Memory = Unit {0}
IsBeforeVotes (Some (command.Compute wanted)) (status.Refused (refusal.Document why)) = Unit {0}
IsBeforeVotes given s = ⊥

-- the text was written, or there was no memory
abbrev pub IsDoneOrMemory : Status → Type 0
IsDoneOrMemory status.Done = Unit {0}
IsDoneOrMemory status.Memory = Unit {0}
IsDoneOrMemory _ = ⊥

-- The words give a command that has to answer this input, which passes no limit, at a moment.
pub record MustAnswer (rules : Rules) (given : Option Command) (now : ℕ) (left : Option (List ℕ)) : Type 0 where
  pub command : Command
  pub words : given ≡ Some command
  pub bytes : List ℕ
  pub input : input_of command left ≡ Some bytes
  pub within : length bytes ≤ input_limit
  pub answerable : Answerable rules command now bytes
