-- What a whole run says of the words and of what stands outside.
use Rattle.std.specs.{Prelude.{◌≡◌, drop, Option, Some, false}, Bool.OnTrue}
use Rattle.dir_bytes.specs.Causes.{Counts, Rose}
use Rattle.key_port.specs.Answers.{Rules}
use Rattle.daemon_words.specs.declared.command.Command.{Command}
use Rattle.daemon_words.specs.declared.command.Command.TheVariants as command
use Rattle.authority_daemon.specs.{Served.IsServed, Commands.{Answers, May, uses}, Runs.{HasEnded, Ends}}
use Rattle.authority_daemon.specs.Runs.{IsBeforeChecks, IsBeforeSigning, IsBeforeVotes, IsDoneOrMemory, KeepsLimit}
use Rattle.authority_daemon.specs.Runs.{KnowsWords, MustAnswer, OnAnswer, StopsReading, Told, WritesOnlyAnswers}
use Rattle.authority_daemon.specs.{Runs.input_of, Moments.{Moment, Telling, TellsFaults, TellsFaultsOr}}
use Rattle.exit_status.specs.declared.status.Refusal.TheVariants as refusal
use Rattle.exit_status.specs.declared.status.Status.{Status}
use Rattle.exit_status.specs.declared.status.Status.TheVariants as status

-- What a run without workers says that ends with a status, of the words, which give this command or none, and of what
-- stands outside before and after it.
pub record IsRun {S C V N G L : Type 0} (its : May N) (given : Option Command) (old new : Moment S C V N G L)
    (s : Status) : Type 0 where
  -- bad words are exactly those that give no command
  pub words : KnowsWords given s
  -- the status and the text written are the command's for the input
  pub ends : (c : Command) → given ≡ Some c
      → Told (input_of c old.left)
      (λ bytes. Ends (Answers its c new.last bytes old.signer new.signer) old.written new.written s)
  -- nothing was written, but with the statuses of writing
  pub written : WritesOnlyAnswers old.written new.written s
  -- an input past its limit is said to be so, and no other is
  pub limit : (c : Command) → given ≡ Some c → Told (input_of c old.left) (λ bytes. KeepsLimit bytes s)
  -- the input is read to its end, also where it is refused
  pub read : OnAnswer s (OnTrue (uses given).reads (HasEnded old.left new.left))
  -- of an input that is too long, or that could not be read, at most the limit and one piece were taken
  pub stops : StopsReading old.left new.left s
  -- words that give no command, and a command that reads no input, leave the source as it was
  pub unread : (uses given).reads ≡ false → new.source ≡ old.source
  -- The source, the sink, the first verifier and the signer fail exactly where the status says so; but that a verifier that
  -- failed at a vote is not told where the status stands before it.
  pub source : TellsFaults old.read_faults new.read_faults (s ≡ status.ReadFault)
  pub sink : TellsFaults old.write_faults new.write_faults (s ≡ status.WriteFault)
  pub verifier : TellsFaultsOr old.verifier_faults new.verifier_faults (s ≡ status.Refused refusal.Verifier)
      (IsBeforeVotes given s)
  pub signer : TellsFaults old.signer_faults new.signer_faults (s ≡ status.Refused refusal.Signer)
  -- the first verifier alone is asked
  pub others : drop 1 new.verifiers ≡ drop 1 old.verifiers
  -- words that give no command, and a command that verifies nothing, ask none
  pub unasked : (uses given).verifies ≡ false → new.verifiers ≡ old.verifiers
  -- none is asked where the words are refused; nor, but with votes that are checked while they are read, where the input is, or
  -- what is read before anything is checked
  pub unchecked : IsBeforeChecks given s → new.verifiers ≡ old.verifiers
  -- a command that asks a clock asks the first alone; any other asks none
  pub timed : OnAnswer s (OnTrue (uses given).clock (Counts old.asks new.asks))
  pub other_clocks : drop 1 new.clocks ≡ drop 1 old.clocks
  pub untimed : (uses given).clock ≡ false → new.clocks ≡ old.clocks
  -- a command that has nothing signed leaves the signer as it was, and so does one that refuses something before
  pub unsigned : (uses given).signs ≡ false → new.signer ≡ old.signer
  pub unasked_signer : IsBeforeSigning s → new.signer ≡ old.signer
  -- no gate and no other authority is asked
  pub ungated : new.gates ≡ old.gates
  pub unlinked : new.link ≡ old.link

-- What a run says: with `serve` that of an authority that serves, and else that of a command without workers.
abbrev pub Runs : {S C V N G L : Type 0} → May N → Telling C G → Option Command → Moment S C V N G L
    → Moment S C V N G L → Status → Type 0
Runs its tells (Some (command.Serve wanted)) old new s = IsServed its tells wanted old new s
Runs its tells given old new s = IsRun its given old new s

-- An input that has to be answered is, unless there is no memory or something outside failed.
abbrev pub AnswersWhatItMust : {S C V N G L : Type 0} → Rules → Option Command → Moment S C V N G L → Moment S C V N G L
    → Status → Type 0
AnswersWhatItMust rules given old new s =
    MustAnswer rules given new.last old.left → ¬ Rose old.read_faults new.read_faults
    → ¬ Rose old.write_faults new.write_faults → ¬ Rose old.verifier_faults new.verifier_faults
    → ¬ Rose old.signer_faults new.signer_faults → IsDoneOrMemory s
