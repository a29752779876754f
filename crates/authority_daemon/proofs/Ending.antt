-- What a run ends with whose text was written, whole or in part, or whose command refused the input.
use Rattle.std.proofs.Common.{◌≡◌, ℕ, ◌<◌, ◌≤◌, Bool, true, false, List, [], length, take, Option, Some, None, Result}
use Rattle.std.{proofs.Common.{Ok, Err, ap, subst, sym, inl, ◌∙◌}, specs.{Prelude.if◌then◌else◌, Global.Vec}}
use Rattle.std.specs.{Io.KnownBytes.Appends, Bool.OnTrue}
use Rattle.dir_bytes.specs.Streams.{ReadsAll}
use Rattle.daemon_words.specs.declared.{command.Command.Command, stop.Stop.Stop}
use Rattle.daemon_words.specs.declared.command.Command.TheVariants as command
use Rattle.exit_status.specs.declared.status.Refusal.{Refusal}
use Rattle.exit_status.specs.declared.status.Status.TheVariants as status
use Rattle.daemon_words.specs.declared.stop.Stop.TheVariants as stop
use Rattle.authority_daemon.specs.{Runs.{Ends, HasEnded, Told, input_limit, input_of}, Commands.{May, uses}}
use Rattle.authority_daemon.specs.{Inside.{IsAnswer, is_gathered}, Moments.{Moment, TellsFaults, TellsFaultsOr}}

-- a refusal, as what a command returns
abbrev as_stop : Refusal → Result (Vec ℕ) (Stop Refusal)
as_stop why = Err (stop.Refused why)

-- the command answered this to the input
answered : (answers : Command → List ℕ → Result (List ℕ) Refusal → Type 0) (given : Option Command)
    (command c : Command) (input lent : List ℕ) (answer : Result (List ℕ) Refusal)
    → Some command ≡ given → given ≡ Some c → lent ≡ input → answers command lent answer
    → answers c input answer
answered answers given command c input lent answer is names same told =
    let one : command ≡ c = cc (is, names) in
    subst (λ (k : Command). answers k input answer) one
    (subst (λ (bytes : List ℕ). answers command bytes answer) same told)

-- a command whose input is gathered reads it
pub gathered : (c : Command) → is_gathered c ≡ true → (uses (Some c)).reads ≡ true
gathered (command.Compute wanted) is = absurd (cc is)
gathered (command.Check named) is = is
gathered (command.Show named) is = is
gathered (command.MakeVote wanted) is = is
gathered (command.Rehearse wanted) is = absurd (cc is)
gathered (command.Report wanted) is = is
gathered (command.Serve wanted) is = absurd (cc is)

-- what a command that reads the input says of what the source has left, it says of its input
pub over_input : (given : Option Command) (command : Command) (left : Option (List ℕ)) (P : Command → List ℕ → Type 0)
    → Some command ≡ given → (uses (Some command)).reads ≡ true → ((c : Command) → given ≡ Some c → Told left (P c))
    → (c : Command) → given ≡ Some c → Told (input_of c left) (P c)
over_input given command left P is reads told c names =
    let one : command ≡ c = cc (is, names) in
    let same : (uses (Some c)).reads ≡ true = subst (λ (k : Command). (uses (Some k)).reads ≡ true) one reads in
    subst (λ (b : Bool). Told (if b then left else Some []) (P c)) (sym same) (told c names)

-- it refused the input
pub refused : (answers : Command → List ℕ → Result (List ℕ) Refusal → Type 0) (given : Option Command)
    (command : Command) (left after : Option (List ℕ)) (limit : ℕ)
    (bytes : Vec ℕ) (lent : List ℕ) (why : Refusal) (old new : Option (List ℕ))
    → Some command ≡ given → ReadsAll left after limit (Ok bytes) → lent ≡ bytes.items → answers command lent (Err why)
    → (c : Command) → given ≡ Some c → Told left (λ input. Ends (answers c input) old new (status.Refused why))
refused answers given command None after limit bytes lent why old new is reads same told c names = tt
refused answers given command (Some input) after limit bytes lent why old new is reads same told c names =
    answered answers given command c input lent (Err why) is names (same ∙ reads.0) told

-- a fault is told by the refusal that a command answers
pub tells_refusal : (before now : ℕ) (why other : Refusal) → TellsFaults before now (as_stop why ≡ as_stop other)
    → TellsFaults before now (status.Refused why ≡ status.Refused other)
tells_refusal before now why other tells = record {
  cause = λ ends. let same : why ≡ other = cc ends in tells.cause (ap as_stop same);
  told = λ more. let same : why ≡ other = cc (tells.told more) in ap (λ (r : Refusal). status.Refused r) same;
}

-- what a call says that stopped so
pub as_refused : {S C V N G L : Type 0} (its : May N) (c : Command) (bytes : List ℕ) (old new : Moment S C V N G L)
    (given : Stop Refusal) (why : Refusal)
    → given ≡ stop.Refused why → IsAnswer its c bytes old new (Err given) → IsAnswer its c bytes old new (as_stop why)
as_refused its c bytes old new given why is told = subst (λ (s : Stop Refusal). IsAnswer its c bytes old new (Err s)) is told

-- its text was written whole
pub done : (answers : Command → List ℕ → Result (List ℕ) Refusal → Type 0) (given : Option Command)
    (command : Command) (left after : Option (List ℕ)) (limit : ℕ)
    (bytes : Vec ℕ) (lent text sent : List ℕ) (old new : Option (List ℕ))
    → Some command ≡ given → ReadsAll left after limit (Ok bytes) → lent ≡ bytes.items
    → answers command lent (Ok text) → sent ≡ text → Appends old new sent
    → (c : Command) → given ≡ Some c → Told left (λ input. Ends (answers c input) old new status.Done)
done answers given command None after limit bytes lent text sent old new is reads same told all appends c names = tt
done answers given command (Some input) after limit bytes lent text sent old new is reads same told all appends c
    names = (
      text,
      answered answers given command c input lent (Ok text) is names (same ∙ reads.0) told,
      subst (λ (t : List ℕ). Appends old new t) all appends,
    )

-- a front of its text was written
pub failed : (answers : Command → List ℕ → Result (List ℕ) Refusal → Type 0) (given : Option Command)
    (command : Command) (left after : Option (List ℕ)) (limit : ℕ)
    (bytes : Vec ℕ) (lent text sent : List ℕ) (count : ℕ) (old new : Option (List ℕ))
    → Some command ≡ given → ReadsAll left after limit (Ok bytes) → lent ≡ bytes.items
    → answers command lent (Ok text) → sent ≡ text → Appends old new (take count sent) → count < length sent
    → (c : Command) → given ≡ Some c → Told left (λ input. Ends (answers c input) old new status.WriteFault)
failed answers given command None after limit bytes lent text sent count old new is reads same told all appends short c
    names = tt
failed answers given command (Some input) after limit bytes lent text sent count old new is reads same told all appends
    short c names = (
      text,
      count,
      answered answers given command c input lent (Ok text) is names (same ∙ reads.0) told,
      subst (λ (t : List ℕ). count < length t) all short,
      subst (λ (t : List ℕ). Appends old new (take count t)) all appends,
    )

-- where it holds it holds on a condition
pub on_true : (b : Bool) (P : Type 0) → P → OnTrue b P
on_true true P p = p
on_true false P p = tt

-- an input that was read whole is within the limit
pub is_within : (left after : Option (List ℕ)) (bytes : Vec ℕ) → ReadsAll left after input_limit (Ok bytes)
    → Told left (λ input. length input ≤ input_limit)
is_within None after bytes reads = tt
is_within (Some input) after bytes reads = reads.2

-- and has ended, where the source is then left as it was
pub has_ended : (left after now : Option (List ℕ)) (bytes : Vec ℕ) → now ≡ after
    → ReadsAll left after input_limit (Ok bytes) → HasEnded left now
has_ended None after now bytes same reads = tt
has_ended (Some input) after now bytes same reads = same ∙ reads.1

-- a fault that is told exactly is told
pub told_at_once : (before now : ℕ) (ends_so ends_before : Type 0) → TellsFaults before now ends_so
    → TellsFaultsOr before now ends_so ends_before
told_at_once before now ends_so ends_before tells = record {
  cause = tells.cause;
  told = λ more. inl (tells.told more);
}
