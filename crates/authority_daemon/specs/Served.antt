-- What a run that serves says.
use Rattle.std.specs.{Prelude.{◌≡◌, ◌≢◌, ℕ, List, ◌∷◌, Some, drop}, Io.KnownBytes.Keeps}
use Rattle.dir_bytes.specs.Causes.{Counts}
use Rattle.daemon_words.specs.declared.command.Command.TheVariants as command
use Rattle.daemon_words.specs.declared.serving.Serve.{Serve}
use Rattle.exit_status.specs.{declared.status.{Refusal.Refusal, Status.Status}, Told.by_serve}
use Rattle.exit_status.specs.declared.status.Refusal.TheVariants as refusal
use Rattle.exit_status.specs.declared.status.Status.TheVariants as status
use Rattle.serve_command.specs.{Passed.{Served, SomeRose}, Serving.HasServed, Answerable.CanServe}
use Rattle.serve_command.specs.{Starting.RefusesToServe, declared.refusal.ServeRefusal.ServeRefusal}
use Rattle.serve_command.specs.Passed.TheVariants as served
use Rattle.authority_daemon.specs.{Commands.May, Moments.{Moment, Telling, TellsFaults, TellsFaultsOr}, Runs.KeepsLimit}
use Rattle.authority_daemon.specs.Runs.{HasEnded, KnowsWords, OnAnswer, StopsReading, Told}

-- how a run ends in which an authority served
abbrev pub status_of : Served → Status
status_of served.Whole = status.Done
status_of served.NoMemory = status.Memory
status_of served.WriteFault = status.WriteFault
status_of served.GateFault = status.Refused refusal.Gate

-- the statuses of a run in which an authority may have served
abbrev pub IsOfServing : Status → Type 0
IsOfServing status.Done = Unit {0}
IsOfServing status.WriteFault = Unit {0}
IsOfServing status.Memory = Unit {0}
IsOfServing (status.Refused refusal.Gate) = Unit {0}
IsOfServing _ = ⊥

-- The first clock was asked, and this holds at the moment that it gave.
pub record AtOnce {C G : Type 0} (tells : Telling C G) (clocks : List C) (Is : ℕ → Type 0) : Type 0 where
  pub first : C
  pub others : List C
  pub were : clocks ≡ first ∷ others
  pub clock : C
  pub counts : Counts (tells.asks first) (tells.asks clock)
  pub is : Is (tells.last clock)

module _ {S C V N G L : Type 0} (its : May N) (tells : Telling C G) (wanted : Serve)
    (old new : Moment S C V N G L) where
  -- The authority that the input speaks of served, from the moment that the first clock gave when it was asked,
  -- and ended so.
  abbrev pub EndsServing : List ℕ → Served → Type 0
  EndsServing bytes how =
      AtOnce tells old.clocks (λ now. HasServed its.rules its.gives its.steps tells.last tells.faults tells.closed
      wanted.bandwidths wanted.newest now bytes old.gates new.gates old.written new.written old.write_faults
      new.write_faults how)

  -- The input is refused at that moment; and where an authority can serve of it then, only since the verifier failed.
  pub record IsRefusedAt (bytes : List ℕ) (why : Refusal) (now : ℕ) : Type 0 where
    pub own : ServeRefusal
    pub told : why ≡ by_serve own
    pub refuses : RefusesToServe its.rules wanted.bandwidths wanted.newest now bytes own
    pub unable : CanServe its.rules wanted.bandwidths wanted.newest now bytes → why ≡ refusal.Verifier

  -- how a run ends whose input was read: the authority served, and its report was written, whole or a front of it, or
  -- a gate failed, with that report or none; or the input is refused
  abbrev pub EndsOn : List ℕ → Status → Type 0
  EndsOn bytes status.Done = EndsServing bytes served.Whole
  EndsOn bytes status.WriteFault = EndsServing bytes served.WriteFault
  EndsOn bytes (status.Refused refusal.Gate) = EndsServing bytes served.GateFault
  EndsOn bytes (status.Refused why) = AtOnce tells old.clocks (IsRefusedAt bytes why)
  EndsOn bytes _ = Unit {0}

  -- Nothing was served: the gates, the signer and the link are as they were, nothing was written, and the first clock and
  -- the first verifier alone were asked.
  pub record HasNotServed : Type 0 where
    pub gates : new.gates ≡ old.gates
    pub signer : new.signer ≡ old.signer
    pub link : new.link ≡ old.link
    pub written : Keeps old.written new.written
    pub other_clocks : drop 1 new.clocks ≡ drop 1 old.clocks
    pub other_verifiers : drop 1 new.verifiers ≡ drop 1 old.verifiers

  -- with every status but these nothing was served, and after want of memory nothing was written
  abbrev pub ServesOnlySo : Status → Type 0
  ServesOnlySo status.Done = Unit {0}
  ServesOnlySo status.WriteFault = Unit {0}
  ServesOnlySo status.Memory = Keeps old.written new.written
  ServesOnlySo (status.Refused refusal.Gate) = Unit {0}
  ServesOnlySo _ = HasNotServed

  -- the clocks and the verifiers are as they were
  abbrev pub AreUnasked : Type 0
  AreUnasked = (new.clocks ≡ old.clocks) × (new.verifiers ≡ old.verifiers)

  -- none of them was asked where the input could not be read
  abbrev pub AsksOfInput : Status → Type 0
  AsksOfInput status.ReadFault = AreUnasked
  AsksOfInput status.TooLong = AreUnasked
  AsksOfInput _ = Unit {0}

  -- What a run of `serve` says that ends with a status.
  pub record IsServed (s : Status) : Type 0 where
    -- the words gave the command
    pub words : KnowsWords (Some (command.Serve wanted)) s
    -- how it ended is the input's: the authority served, or the input is refused
    pub ends : Told old.left (λ bytes. EndsOn bytes s)
    -- nothing was served or written, but with the statuses of serving
    pub served : ServesOnlySo s
    -- no clock and no verifier was asked where the input could not be read
    pub unasked : AsksOfInput s
    -- an input past its limit is said to be so, and no other is
    pub limit : Told old.left (λ bytes. KeepsLimit bytes s)
    -- the input is read to its end, also where it is refused
    pub read : OnAnswer s (HasEnded old.left new.left)
    -- of an input that is too long, or that could not be read, at most the limit and one piece were taken
    pub stops : StopsReading old.left new.left s
    -- the source fails exactly where the status says so
    pub source : TellsFaults old.read_faults new.read_faults (s ≡ status.ReadFault)
    -- The sink fails exactly where the status says so, but that a gate's fault is told before it; the first verifier so where
    -- the authority did not serve. Some gate failed where the status says so, and the signer is never said to have failed.
    pub sink : TellsFaultsOr old.write_faults new.write_faults (s ≡ status.WriteFault) (s ≡ status.Refused refusal.Gate)
    pub verifier : TellsFaultsOr old.verifier_faults new.verifier_faults (s ≡ status.Refused refusal.Verifier)
        (IsOfServing s)
    pub gates : s ≡ status.Refused refusal.Gate → SomeRose tells.faults old.gates new.gates
    pub signer : s ≢ status.Refused refusal.Signer
