-- What stands outside of the program.
use Rattle.std.specs.Prelude.{ℕ, ◌<◌, ◌⊎◌, Bool, List, Option}
use Rattle.dir_bytes.specs.Causes.{Rose}

-- What stands outside at a moment, but for the errors sink: objects, what they tell, and how often they have failed.
-- Where there are several of a kind it is the first that fails.
pub record Moment (S C V N G L : Type 0) : Type 0 where
  -- the source, and the bytes that it has left
  pub source : S
  pub left : Option (List ℕ)
  pub read_faults : ℕ
  -- what was written to the sink
  pub written : Option (List ℕ)
  pub write_faults : ℕ
  -- the clocks, the moment that the first gave last, and how often it was asked
  pub clocks : List C
  pub last : ℕ
  pub asks : ℕ
  -- the verifiers
  pub verifiers : List V
  pub verifier_faults : ℕ
  -- the signer
  pub signer : N
  pub signer_faults : ℕ
  -- the gates, and what asks other authorities
  pub gates : List G
  pub link : L

-- Where a run ends so, the count of an object's faults rose; and where the count is greater than before, the run ends
-- so.
pub record TellsFaults (before now : ℕ) (ends_so : Type 0) : Type 0 where
  pub cause : ends_so → Rose before now
  pub told : before < now → ends_so

-- The same, but that where the count is greater than before the run ends so, or as it may end before that.
pub record TellsFaultsOr (before now : ℕ) (ends_so ends_before : Type 0) : Type 0 where
  pub cause : ends_so → Rose before now
  pub told : before < now → ends_so ⊎ ends_before

-- What a clock tells, the moment that it gave last and how often it was asked; and what a gate tells, how often it has
-- failed, and whether its last answer was that none will come.
pub record Telling (C G : Type 0) : Type 0 where
  pub last : C → ℕ
  pub asks : C → ℕ
  pub faults : G → ℕ
  pub closed : G → Bool

-- these
abbrev pub telling_of : {C G : Type 0} → (C → ℕ) → (C → ℕ) → (G → ℕ) → (G → Bool) → Telling C G
telling_of last asks faults closed = record { last = last; asks = asks; faults = faults; closed = closed }
