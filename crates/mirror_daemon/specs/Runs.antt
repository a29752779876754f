-- How a run of a mirror ends, by its words and its gate.
use Rattle.std.specs.Prelude.{◌≡◌, ℕ, Bool, true, Option, None, is_some}
use Rattle.dir_bytes.specs.Causes.{Rose}
use Rattle.mirror_daemon.specs.declared.{status.MirrorStatus.MirrorStatus, words.MirrorWords.MirrorWords}
use Rattle.mirror_daemon.specs.declared.outside.MirrorOutside.{MirrorOutside}
use Rattle.mirror_daemon.specs.declared.status.MirrorStatus.TheVariants as status

-- Nothing outside was asked but the errors sink.
pub record IsUntouched {C V G L E : Type 0} (before then : MirrorOutside C V G L E) : Type 0 where
  pub clock : then.clock ≡ before.clock
  pub verifier : then.verifier ≡ before.verifier
  pub gate : then.gate ≡ before.gate
  pub link : then.link ≡ before.link

-- nothing outside was asked
abbrev pub LeavesAll : {C V G L E : Type 0} → MirrorOutside C V G L E → MirrorOutside C V G L E → Type 0
LeavesAll before then = then ≡ before

module _ {G : Type 0} (faults : G → ℕ) (closed : G → Bool) (words : Option MirrorWords) (gate gate' : G)
    (Untouched : Type 0) where
  -- how a run ends: the gate was closed, or failed, after words that tell a mirror; or the words tell none, or there was
  -- no memory for them, and nothing was asked
  abbrev pub IsRun : MirrorStatus → Type 0
  IsRun status.Done = (is_some words ≡ true) × (closed gate' ≡ true)
  IsRun status.Memory = Untouched
  IsRun status.BadWords = (words ≡ None) × Untouched
  IsRun status.Gate = (is_some words ≡ true) × Rose (faults gate) (faults gate')
