-- What a call answers that may want memory, by what it is to answer.
use Rattle.std.specs.Prelude.{◌≡◌, Result, Ok, Err}
use Rattle.frame_terms.specs.declared.fault.{FrameFault.FrameFault, ReadRefusal.{ReadRefusal, TheVariants.Frame}}
use Rattle.frame_terms.specs.{declared.fault.ReadRefusal.TheVariants.Memory, Refusals.Fails}

module _ {V : Type 0} where
  -- exactly this value or this fault, unless memory ran out
  abbrev pub Gives : Result V FrameFault → Result V ReadRefusal → Type 0
  Gives wanted (Ok value) = wanted ≡ Ok value
  Gives wanted (Err Memory) = Unit {0}
  Gives wanted (Err (Frame fault)) = wanted ≡ Err fault

  -- this value, or this fault as a refusal
  abbrev pub given_result : Result V FrameFault → Result V ReadRefusal
  given_result (Ok value) = Ok value
  given_result (Err fault) = Err (Frame fault)

module _ {Y : Type 0} where
  -- exactly what reading gives, unless memory ran out
  abbrev pub Tells : Result Y ReadRefusal → Result Y ReadRefusal → Type 0
  Tells read (Ok value) = read ≡ Ok value
  Tells read (Err refusal) = Fails refusal read
