-- Refusals of a document.
use Rattle.std.specs.Prelude.{◌≡◌, ℕ, Result, Ok, Err}
use Rattle.item_terms.specs.declared.fault.DocFault.{DocFault}
use Rattle.frame_terms.specs.declared.fault.{FrameFault.FrameFault, FrameReason.{FrameReason, TheVariants.Doc}}
use Rattle.frame_terms.specs.declared.fault.ReadRefusal.{ReadRefusal, TheVariants.{Frame, Memory}}

-- the fault at this place
abbrev pub refusal_at : ℕ → FrameReason → ReadRefusal
refusal_at place reason = Frame (record { place = place; reason = reason })

-- the fault of a line or an object
abbrev pub of_doc : DocFault → ReadRefusal
of_doc fault = refusal_at fault.place (Doc fault.reason)

-- a refusal is what reading gives, unless memory ran out
abbrev pub Fails : {Y : Type 0} → ReadRefusal → Result Y ReadRefusal → Type 0
Fails Memory read = Unit {0}
Fails (Frame fault) read = read ≡ Err (Frame fault)

module _ {X : Type 0} where
  -- What a call answers that changes a value, where this is to come of it: the value has changed so, or this fault is
  -- told; or memory ran out.
  abbrev pub Becomes : Result X FrameFault → X → Result (Unit {0}) ReadRefusal → Type 0
  Becomes wanted new (Ok _) = wanted ≡ Ok new
  Becomes wanted new (Err Memory) = Unit {0}
  Becomes wanted new (Err (Frame fault)) = wanted ≡ Err fault
