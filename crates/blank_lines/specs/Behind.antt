-- A document that stands behind other bytes: its places count so many bytes further on.
use Rattle.std.specs.Prelude.{ℕ, ◌+◌, ◌<◌, ◌^◌, Result, Ok, Err}
use Rattle.frame_terms.specs.declared.fault.{FrameFault.FrameFault, ReadRefusal.{ReadRefusal, TheVariants.Frame}}
use Rattle.frame_terms.specs.declared.fault.ReadRefusal.TheVariants.{Memory}

-- its fault
abbrev pub fault_behind : ℕ → FrameFault → FrameFault
fault_behind n fault = record { place = n + fault.place; reason = fault.reason }

-- why it is refused
abbrev pub refusal_behind : ℕ → ReadRefusal → ReadRefusal
refusal_behind n (Frame fault) = Frame (fault_behind n fault)
refusal_behind n Memory = Memory

-- the place that is told, if one is, is a number of 64 bits
abbrev pub FitsBehind : ℕ → ReadRefusal → Type 0
FitsBehind n (Frame fault) = n + fault.place < 2 ^ 64
FitsBehind n Memory = Unit {0}

-- what was read of it, and the place after it; or why it is refused
abbrev pub behind : {A : Type 0} → ℕ → Result (A × ℕ) ReadRefusal → Result (A × ℕ) ReadRefusal
behind n (Ok (value, end)) = Ok (value, n + end)
behind n (Err refusal) = Err (refusal_behind n refusal)
