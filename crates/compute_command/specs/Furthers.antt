-- A fault that stands so many bytes further on.
use Rattle.std.specs.Prelude.{◌≡◌, ℕ}
use Rattle.frame_terms.specs.declared.fault.FrameFault.{FrameFault}
use Rattle.blank_lines.specs.Behind.{fault_behind}

-- the fault stands so many bytes further on than one of which this holds
abbrev pub IsFurther : ℕ → (FrameFault → Type 0) → FrameFault → Type 0
IsFurther start Holds fault = (own : FrameFault) × (fault ≡ fault_behind start own) × Holds own
