-- A fault that stands so many bytes further on.
use Rattle.std.specs.Prelude.{ℕ}
use Rattle.frame_terms.specs.declared.fault.FrameFault.{FrameFault}
use Rattle.compute_command.specs.Furthers.{IsFurther}

-- where one fact gives another of a fault, it gives it of one further on
pub further_on : (n : ℕ) (A B : FrameFault → Type 0) → ((own : FrameFault) → A own → B own) → (fault : FrameFault)
    → IsFurther n A fault → IsFurther n B fault
further_on n A B gives fault (own, same, has) = (own, same, gives own has)
