-- What the items of a kind say is such, by what is read of them. So it is told in a line which kinds of a document's
-- items never say this or that, whatever its tables: `made_of_any` and `said_of_any` for all kinds at once.
use Rattle.std.proofs.Common.{◌≡◌, ℕ, Result, Ok, Err}
use Rattle.frame_terms.specs.declared.fault.FrameFault.{FrameFault}
use Rattle.frame_values.specs.{Arguments.next, Faults.{at_place, unless_fault}}
use Rattle.row_laws.proofs.ReadSteps.{ReadAs, no_fault, was_read}

-- what is made of what was read is such, if it is whatever was read
pub made_of_any : {A V : Type 0} (Is : V → Type 0) (read : Result A ℕ) (of : A → V) → ((a : A) → Is (of a))
    → ReadAs Is (next read (λ a. Ok (of a)))
made_of_any Is (Ok a) of each = each a
made_of_any Is (Err place) of each = tt

-- so is what was said
pub said_of_any : {A V : Type 0} (Is : V → Type 0) (read : Result A ℕ) (of : A → V) (v : V)
    → next read (λ a. Ok (of a)) ≡ Ok v → ((a : A) → Is (of a)) → Is v
said_of_any Is read of v is each = was_read Is (next read (λ a. Ok (of a))) v (made_of_any Is read of each) is

-- what an item says is such, if what is read of its kind is, unless there is a fault before
pub says_as_read : {V : Type 0} (Is : V → Type 0) (wrong : Result (Unit {0}) FrameFault) (read : Result V ℕ) (v : V)
    → ReadAs Is read → unless_fault wrong (at_place read) ≡ Ok v → Is v
says_as_read Is wrong read v reads is = was_read Is read v reads (no_fault wrong read v is).1
