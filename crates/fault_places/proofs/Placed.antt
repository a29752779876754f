-- The places of what is wrong with an item, as faults, and with its fields.
use Rattle.std.proofs.Common.{ℕ, Option, Result, Ok, Err}
use Rattle.frame_terms.specs.declared.fault.FrameFault.{FrameFault}
use Rattle.frame_values.specs.{Arguments.{Argument, field, next}, Faults.{at_place, unless_fault}}
use Rattle.fault_places.{specs.Within.FaultIn, proofs.{ArgumentPlaces.{Begins, PlaceIn}, ItemPlaces.{one_in, then_in}}}

module _ (n : ℕ) where
  pub placed_in : {V : Type 0} (read : Result V ℕ) → PlaceIn n read → FaultIn n (at_place read)
  placed_in (Ok value) is = tt
  placed_in (Err place) is = is

  pub placed_unless : {V : Type 0} (first : Result (Unit {0}) FrameFault) (read : Result V ℕ) → FaultIn n first
      → PlaceIn n read → FaultIn n (unless_fault first (at_place read))
  placed_unless (Err fault) read one other = one
  placed_unless (Ok u) read one other = placed_in read other

  -- the last field
  pub last_in : {A B : Type 0} (a : Argument) (x : Option A) (make : A → B) → Begins n a
      → PlaceIn n (next (field a x) (λ value. Ok (make value)))
  last_in a x make begins = then_in n (field a x) make (one_in n a x begins)
