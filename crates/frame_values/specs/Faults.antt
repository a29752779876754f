-- What is wrong with what an item says.
use Rattle.std.specs.Prelude.{ℕ, nat_lt, length, Result, Ok, Err, if◌then◌else◌}
use Rattle.item_terms.specs.Items.{Item}
use Rattle.frame_values.specs.Arguments.{arguments_of}
use Rattle.frame_terms.specs.declared.fault.{FrameFault.FrameFault, FrameReason.TheVariants.{Value, TooMany}}
use Rattle.frame_terms.specs.{declared.row.Limit.Limit, Rows.limit_number}

module _ {V : Type 0} where
  -- what an item says, or the fault at the place of what is wrong
  abbrev pub at_place : Result V ℕ → Result V FrameFault
  at_place (Ok value) = Ok value
  at_place (Err place) = Err (record { place = place; reason = Value })

  -- what an item says, unless there is a fault before
  abbrev pub unless_fault : Result (Unit {0}) FrameFault → Result V FrameFault → Result V FrameFault
  unless_fault (Ok _) other = other
  unless_fault (Err fault) other = Err fault

-- the fault of an item that has more arguments than a limit
abbrev pub too_many : Limit → Item → Result (Unit {0}) FrameFault
too_many limit item =
    if nat_lt (limit_number limit) (length (arguments_of item)) then Err
    (record { place = item.place; reason = TooMany limit })
    else Ok tt
