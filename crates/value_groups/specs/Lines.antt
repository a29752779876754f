-- What the line of a shared random value says, or the place of what is wrong: its arguments from left to right (dir-spec,
-- "Vote and consensus status document formats").
use Rattle.std.specs.Prelude.{ℕ, Result, Ok}
use Rattle.item_terms.specs.Items.{Item}
use Rattle.dir_values.specs.Numbers.{number_of}
use Rattle.frame_values.specs.Arguments.{arguments_of, front, others, field, next}
use Rattle.value_groups.specs.{declared.value.SharedRandom.SharedRandom, Values.padded_digest}

-- a count below 2 ^ 32, and a value
abbrev pub random_of : Item → Result SharedRandom ℕ
random_of item =
    let first = front item.place (arguments_of item) in
    let second = front item.place (others (arguments_of item)) in
    next (field first (number_of first.text)) (λ count.
    next (field second (padded_digest second.text)) (λ value.
    Ok (record { count = count; value = value })))
