-- The arguments of an item, one after the other (dir-spec, meta-format).
use Rattle.std.specs.Prelude.{ℕ, List, [], ◌∷◌, Option, Some, None, Result, Ok, Err}
use Rattle.item_terms.specs.Items.{Item}
pub use Rattle.dir_values.specs.Arguments.{Argument, arguments_at}

-- the arguments of an item
abbrev pub arguments_of : Item → List Argument
arguments_of item = arguments_at item.start item.arguments

-- The argument in front. Where none is left it is an empty one at the item's place: no value has an empty text, so the
-- place of a missing argument is the item's.
abbrev pub front : ℕ → List Argument → Argument
front item [] = record { place = item; text = [] }
front item (argument ∷ rest) = argument

-- the arguments after the one in front
abbrev pub others : List Argument → List Argument
others [] = []
others (argument ∷ rest) = rest

-- the value of an argument, or its place where it has none
abbrev pub field : {X : Type 0} → Argument → Option X → Result X ℕ
field argument None = Err argument.place
field argument (Some value) = Ok value

-- what follows from a value, unless there is a fault before
abbrev pub next : {X Y : Type 0} → Result X ℕ → (X → Result Y ℕ) → Result Y ℕ
next (Err place) more = Err place
next (Ok value) more = more value
