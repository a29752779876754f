-- What the next argument of a text is.
use Rattle.std.specs.{Prelude.{◌≡◌, List, [], ◌∷◌}, declared.option.Option.{Option, TheVariants.{Some, None}}}
use Rattle.dir_values.specs.{Arguments.Argument, declared.arguments.Argument.Argument as TextAt}

-- an argument as a contract sees it
abbrev pub argument_of : TextAt → Argument
argument_of argument = record { place = argument.place; text = argument.text.now }

-- the argument in front comes off, or none is left
abbrev pub TakesArgument : List Argument → Option TextAt → List Argument → Type 0
TakesArgument old None new = (old ≡ []) × (new ≡ [])
TakesArgument old (Some argument) new = old ≡ argument_of argument ∷ new
