-- What single arguments say, and where they stand.
use Rattle.std.specs.Prelude.{ℕ, ◌+◌, Bool, true, false, List, [], ◌∷◌, length, Option, Some, None, if◌then◌else◌}
use Rattle.dir_values.specs.Arguments.{Argument}
use Rattle.frame_values.specs.declared.found.Span.{Span}

-- where a text stands that begins at this place
abbrev pub span : ℕ → List ℕ → Span
span start text = record { start = start; end = start + length text }

-- where an argument stands
abbrev pub span_of : Argument → Span
span_of argument = span argument.place argument.text

-- where an argument stands, if its text passes
abbrev pub span_if : Bool → Argument → Option Span
span_if passes argument = if passes then Some (span_of argument) else None

-- whether there is an argument at all
abbrev pub is_there : List ℕ → Bool
is_there [] = false
is_there (b ∷ text) = true
