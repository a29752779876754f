-- Two facts at once, and an answer.
use Rattle.std.specs.Prelude.{Result, Ok}

-- what holds of the first and of the others
pub both_hold : {A B : Type 0} → A → B → A × B
both_hold a b = (a, b)

-- the answer that is this
abbrev pub as_ok : {A E : Type 0} → A → Result A E
as_ok answer = Ok answer
