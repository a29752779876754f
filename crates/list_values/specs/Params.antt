-- Params: numbers by their names (dir-spec, the `params` line).
use Rattle.std.specs.Prelude.{ℕ, List, [], ◌++◌, ◌∷◌, map, is_some, unwrap_or, ℤ, pos, Option, Result, if◌then◌else◌}
use Rattle.std.specs.{Fmt.signed_decimal, List.{fold, join_with_byte}}
use Rattle.item_terms.specs.{Bytes.space, Words.words_of}
use Rattle.dir_bytes.specs.Fields.{signed_number}
use Rattle.dir_values.specs.{Arguments.{Argument, arguments_at}, FlagSets.{unless_wrong, wrong_flag}}
use Rattle.dir_values.specs.declared.refusal.ValueRefusal.{ValueRefusal}
use Rattle.list_values.specs.{declared.named.Named.Named, Equations.{equals, left_side, right_side}, Maps.with_value}

-- the number of the param that a text spells
abbrev pub number_in : List ℕ → Option ℤ
number_in text = signed_number (right_side text)

-- the name of the param that a text spells, and no byte where it has no number
abbrev pub name_in : List ℕ → List ℕ
name_in text = if is_some (number_in text) then left_side text else []

-- an argument's name in the place of the argument
abbrev pub its_name : Argument → Argument
its_name argument = record { place = argument.place; text = name_in argument.text }

-- the place of the first argument that is no param, or whose name stands before too: names of params have the form of flags
abbrev pub wrong_param : List Argument → Option ℕ
wrong_param arguments = wrong_flag [] (map its_name arguments)

-- params with the one that a word spells; each word of a list in which nothing is wrong spells one
abbrev pub with_param : List (Named ℤ) → List ℕ → List (Named ℤ)
with_param params word = with_value params (left_side word) (unwrap_or (number_in word) (pos 0))

-- the params that words spell, by name
abbrev pub as_params : List (List ℕ) → List (Named ℤ)
as_params words = fold with_param [] words

-- the params that a text spells
abbrev pub params_of : List ℕ → Result (List (Named ℤ)) ValueRefusal
params_of text = unless_wrong (wrong_param (arguments_at 0 text)) (as_params (words_of text))

-- a param: its name, `=` and its number
abbrev pub param_text : Named ℤ → List ℕ
param_text param = param.name ++ equals ∷ signed_decimal param.value

-- params with single spaces between them
abbrev pub params_text : List (Named ℤ) → List ℕ
params_text params = join_with_byte space (map param_text params)
