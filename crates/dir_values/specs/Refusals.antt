-- What a reader of values answers.
use Rattle.std.specs.Prelude.{◌≡◌, Option, Some, None, Result, Ok, Err}
use Rattle.dir_values.specs.declared.refusal.ValueRefusal.{ValueRefusal, TheVariants.{BadValue, Memory}}

-- the value, or the refusal of a text that spells none: its first element is wrong
abbrev pub or_bad_value : {A : Type 0} → Option A → Result A ValueRefusal
or_bad_value None = Err (BadValue 0)
or_bad_value (Some value) = Ok value

-- what a reader answers that takes memory: what the text says, or want of memory
abbrev pub Reads : {A : Type 0} → Result A ValueRefusal → Result A ValueRefusal → Type 0
Reads said (Ok value) = said ≡ Ok value
Reads said (Err (BadValue place)) = said ≡ Err (BadValue place)
Reads said (Err Memory) = Unit {0}
