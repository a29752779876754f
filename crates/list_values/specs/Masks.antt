-- Sets of numbers from 0 to 63 as the bits of a number.
use Rattle.std.specs.{Prelude.{ℕ, ◌==◌, Bool, List, map}, Int.bit_at}
use Rattle.list_values.specs.{declared.named.Named.Named, Maps.named_value, NumberSets.numbers_that}
use Rattle.list_values.specs.Protocols.{protocol_text}

-- whether the bit of a number is set
abbrev pub is_set : ℕ → ℕ → Bool
is_set mask number = bit_at mask number == 1

-- the numbers whose bits are set
abbrev pub numbers_of : ℕ → List ℕ
numbers_of mask = numbers_that (is_set mask)

-- a protocol whose numbers are bits
abbrev pub listed_protocol : Named ℕ → Named (List ℕ)
listed_protocol protocol = named_value protocol.name (numbers_of protocol.value)

-- protocols whose numbers are bits
abbrev pub all_listed : List (Named ℕ) → List (Named (List ℕ))
all_listed protocols = map listed_protocol protocols

-- the text of one
abbrev pub listed_text : Named ℕ → List ℕ
listed_text protocol = protocol_text (listed_protocol protocol)
