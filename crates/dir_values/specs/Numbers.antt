-- Numbers of given ranges, and lists of numbers (dir-spec, "Vote and consensus status document formats").
use Rattle.std.specs.{Prelude.{ℕ, is_none, List, map, unwrap_or, decimal, Option}, List.{find, join_with_byte}}
use Rattle.std.specs.Option.{option_map}
use Rattle.item_terms.specs.{Bytes.space, Words.words_of}
use Rattle.dir_bytes.specs.Fields.{number}
use Rattle.dir_values.specs.Arguments.{Argument}

-- a number of seconds, or of a consensus method: at most 32 bits
abbrev pub number_of : List ℕ → Option ℕ
number_of text = number 4294967295 text

-- a port
abbrev pub port_of : List ℕ → Option ℕ
port_of text = number 65535 text

-- ---- lists of numbers

-- the place of the first argument that is no number
abbrev pub wrong_number : List Argument → Option ℕ
wrong_number arguments =
    option_map (λ argument. argument.place) (find (λ argument. is_none (number_of argument.text)) arguments)

-- the number that a word spells, and 0 of another; each word of a list in which nothing is wrong spells one
abbrev pub number_in : List ℕ → ℕ
number_in word = unwrap_or (number_of word) 0

-- the numbers that the words of a text spell, in their order
abbrev pub numbers_in : List ℕ → List ℕ
numbers_in text = map number_in (words_of text)

-- numbers with single spaces between them
abbrev pub numbers_text : List ℕ → List ℕ
numbers_text numbers = join_with_byte space (map decimal numbers)
