-- The word in front of a command: which verifiers the program asks.
use Rattle.std.specs.{Prelude.{ℕ, Bool, List, [], ◌∷◌, String, string_bytes, codes, if◌then◌else◌}, Str.bytes_eq}
use Rattle.std.specs.Global.{Global}
use Rattle.daemon_words.specs.declared.keys.Keys.{Keys}
use Rattle.daemon_words.specs.declared.keys.Keys.TheVariants as keys

-- whether a word asks for the test scheme
abbrev pub is_test_word : List ℕ → Bool
is_test_word word = bytes_eq word (codes "--test-keys")

-- the test scheme where the first word asks for it, and else the key service
abbrev pub keys_of : List (String Global) → Keys
keys_of [] = keys.Service
keys_of (first ∷ others) = if is_test_word (string_bytes first) then keys.Test else keys.Service

-- the words without the first where it asks for the test scheme, and else all of them
abbrev pub command_words : List (String Global) → List (String Global)
command_words [] = []
command_words (first ∷ others) = if is_test_word (string_bytes first) then others else first ∷ others
