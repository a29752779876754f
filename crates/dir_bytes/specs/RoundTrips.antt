-- What is written is read again.
use Rattle.std.specs.{Prelude.{◌≡◌, ℕ, ◌/◌, ◌%◌, ◌^◌, ◌<◌, ◌≤◌, List, length, ℤ, Some, FitsSigned}, Fmt.decimal}
use Rattle.std.specs.{Fmt.signed_decimal, Int.w32}
use Rattle.base64.specs.GeneralPurpose.{IsBytes}
use Rattle.dir_bytes.specs.{Causes.last_moment, Fields.{number, signed_number, date, time_of_day, moment, hex, base64}}
use Rattle.dir_bytes.specs.{Fields.address, FieldTexts.{date_text, clock_text, hex_text, base64_text, address_text}}

-- the digits of a number are read as that number
abbrev pub NumberIsReadAgain : Type 0
NumberIsReadAgain = (limit n : ℕ) → n ≤ limit → n < 2 ^ 64 → number limit (decimal n) ≡ Some n

-- and so with a sign
abbrev pub SignedIsReadAgain : Type 0
SignedIsReadAgain = (z : ℤ) → FitsSigned w32 z → signed_number (signed_decimal z) ≡ Some z

-- a day, up to 9999-12-31
abbrev pub DateIsReadAgain : Type 0
DateIsReadAgain = (day : ℕ) → day ≤ 2932896 → date (date_text day) ≡ Some day

-- a second of the day
abbrev pub ClockIsReadAgain : Type 0
ClockIsReadAgain = (second : ℕ) → second < 86400 → time_of_day (clock_text second) ≡ Some second

-- a moment, from its two words
abbrev pub MomentIsReadAgain : Type 0
MomentIsReadAgain = (m : ℕ) → m ≤ last_moment → moment (date_text (m / 86400)) (clock_text (m % 86400)) ≡ Some m

-- bytes in hex
abbrev pub HexIsReadAgain : Type 0
HexIsReadAgain = (bytes : List ℕ) → IsBytes bytes → hex (length bytes) (hex_text bytes) ≡ Some bytes

-- bytes in base64
abbrev pub Base64IsReadAgain : Type 0
Base64IsReadAgain = (bytes : List ℕ) → IsBytes bytes → base64 (length bytes) (base64_text bytes) ≡ Some bytes

-- an address
abbrev pub AddressIsReadAgain : Type 0
AddressIsReadAgain = (a : ℕ) → a < 2 ^ 32 → address (address_text a) ≡ Some a
