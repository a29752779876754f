-- The one text in which a value is written. A number is written as std's `decimal` and `signed_decimal` say.
use Rattle.std.specs.Prelude.{ℕ, zero, suc, ◌+◌, ◌/◌, ◌%◌, nat_lt, List, [], ◌∷◌, ◌++◌, pos, if◌then◌else◌}
use Rattle.std.specs.Fmt.{decimal}
use Rattle.hex.specs.Hex.{encode_upper}
use Rattle.base64.specs.{Engines.standard_no_pad, GeneralPurpose.encode_of}
use Rattle.jiff_core.specs.Calendar.{days_in_month}

-- a date of the calendar
pub record CivilDate : Type 0 where
  pub year : ℕ
  pub month : ℕ
  pub day : ℕ

-- the day after a date
abbrev pub day_after : CivilDate → CivilDate
day_after date =
    if nat_lt date.day (days_in_month (pos date.year) date.month) then record { year = date.year; month = date.month; day = date.day + 1 }
    else if nat_lt date.month 12 then record { year = date.year; month = date.month + 1; day = 1 }
    else record { year = date.year + 1; month = 1; day = 1 }

-- the date so many days after 1970-01-01
unfoldable pub date_of : ℕ → CivilDate
date_of zero = record { year = 1970; month = 1; day = 1 }
date_of (suc days) = day_after (date_of days)

-- a number below 100 as two digits
abbrev pub two_digits : ℕ → List ℕ
two_digits n = (48 + n / 10) ∷ (48 + n % 10) ∷ []

-- a date as `YYYY-MM-DD`
abbrev pub civil_text : CivilDate → List ℕ
civil_text date =
    two_digits (date.year / 100) ++ two_digits (date.year % 100) ++ 45 ∷ two_digits date.month ++ 45 ∷ two_digits date.day

-- the date so many days after 1970-01-01, as `YYYY-MM-DD`
unfoldable pub date_text : ℕ → List ℕ
date_text days = civil_text (date_of days)

-- the time of day so many seconds after midnight, as `HH:MM:SS`
unfoldable pub clock_text : ℕ → List ℕ
clock_text seconds =
    two_digits (seconds / 3600) ++ 58 ∷ two_digits (seconds / 60 % 60) ++ 58 ∷ two_digits (seconds % 60)

-- a moment as `YYYY-MM-DD HH:MM:SS`
abbrev pub moment_text : ℕ → List ℕ
moment_text moment = date_text (moment / 86400) ++ 32 ∷ clock_text (moment % 86400)

-- bytes as hex digits, in upper case
unfoldable pub hex_text : List ℕ → List ℕ
hex_text bytes = encode_upper bytes

-- bytes in base64 without `=`
unfoldable pub base64_text : List ℕ → List ℕ
base64_text bytes = encode_of standard_no_pad bytes

-- an IPv4 address as four numbers with dots
unfoldable pub address_text : ℕ → List ℕ
address_text address =
    decimal (address / 16777216) ++ 46 ∷ decimal (address / 65536 % 256)
    ++ 46 ∷ decimal (address / 256 % 256) ++ 46 ∷ decimal (address % 256)
