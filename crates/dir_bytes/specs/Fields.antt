-- What the texts of values spell: numbers, dates, times of day, hex, base64 and addresses.
use Rattle.std.specs.Prelude.{ℕ, ◌+◌, ◌*◌, ◌==◌, nat_le, nat_lt, ◌&&◌, Bool, List, length, drop, slice_index}
use Rattle.std.specs.Prelude.{slice_range, ℤ, pos, neg_ℤ, unsigned_abs, Option, Some, None, Result, Ok, Err}
use Rattle.std.specs.{Prelude.if◌then◌else◌, Option.option_map, Result.result_ok, List.{before_first, after_first}}
use Rattle.std.specs.Str.{all_ascii_digits, Parse.{digits_value, starts_with_minus}}
use Rattle.hex.specs.Hex.{decode_sized}
use Rattle.base64.specs.{Engines.standard_no_pad, GeneralPurpose.decoded_of}
use Rattle.jiff_core.specs.Calendar.{days_in_month, days_from_civil}
use Rattle.dir_bytes.specs.declared.fault.BadField.{BadField}

-- the value, or the refusal of a text that spells none
abbrev pub or_bad : {A : Type 0} → Option A → Result A BadField
or_bad None = Err (record {})
or_bad (Some value) = Ok value

-- one decimal digit or more, and nothing else
abbrev pub is_numeral : List ℕ → Bool
is_numeral text = nat_lt 0 (length text) && all_ascii_digits text

-- the number that decimal digits spell, if it is at most a limit; leading zeros are read
unfoldable pub number : ℕ → List ℕ → Option ℕ
number limit text = if is_numeral text && nat_le (digits_value 10 text) limit then Some (digits_value 10 text) else None

-- a number from -2147483648 to 2147483647: digits, or `-` and digits
unfoldable pub signed_number : List ℕ → Option ℤ
signed_number text =
    if starts_with_minus text then option_map (λ n. neg_ℤ (pos n)) (number 2147483648 (drop 1 text))
    else option_map pos (number 2147483647 text)

-- the days from 1970-01-01 to a date, if the calendar has it and it lies in 1970 or later
unfoldable pub day_of : ℕ → ℕ → ℕ → Option ℕ
day_of year month day =
    if nat_le 1970 year && (nat_le 1 month && nat_le month 12) && (nat_le 1 day && nat_le day (days_in_month (pos year) month))
    then Some (unsigned_abs (days_from_civil (pos year) month day))
    else None

-- the same of a year, a month and a day that were read
abbrev pub day_of_parts : Option ℕ → Option ℕ → Option ℕ → Option ℕ
day_of_parts (Some year) (Some month) (Some day) = day_of year month day
day_of_parts _ _ _ = None

-- the days from 1970-01-01 to the date `YYYY-MM-DD`, of the years 1970 to 9999
unfoldable pub date : List ℕ → Option ℕ
date text =
    if length text == 10 && (slice_index text 4 == 45 && slice_index text 7 == 45)
    then day_of_parts (number 9999 (slice_range text 0 4)) (number 99 (slice_range text 5 7)) (number 99 (slice_range text 8 10))
    else None

-- the seconds of an hour, a minute and a second that were read
abbrev pub seconds_of : Option ℕ → Option ℕ → Option ℕ → Option ℕ
seconds_of (Some hour) (Some minute) (Some second) = Some (3600 * hour + 60 * minute + second)
seconds_of _ _ _ = None

-- the seconds from midnight to the time `HH:MM:SS`; there are no leap seconds
unfoldable pub time_of_day : List ℕ → Option ℕ
time_of_day text =
    if length text == 8 && (slice_index text 2 == 58 && slice_index text 5 == 58)
    then seconds_of (number 23 (slice_range text 0 2)) (number 59 (slice_range text 3 5)) (number 59 (slice_range text 6 8))
    else None

-- the moment of a day and a second of it
abbrev pub moment_of : Option ℕ → Option ℕ → Option ℕ
moment_of (Some day) (Some second) = Some (86400 * day + second)
moment_of _ _ = None

-- the seconds from 1970-01-01 00:00:00 to a date and a time of day, which stand as two words
abbrev pub moment : List ℕ → List ℕ → Option ℕ
moment date_word time_word = moment_of (date date_word) (time_of_day time_word)

-- so many bytes as two hex digits each, of either case
unfoldable pub hex : ℕ → List ℕ → Option (List ℕ)
hex count text = result_ok (decode_sized text count)

-- the list, if it has so many items
abbrev pub of_length : ℕ → Option (List ℕ) → Option (List ℕ)
of_length count None = None
of_length count (Some bytes) = if length bytes == count then Some bytes else None

-- so many bytes in strict base64 without `=`
unfoldable pub base64 : ℕ → List ℕ → Option (List ℕ)
base64 count text = of_length count (decoded_of standard_no_pad text)

-- a dot
abbrev pub is_dot : ℕ → Bool
is_dot byte = byte == 46

-- an address of four bytes, the first one highest
abbrev pub address_of : Option ℕ → Option ℕ → Option ℕ → Option ℕ → Option ℕ
address_of (Some a) (Some b) (Some c) (Some d) = Some (((a * 256 + b) * 256 + c) * 256 + d)
address_of _ _ _ _ = None

-- an IPv4 address: four numbers up to 255, with dots between them
unfoldable pub address : List ℕ → Option ℕ
address text =
    let second = after_first is_dot text in
    let third = after_first is_dot second in
    address_of (number 255 (before_first is_dot text)) (number 255 (before_first is_dot second))
    (number 255 (before_first is_dot third)) (number 255 (after_first is_dot third))
