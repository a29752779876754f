-- What single arguments of a server descriptor's items say (dir-spec, "Server descriptor format").
use Rattle.std.specs.Prelude.{ℕ, suc, zero, ◌==◌, Bool, true, false, ◌&&◌, if◌then◌else◌, List, [], ◌++◌, length, take}
use Rattle.std.specs.{Prelude.{slice_index, codes, is_some, Option, Some, None, Result, Ok}, Str.bytes_eq}
use Rattle.dir_bytes.specs.Fields.{base64, hex, number}
use Rattle.dir_values.specs.Numbers.{port_of}
use Rattle.frame_values.specs.Arguments.{Argument, front, others, field, next}
use Rattle.exit_summary.specs.PolicyItems.{colon, has_last, after_last}

-- a number below 2 ^ 64
abbrev pub long_number : List ℕ → Option ℕ
long_number text = number 18446744073709551615 text

-- whether a relay rests: `0` or `1`
abbrev pub hibernating : List ℕ → Option Bool
hibernating text =
    if bytes_eq text (codes "0") then Some false
    else if bytes_eq text (codes "1") then Some true
    else None

-- 32 bytes in 43 characters of strict base64, without `=`
abbrev pub key : List ℕ → Option (List ℕ)
key text = base64 32 text

-- the text without the one `=` that fills its 43 characters up to 44
abbrev pub without_padding : List ℕ → List ℕ
without_padding text = if (length text == 44) && (slice_index text 43 == 61) then take 43 text else text

-- the same bytes, of which the `=` that fills the last group may stand
abbrev pub padded_key : List ℕ → Option (List ℕ)
padded_key text = key (without_padding text)

-- 64 bytes in 86 characters of strict base64, without `=`
abbrev pub signature : List ℕ → Option (List ℕ)
signature text = base64 64 text

-- whether a text ends with a colon and a port
abbrev pub is_address : List ℕ → Bool
is_address text = has_last colon text && is_some (port_of (after_last colon text))

-- two bytes in four hex digits
abbrev pub group_of : List ℕ → Option (List ℕ)
group_of text = hex 2 text

-- the group in front of some arguments, or its place if it is none
abbrev pub group_in : ℕ → List Argument → Result (List ℕ) ℕ
group_in item arguments = field (front item arguments) (group_of (front item arguments).text)

-- the bytes of so many groups of four hex digits, or the place of the first that is none
unfoldable pub groups_of : ℕ → ℕ → List Argument → Result (List ℕ) ℕ
groups_of zero item arguments = Ok []
groups_of (suc count) item arguments =
    next (group_in item arguments) (λ bytes.
    next (groups_of count item (others arguments)) (λ rest.
    Ok (bytes ++ rest)))
