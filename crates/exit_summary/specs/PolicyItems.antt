-- The items of a relay's exit policy (dir-spec, "Server descriptor format", the `accept` and `reject` lines, and
-- "exitpattern"): what their texts spell.
use Rattle.std.specs.Prelude.{ℕ, ◌-◌, ◌==◌, nat_le, nat_lt, Bool, not, ◌&&◌, if◌then◌else◌, List, length, take, drop}
use Rattle.std.specs.{Prelude.{slice_index, codes, count_ones, Option, Some, None, option_and_then}, Int.leading_ones}
use Rattle.std.specs.{Int.w32, List.{suffix_len, list_any, before_first, after_first}, Option.option_map, Str.bytes_eq}
use Rattle.item_terms.specs.Bytes.{hyphen}
use Rattle.dir_bytes.specs.Fields.{address}
use Rattle.dir_values.specs.{Numbers.{number_of, port_of}, declared.policy.Net.{Net, TheVariants.{Star, V4, V6}}}
use Rattle.dir_values.specs.declared.policy.PolicyItem.{PolicyItem}

-- ---- bytes, and the parts of a text around the last of one

abbrev pub slash : ℕ
slash = 47

abbrev pub colon : ℕ
colon = 58

abbrev pub open_bracket : ℕ
open_bracket = 91

abbrev pub close_bracket : ℕ
close_bracket = 93

-- how many bytes stand after the last such byte; all, where there is none
abbrev pub after_len : ℕ → List ℕ → ℕ
after_len byte text = suffix_len (λ other. not (other == byte)) text

-- whether there is such a byte
abbrev pub has_last : ℕ → List ℕ → Bool
has_last byte text = nat_lt (after_len byte text) (length text)

-- what stands before the last such byte
abbrev pub before_last : ℕ → List ℕ → List ℕ
before_last byte text = take (length text - after_len byte text - 1) text

-- what stands after it
abbrev pub after_last : ℕ → List ℕ → List ℕ
after_last byte text = drop (length text - after_len byte text) text

-- ---- nets

-- a number of bits, if it is at most a limit
abbrev pub at_most : ℕ → ℕ → Option ℕ
at_most limit bits = if nat_le bits limit then Some bits else None

-- the number of bits that digits spell, up to a limit
abbrev pub bits_up_to : ℕ → List ℕ → Option ℕ
bits_up_to limit text = option_and_then (at_most limit) (number_of text)

-- the number of a mask's ones, which all stand first
abbrev pub ones_of : ℕ → Option ℕ
ones_of mask = if count_ones mask == leading_ones w32 mask then Some (count_ones mask) else None

-- the first of two that is there
abbrev pub first_of : Option ℕ → Option ℕ → Option ℕ
first_of (Some bits) other = Some bits
first_of None other = other

-- how many first bits of an IPv4 address count: their number, or a mask with its ones first
abbrev pub bits_of : List ℕ → Option ℕ
bits_of text = first_of (bits_up_to 32 text) (option_and_then ones_of (address text))

-- the IPv4 addresses whose first bits are those of an address, if both are known
abbrev pub net_with : Option ℕ → Option ℕ → Option Net
net_with (Some address) (Some bits) = Some (V4 address bits)
net_with _ _ = None

-- whether a text stands in brackets, as IPv6 addresses do; it is read no further
abbrev pub is_bracketed : List ℕ → Bool
is_bracketed text =
    nat_le 2 (length text) && (slice_index text 0 == open_bracket)
    && (slice_index text (length text - 1) == close_bracket)

-- the net of an address and the bits of it that count
abbrev pub net_of_parts : List ℕ → List ℕ → Option Net
net_of_parts base bits =
    if is_bracketed base then option_map (λ _. V6) (bits_up_to 128 bits) else net_with (address base) (bits_of bits)

-- the net that a text names: `*`, `*4`, `*6`, an address, or an address, a slash and the bits of it that count
abbrev pub net_of : List ℕ → Option Net
net_of text =
    if bytes_eq text (codes "*") then Some Star
    else if bytes_eq text (codes "*4") then Some (V4 0 0)
    else if bytes_eq text (codes "*6") then Some V6
    else if is_bracketed text then Some V6
    else if has_last slash text then net_of_parts (before_last slash text) (after_last slash text)
    else net_with (address text) (Some 32)

-- ---- ports

-- the ports from one to another that does not come before it
abbrev pub ports_between : Option ℕ → Option ℕ → Option (ℕ × ℕ)
ports_between (Some low) (Some high) = if nat_le low high then Some (low, high) else None
ports_between _ _ = None

-- a hyphen stands between two ports
abbrev pub is_hyphen : ℕ → Bool
is_hyphen byte = byte == hyphen

-- the ports that a text names: `*` for those from 1 on, one, or two with a hyphen between them; port 0 may be named
abbrev pub ports_of : List ℕ → Option (ℕ × ℕ)
ports_of text =
    if bytes_eq text (codes "*") then Some (1, 65535)
    else if list_any is_hyphen text
    then ports_between (port_of (before_first is_hyphen text)) (port_of (after_first is_hyphen text))
    else ports_between (port_of text) (port_of text)

-- ---- items

-- the item of a net and ports, if both are known
abbrev pub item_with : Bool → Option Net → Option (ℕ × ℕ) → Option PolicyItem
item_with accept (Some net) (Some ports) = Some (record { accept = accept; net = net; low = ports.0; high = ports.1 })
item_with accept _ _ = None

-- the item that a text spells: a net and ports, with a colon between them
abbrev pub item_of : Bool → List ℕ → Option PolicyItem
item_of accept text =
    if has_last colon text
    then item_with accept (net_of (before_last colon text)) (ports_of (after_last colon text))
    else None
