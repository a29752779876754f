-- What single arguments of a station input say.
use Rattle.std.specs.Prelude.{ℕ, ◌==◌, Bool, ◌&&◌, List, is_some, Option, Some, None, codes, if◌then◌else◌}
use Rattle.std.specs.{Prelude.option_and_then, Cmp.Lexicographic.slice_cmp, List.{before_first, after_first}}
use Rattle.std.specs.{Option.option_map, Ordering.nat_cmp, Str.bytes_eq}
use Rattle.std.specs.FinSet as set
use Rattle.dir_bytes.specs.Fields.{address, number}
use Rattle.dir_values.specs.{Arguments.Argument, Digests.fingerprint, Numbers.{number_of, port_of}}
use Rattle.dir_values.specs.declared.digest.Fingerprint.{Fingerprint}
use Rattle.flag_rules.specs.declared.ruling.Ruling.{Ruling, TheVariants.{Approve, Reject, Invalid, BadExit, MiddleOnly}}
use Rattle.frame_values.specs.{declared.found.Span.Span, Fields.span_of}
use Rattle.relay_entries.specs.Fields.{colon}

-- a number of at most 64 bits
abbrev pub long_number : List ℕ → Option ℕ
long_number text = number 18446744073709551615 text

-- the word for that there is none
abbrev pub is_dash : List ℕ → Bool
is_dash text = bytes_eq text (codes "-")

-- ---- where an authority is reached

-- whether a byte is a colon
abbrev pub is_colon : ℕ → Bool
is_colon byte = byte == colon

-- whether a text is an IPv4 address, a colon and a port
abbrev pub is_peer : List ℕ → Bool
is_peer text = is_some (address (before_first is_colon text)) && is_some (port_of (after_first is_colon text))

-- where an address and a port stand; or that there is none
abbrev pub peer : Argument → Option (Option Span)
peer argument =
    if is_dash argument.text then Some None
    else if is_peer argument.text then Some (Some (span_of argument))
    else None

-- ---- what an operator rules

-- the ruling of this name
abbrev pub ruling_named : List ℕ → Option Ruling
ruling_named text =
    if bytes_eq text (codes "approve") then Some Approve
    else if bytes_eq text (codes "reject") then Some Reject
    else if bytes_eq text (codes "invalid") then Some Invalid
    else if bytes_eq text (codes "badexit") then Some BadExit
    else if bytes_eq text (codes "middleonly") then Some MiddleOnly
    else None

-- ---- relays of which a line speaks

-- a set of identities, by their bytes
abbrev pub Identities : Type 0
Identities = set.FinSet (slice_cmp nat_cmp)

-- an identity that is none of these
abbrev pub unless_there : Identities → Fingerprint → Option Fingerprint
unless_there earlier identity = if set.contains earlier identity.0 then None else Some identity

-- the identity that a text spells, if it is none of those of earlier lines
abbrev pub new_identity : Identities → List ℕ → Option Fingerprint
new_identity earlier text = option_and_then (unless_there earlier) (fingerprint text)

-- a bandwidth in kilobytes a second; or that none was measured
abbrev pub bandwidth : List ℕ → Option (Option ℕ)
bandwidth text = if is_dash text then Some None else option_map Some (number_of text)
