-- The faults of a line, whatever stands in it: a limit that it passes, its missing NL, a NUL.
use Rattle.std.specs.Prelude.{ℕ, ◌+◌, ◌-◌, nat_lt, nat_le, min, ◌&&◌, length, Option, Some, None, if◌then◌else◌}
use Rattle.item_terms.specs.declared.fault.DocReason.TheVariants.{Nul, Unterminated, LineTooLong, DocumentTooLong}
use Rattle.item_terms.specs.declared.fault.{DocReason.{TheVariants.ObjectTooLong, DocReason}, DocFault.DocFault}
use Rattle.item_terms.specs.{Lines.{Line, size}, Words.nul_in}

-- the bytes that a line may have, with its NL
abbrev pub max_line : ℕ
max_line = 1048576

-- the bytes that an object may have, from its BEGIN line through its END line
abbrev pub max_object : ℕ
max_object = 65536

-- the fault with this place and reason
abbrev pub at : ℕ → DocReason → DocFault
at place reason = record { place = place; reason = reason }

-- the first fault if there is one, else the other
abbrev pub or_else : Option DocFault → Option DocFault → Option DocFault
or_else None other = other
or_else (Some fault) other = Some fault

-- A line of this size, from this place on, passes the document's limit or a line's: the one that is reached first, and the
-- document's of two that are reached at one byte. The limit is a place, that of the first byte that the document may not have.
abbrev pub too_long : ℕ → ℕ → ℕ → Option DocFault
too_long limit place size =
    if nat_le size (min (limit - place) max_line) then None
    else Some (if nat_le (limit - place) max_line then at limit DocumentTooLong else at (place + max_line) LineTooLong)

-- the text ends inside the line
abbrev pub unterminated_fault : ℕ → Line → Option DocFault
unterminated_fault place line = if line.ended then None else Some (at (place + length line.text) Unterminated)

-- a NUL at this offset, if there is one, of a line from this place on
abbrev pub nul_fault : ℕ → Option ℕ → Option DocFault
nul_fault place None = None
nul_fault place (Some i) = Some (at (place + i) Nul)

-- the first fault of the line at this place, whatever stands in it
abbrev pub line_fault : ℕ → ℕ → Line → Option DocFault
line_fault limit place line = or_else (too_long limit place (size line)) (or_else (unterminated_fault place line) (nul_fault place (nul_in line.text)))

-- The same of a line inside the object whose BEGIN line stands at begin: the line may pass the object's limit, and before
-- the document's and its own.
abbrev pub object_line_fault : ℕ → ℕ → ℕ → Line → Option DocFault
object_line_fault limit begin place line =
    let room = max_object - (place - begin) in
    if nat_lt room (min (limit - place) max_line) && nat_lt room (size line) then Some (at begin ObjectTooLong) else line_fault limit place line
