-- The texts and the bytes that stand in a document's bytes, and its moments.
use Rattle.std.specs.Prelude.{ℕ, min, List, [], slice_range, unwrap_or}
use Rattle.dir_bytes.specs.Causes.{last_moment}
use Rattle.dirdoc_grammar.specs.Bodies.{decoded_bytes}
use Rattle.frame_values.specs.declared.found.Span.{Span}

-- the text that stands in a span
abbrev pub part : List ℕ → Span → List ℕ
part bytes span = slice_range bytes span.start span.end

-- the bytes that an object's lines spell, which stand in a span. Each object that is read is base64, so that none is
-- lost.
abbrev pub bytes_in : List ℕ → Span → List ℕ
bytes_in bytes lines = unwrap_or (decoded_bytes (part bytes lines)) []

-- A moment of a document is one of the calendar. Each that is read is, so that nothing is cut off.
abbrev pub moment_of : ℕ → ℕ
moment_of number = min number last_moment
