-- What bytes are that may be blank lines alone, byte by byte.
use Rattle.std.specs.{Prelude.{ℕ, ◌==◌, Bool, true, false, List, if◌then◌else◌}, List.fold}
use Rattle.item_terms.specs.{Bytes.line_feed, Words.is_blank}
use Rattle.vote_feed.specs.declared.blanks.Blank.{Blank, TheVariants.{Lines, Within, Other}}

-- what a byte makes of blank lines
abbrev pub blank_by : ℕ → Blank
blank_by byte = if byte == line_feed then Lines else if is_blank byte then Within else Other

-- what bytes are with one more
abbrev pub blank_with : Blank → ℕ → Blank
blank_with Lines byte = blank_by byte
blank_with Within byte = blank_by byte
blank_with Other byte = Other

-- what bytes are
abbrev pub blank_of : List ℕ → Blank
blank_of bytes = fold blank_with Lines bytes

-- whether they are blank lines, each with its NL
abbrev pub is_lines : Blank → Bool
is_lines Lines = true
is_lines Within = false
is_lines Other = false
