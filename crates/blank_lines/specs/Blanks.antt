-- Blank lines behind a document.
use Rattle.std.specs.Prelude.{ℕ, ◌+◌, ◌&&◌, Bool, List, [], ◌∷◌, drop, Option, Some, None, if◌then◌else◌}
use Rattle.item_terms.specs.{Lines.{Line, lines, size}, Words.is_blank_line}
use Rattle.dirdoc_grammar.specs.Reading.{first_line}

-- a line that has blanks alone, and its NL
abbrev pub is_blank : Line → Bool
is_blank line = is_blank_line line.text && line.ended

-- the place of the first of these lines that is not blank, if there is one; the place given is that of the first line
unfoldable pub first_other : ℕ → List Line → Option ℕ
first_other place [] = None
first_other place (line ∷ rest) = if is_blank line then first_other (place + size line) rest else Some place

-- the place of the first line that is not blank, of those from this place on
abbrev pub after_blanks : ℕ → List ℕ → Option ℕ
after_blanks place bytes = first_other place (lines (drop place bytes))

-- how many bytes the first line has, where it is blank
abbrev pub blank_size : List ℕ → Option ℕ
blank_size bytes = if is_blank (first_line bytes) then Some (size (first_line bytes)) else None
