-- The keyword of the line behind a document.
use Rattle.std.specs.Prelude.{ℕ, Bool, false, List, drop, codes, Option, Some, None, if◌then◌else◌}
use Rattle.item_terms.specs.Words.{strip, ends_or_blank}
use Rattle.dirdoc_grammar.specs.Reading.{first_line}
use Rattle.blank_lines.specs.Blanks.{after_blanks}

-- whether what follows a keyword ends it
abbrev pub ends_keyword : Option (List ℕ) → Bool
ends_keyword None = false
ends_keyword (Some rest) = ends_or_blank rest

-- whether the keyword of a line is this word
abbrev pub has_keyword : List ℕ → List ℕ → Bool
has_keyword word line = ends_keyword (strip word line)

-- this place, unless an `extra-info` line stands there
abbrev pub unless_extra : List ℕ → Option ℕ → Option ℕ
unless_extra bytes None = None
unless_extra bytes (Some place) =
    if has_keyword (codes "extra-info") (first_line (drop place bytes)).text then None else Some place

-- the place of the first line that is not blank, of those from this place on, unless it is an `extra-info` line
abbrev pub before_extra : ℕ → List ℕ → Option ℕ
before_extra place bytes = unless_extra bytes (after_blanks place bytes)
