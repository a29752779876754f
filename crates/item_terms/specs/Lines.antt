-- Lines: a text is split after each NL (dir-spec, meta-format).
use Rattle.std.specs.Prelude.{ℕ, ◌+◌, ◌==◌, Bool, true, false, List, [], ◌∷◌, length, if◌then◌else◌}
use Rattle.item_terms.specs.Bytes.{line_feed}

-- the bytes before the NL, and whether the NL is there: the last line of a text may lack it
pub record Line : Type 0 where
  pub text : List ℕ
  pub ended : Bool

-- the lines with one more byte at the front of the first
abbrev pub onto : ℕ → List Line → List Line
onto b [] = record { text = b ∷ []; ended = false } ∷ []
onto b (line ∷ rest) = record { text = b ∷ line.text; ended = line.ended } ∷ rest

-- the lines of a text, in order
abbrev pub lines : List ℕ → List Line
lines [] = []
lines (b ∷ bytes) = if b == line_feed then record { text = []; ended = true } ∷ lines bytes else onto b (lines bytes)

-- how many bytes a line has, with its NL
abbrev pub size : Line → ℕ
size line = length line.text + (if line.ended then 1 else 0)
