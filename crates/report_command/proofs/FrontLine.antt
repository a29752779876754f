-- The first line of some bytes, as a search finds its end; and that the first line that is not blank stands behind the place where it is
-- sought.
use Rattle.std.proofs.Common.{◌≡◌, ℕ, ◌+◌, ◌≤◌, ◌&&◌, Bool, ltb, true, false, List, [], ◌∷◌, length, take, drop, Some}
use Rattle.std.proofs.{Common.{None, refl, ap, ◌∙◌, arith, if◌then◌else◌}, lemmas.Bool.{lt-ltb, le-ltb}}
use Rattle.memchr.specs.Find.{IsFirstByte, is_byte}
use Rattle.item_terms.specs.Lines.{Line, lines, size}
use Rattle.dirdoc_grammar.{specs.Reading.{first_line, first_line_len}, proofs.FirstByte.{before_found, before_none}}
use Rattle.blank_lines.specs.Blanks.{after_blanks, first_other, is_blank}
use Rattle.report_command.specs.Inputs.{is_line, is_line_text}

abbrev line_of : List ℕ → Bool → Line
line_of text ended = record { text = text; ended = ended }

never : (b : Bool) → (b && false) ≡ false
never true = refl
never false = refl

itself : (b : Bool) → (b && true) ≡ b
itself true = refl
itself false = refl

-- a line with its NL is that line where its text is
pub line_found : (rest : List ℕ) (k : ℕ) → IsFirstByte (is_byte 10) rest (Some k) → is_line (first_line rest) ≡ is_line_text (take k rest)
line_found rest k found =
    let n = before_found 10 rest k found in
    let ended : ltb (first_line_len rest) (length rest) ≡ true = lt-ltb _ _ (omega (arith, n, found.0.high)) in
    ap (λ (e : Bool). is_line (line_of (take (first_line_len rest) rest) e)) ended
    ∙ ap (λ (i : ℕ). is_line (line_of (take i rest) true)) n ∙ itself (is_line_text (take k rest))

-- a line without it is not
pub no_line_found : (rest : List ℕ) → IsFirstByte (is_byte 10) rest None → is_line (first_line rest) ≡ false
no_line_found rest none =
    let n = before_none 10 rest none in
    let ended : ltb (first_line_len rest) (length rest) ≡ false = le-ltb _ _ (omega (arith, n)) in
    let text = take (first_line_len rest) rest in
    ap (λ (e : Bool). is_line (line_of text e)) ended ∙ never (is_line_text text)

other_behind : (place : ℕ) (behind : List Line) (at : ℕ) → first_other place behind ≡ Some at → place ≤ at
unfolding first_other
other_behind place [] at is = absurd (cc is)
other_behind place (line ∷ rest) at is = by (is_blank line) is (other_behind (place + size line) rest at)
  where
    by : (blank : Bool) → (if blank then first_other (place + size line) rest else Some place) ≡ Some at
        → (first_other (place + size line) rest ≡ Some at → place + size line ≤ at) → place ≤ at
    by true e later = omega (arith, later e)
    by false e later = let same : place ≡ at = cc e in omega (arith, same)

-- the first line that is not blank stands there or behind it
pub stands_behind : (place : ℕ) (bytes : List ℕ) (at : ℕ) → after_blanks place bytes ≡ Some at → place ≤ at
stands_behind place bytes at is = other_behind place (lines (drop place bytes)) at is
