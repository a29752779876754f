-- The first line of some bytes, as a search for its NL finds it.
use Rattle.std.proofs.Common.{◌≡◌, ℕ, ◌<◌, Bool, true, false, List, [], ◌∷◌, length, take, drop, Some, None, refl, sym}
use Rattle.std.proofs.{Common.{ap, ap₂, ◌∙◌, subst, arith}, lemmas.Bool.{lt-ltb, le-ltb}}
use Rattle.memchr.specs.Find.{IsFirstByte, is_byte}
use Rattle.item_terms.specs.Lines.{Line, lines, size}
use Rattle.dirdoc_grammar.{specs.Reading.first_line, proofs.FirstByte.{before_found, before_none}}
use Rattle.dirdoc_grammar.proofs.FirstLine.{lines_first}

first_of : (rest : List ℕ) → 0 < length rest → lines rest ≡ first_line rest ∷ lines (drop (size (first_line rest)) rest)
first_of [] some = absurd (omega arith)
first_of (b ∷ bytes) some = lines_first b bytes

abbrev line_of : List ℕ → Bool → Line
line_of text ended = record { text = text; ended = ended }

-- a line is what it is found to be
same : (rest : List ℕ) (line : Line) → 0 < length rest → first_line rest ≡ line → lines rest ≡ line ∷ lines (drop (size line) rest)
same rest line some is = subst (λ (l : Line). lines rest ≡ l ∷ lines (drop (size l) rest)) is (first_of rest some)

pub ended_line : (rest text : List ℕ) (k : ℕ) → 0 < length rest → IsFirstByte (is_byte 10) rest (Some k) → text ≡ take k rest
    → lines rest ≡ record { text = text; ended = true } ∷ lines (drop (size (record { text = text; ended = true })) rest)
ended_line rest text k some found is =
    let count = before_found 10 rest k found in
    same rest (record { text = text; ended = true }) some
    (ap₂ line_of (ap (λ (n : ℕ). take n rest) count ∙ sym is)
    (lt-ltb _ _ (omega (arith, count, found.0.high))))

pub open_line : (rest : List ℕ) → 0 < length rest → IsFirstByte (is_byte 10) rest None
    → lines rest ≡ record { text = rest; ended = false } ∷ lines (drop (size (record { text = rest; ended = false })) rest)
open_line rest some none =
    let count = before_none 10 rest none in
    same rest (record { text = rest; ended = false }) some
    (ap₂ line_of (ap (λ (n : ℕ). take n rest) count ∙ take_all rest)
    (le-ltb _ _ (omega (arith, count))))
  where
    take_all : (xs : List ℕ) → take (length xs) xs ≡ xs
    take_all [] = refl
    take_all (x ∷ xs) = ap (λ (l : List ℕ). x ∷ l) (take_all xs)
