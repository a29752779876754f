-- Blank lines behind a document, from one line to the next.
use Rattle.std.proofs.Common.{◌≡◌, ℕ, ◌+◌, ◌<◌, ◌≤◌, ◌-◌, ◌&&◌, Bool, ltb, true, false, List, [], ◌∷◌, length, take}
use Rattle.std.proofs.Common.{drop, Option, Some, None, refl, ap, ◌∙◌, arith, if◌then◌else◌}
use Rattle.std.proofs.{Math.ListN.drop_of_length-le, lemmas.{Bool.{lt-ltb, le-ltb}, List.{length-drop, length-take}}}
use Rattle.std.proofs.lemmas.List.{drop-drop}
use Rattle.memchr.specs.Find.{IsFirstByte, is_byte}
use Rattle.item_terms.specs.{Lines.{Line, lines, size}, Words.is_blank_line}
use Rattle.dirdoc_grammar.{specs.Reading.{first_line, first_line_len}, proofs.FirstByte.{before_found, before_none}}
use Rattle.dirdoc_grammar.proofs.FirstLine.{lines_first, whole_rest}
use Rattle.blank_lines.specs.Blanks.{after_blanks, blank_size, first_other, is_blank}

-- what stands behind the first line where that is blank, and else that line
at_first : (place : ℕ) (rest : List ℕ) → 0 < length rest
    → first_other place (lines rest) ≡ (if is_blank (first_line rest) then first_other (place + size (first_line rest)) (lines (drop (size (first_line rest)) rest)) else Some place)
unfolding first_other
at_first place [] some = absurd (omega arith)
at_first place (b ∷ bytes) some = ap (first_other place) (lines_first b bytes)

by_size : (b : Bool) (n k place : ℕ) (after : ℕ → Option ℕ) → Some k ≡ (if b then Some n else None) → (if b then after n else Some place) ≡ after k
by_size true n k place after is = ap after (cc is)
by_size false n k place after is = absurd cc

by_none : (b : Bool) (n place : ℕ) (after : ℕ → Option ℕ) → None ≡ (if b then Some n else None) → (if b then after n else Some place) ≡ Some place
by_none true n place after is = absurd cc
by_none false n place after is = refl

first_other_is_after_blanks : (place k : ℕ) (bytes : List ℕ) → first_other (place + k) (lines (drop k (drop place bytes))) ≡ after_blanks (place + k) bytes
first_other_is_after_blanks place k bytes = ap (λ (rest : List ℕ). first_other (place + k) (lines rest)) (drop-drop k place bytes)

-- a blank line is passed over
pub one_blank : (place k : ℕ) (bytes : List ℕ) → place < length bytes → Some k ≡ blank_size (take (length bytes - place) (drop place bytes)) → after_blanks place bytes ≡ after_blanks (place + k) bytes
one_blank place k bytes inside is =
    let rest = drop place bytes in
    at_first place rest (omega (arith, length-drop place bytes))
    ∙ by_size (is_blank (first_line rest)) (size (first_line rest)) k place (λ n. first_other (place + n) (lines (drop n rest))) (is ∙ ap blank_size (whole_rest place bytes))
    ∙ first_other_is_after_blanks place k bytes

-- a line that is not blank is the first such
pub one_other : (place : ℕ) (bytes : List ℕ) → place < length bytes → None ≡ blank_size (take (length bytes - place) (drop place bytes)) → after_blanks place bytes ≡ Some place
one_other place bytes inside is =
    let rest = drop place bytes in
    at_first place rest (omega (arith, length-drop place bytes))
    ∙ by_none (is_blank (first_line rest)) (size (first_line rest)) place (λ n. first_other (place + n) (lines (drop n rest))) (is ∙ ap blank_size (whole_rest place bytes))

-- nothing stands behind the last line
pub no_line : (place : ℕ) (bytes : List ℕ) → length bytes ≤ place → after_blanks place bytes ≡ None
unfolding first_other
no_line place bytes le = ap (λ (rest : List ℕ). first_other place (lines rest)) (drop_of_length-le bytes le)

-- ---- the first line

abbrev line_of : List ℕ → Bool → Line
line_of text ended = record { text = text; ended = ended }

abbrev sized : Line → Option ℕ
sized line = if is_blank line then Some (size line) else None

never : (b : Bool) → (b && false) ≡ false
never true = refl
never false = refl

itself : (b : Bool) → (b && true) ≡ b
itself true = refl
itself false = refl

-- a line without its NL is not blank
pub not_ended : (rest : List ℕ) → IsFirstByte (is_byte 10) rest None → blank_size rest ≡ None
not_ended rest none =
    let n = before_none 10 rest none in
    let ended : ltb (first_line_len rest) (length rest) ≡ false = le-ltb _ _ (omega (arith, n)) in
    let text = take (first_line_len rest) rest in
    ap (λ (e : Bool). sized (line_of text e)) ended ∙ ap (λ (b : Bool). if b then Some (size (line_of text false)) else None) (never (is_blank_line text))

-- a line with its NL is blank where its text is
pub ended_line : (rest : List ℕ) (k : ℕ) (b : Bool) → IsFirstByte (is_byte 10) rest (Some k) → is_blank_line (take k rest) ≡ b → blank_size rest ≡ (if b then Some (k + 1) else None)
ended_line rest k b found is =
    let n = before_found 10 rest k found in
    let ended : ltb (first_line_len rest) (length rest) ≡ true = lt-ltb _ _ (omega (arith, n, found.0.high)) in
    let long : length (take k rest) ≡ k = omega (arith, length-take k rest, found.0.high) in
    ap (λ (e : Bool). sized (line_of (take (first_line_len rest) rest) e)) ended
    ∙ ap (λ (i : ℕ). sized (line_of (take i rest) true)) n
    ∙ ap (λ (i : ℕ). if (is_blank_line (take k rest) && true) then Some (i + 1) else None) long
    ∙ ap (λ (c : Bool). if c then Some (k + 1) else None) (itself (is_blank_line (take k rest)) ∙ is)
