-- Which bytes are blank lines alone, of which none is longer than a line may be.
use Rattle.std.proofs.Common.{◌≡◌, ◌∙◌, ℕ, ◌+◌, ◌<◌, ◌≤◌, Bool, true, false, List, [], ◌∷◌, refl, sym, ap, arith}
use Rattle.std.{proofs.lemmas.Bool.{le-leb, lt-leb, ltb-true, ltb-false, ne_eqb}, specs.Prelude.{◌==◌, ◌&&◌, nat_le}}
use Rattle.std.specs.{Prelude.{nat_lt, if◌then◌else◌}, List.{fold, list_all}}
use Rattle.item_terms.specs.{Faults.max_line, Lines.{Line, lines, onto, size}, Words.{is_blank, is_blank_line}}
use Rattle.compute_command.specs.{declared.tail.Tail.TheVariants.{Blank, Other}, Tails.{is_end, most_blanks, tail_of}}
use Rattle.compute_command.specs.Tails.{tail_with}

-- whether a line is blank, that has so many blanks more in front
abbrev pub blank_line : ℕ → Line → Bool
blank_line n line = (line.ended && is_blank_line line.text) && nat_le (n + size line) max_line

-- whether lines are blank lines alone, of which the first has so many blanks more in front
abbrev pub all_blank : ℕ → List Line → Bool
all_blank n [] = n == 0
all_blank n (line ∷ rest) = blank_line n line && all_blank 0 rest

abbrev empty : Line
empty = record { text = []; ended = true }

-- behind another byte nothing changes
pub others : (bytes : List ℕ) → fold tail_with Other bytes ≡ Other
others [] = refl
others (b ∷ bytes) = others bytes

never : (t : Bool) → (t && false) ≡ false
never true = refl
never false = refl

-- another byte in front of the first line
dark_front : (n b : ℕ) (ls : List Line) → is_blank b ≡ false → all_blank n (onto b ls) ≡ false
dark_front n b [] is = refl
dark_front n b (line ∷ ls) is =
    let fits = nat_le (n + size (record { text = b ∷ line.text; ended = line.ended })) max_line in
    ap (λ (t : Bool). ((line.ended && (t && list_all is_blank line.text)) && fits) && all_blank 0 ls) is
    ∙ ap (λ (t : Bool). (t && fits) && all_blank 0 ls) (never line.ended)

-- a blank in front of the first line
blank_front : (n b : ℕ) (ls : List Line) → is_blank b ≡ true → all_blank n (onto b ls) ≡ all_blank (n + 1) ls
blank_front n b [] is = sym (ne_eqb (n + 1) 0 (λ e. omega (arith, e)))
blank_front n b (line ∷ ls) is =
    let longer : Line = record { text = b ∷ line.text; ended = line.ended } in
    let same : n + size longer ≡ n + 1 + size line = omega arith in
    ap (λ (t : Bool). ((line.ended && (t && list_all is_blank line.text)) && nat_le (n + size longer) max_line)
    && all_blank 0 ls) is
    ∙ ap (λ (k : ℕ). ((line.ended && list_all is_blank line.text) && nat_le k max_line) && all_blank 0 ls) same

-- one blank too many
full_front : (n b : ℕ) (ls : List Line) → most_blanks ≤ n → all_blank n (onto b ls) ≡ false
full_front n b [] full = refl
full_front n b (line ∷ ls) full = by line.ended
  where
    by : (ended : Bool) → all_blank n (onto b (record { text = line.text; ended = ended } ∷ ls)) ≡ false
    by false = refl
    by true =
        let long : nat_le (n + size (record { text = b ∷ line.text; ended = true })) max_line ≡ false =
        lt-leb _ _ (omega (arith, full)) in
        ap (λ (t : Bool). ((is_blank b && list_all is_blank line.text) && t) && all_blank 0 ls) long
        ∙ ap (λ (t : Bool). t && all_blank 0 ls) (never (is_blank b && list_all is_blank line.text))

-- an NL behind so many blanks
nl_front : (n : ℕ) (ls : List Line) → n ≤ most_blanks → all_blank n (empty ∷ ls) ≡ all_blank 0 ls
nl_front n ls few =
    let fits : nat_le (n + 1) max_line ≡ true = le-leb _ _ (omega (arith, few)) in
    ap (λ (t : Bool). t && all_blank 0 ls) fits

abbrev SaysOf : ℕ → List ℕ → Type 0
SaysOf n bytes = is_end (fold tail_with (Blank n) bytes) ≡ all_blank n (lines bytes)

by_byte : (n b : ℕ) (bytes : List ℕ) (nl blank fits : Bool) → n ≤ most_blanks → is_blank b ≡ blank
    → nat_lt n most_blanks ≡ fits → SaysOf 0 bytes → (n < most_blanks → SaysOf (n + 1) bytes)
    → is_end (fold tail_with (if nl then Blank 0 else if blank then (if fits then Blank (n + 1) else Other) else Other) bytes)
    ≡ all_blank n (if nl then empty ∷ lines bytes else onto b (lines bytes))
by_byte n b bytes true blank fits few is lt whole more = whole ∙ sym (nl_front n (lines bytes) few)
by_byte n b bytes false true true few is lt whole more =
    more (ltb-true n most_blanks lt) ∙ sym (blank_front n b (lines bytes) is)
by_byte n b bytes false true false few is lt whole more =
    ap is_end (others bytes) ∙ sym (full_front n b (lines bytes) (ltb-false n most_blanks lt))
by_byte n b bytes false false fits few is lt whole more =
    ap is_end (others bytes) ∙ sym (dark_front n b (lines bytes) is)

says : (n : ℕ) (bytes : List ℕ) → n ≤ most_blanks → SaysOf n bytes
says n [] few = refl
says n (b ∷ bytes) few =
    by_byte n b bytes (b == 10) (is_blank b) (nat_lt n most_blanks) few refl refl (says 0 bytes (omega arith))
    (λ lt. says (n + 1) bytes (omega (arith, lt)))

-- so it is told byte by byte
pub tail_says : (bytes : List ℕ) → is_end (tail_of bytes) ≡ all_blank 0 (lines bytes)
tail_says bytes = says 0 bytes (omega arith)
