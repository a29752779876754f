-- The lines of a text are its first line and the lines of what follows it.
use Rattle.std.proofs.Common.{◌≡◌, ℕ, suc, ◌+◌, ◌<◌, ◌≤◌, Bool, true, false, cond, eqb, ltb, List, [], ◌∷◌, length, ◌-◌}
use Rattle.std.proofs.Common.{take, drop, Option, None, Ok, Err, refl, sym, ap, ◌∙◌, arith}
use Rattle.std.proofs.{Math.ListN.drop_of_length-le, lemmas.{Grind.common_steps, List.{length-drop, length-take}}}
use Rattle.std.{proofs.lemmas.{List.drop-drop, Bool.{lt-ltb, ltb-true}}, specs.Prelude.not}
use Rattle.item_terms.specs.{declared.fault.DocFault.DocFault, Lines.{Line, lines, onto, size}, Steps.{Item, Open}}
use Rattle.item_terms.specs.{Steps.{Step, step}, Items.{contents, contents_of, also, proceed, failed_contents, at_end}}
use Rattle.dirdoc_grammar.specs.Reading.{first_line_len, first_line, from_place}

-- the first line of b and more, where it is known whether b is a NL
abbrev pub line_after : Bool → ℕ → List ℕ → Line
line_after is_nl b bytes = let n = cond (not is_nl) (1 + first_line_len bytes) 0 in record { text = take n (b ∷ bytes); ended = ltb n (length (b ∷ bytes)) }

abbrev lines_after : Bool → ℕ → List ℕ → List Line
lines_after is_nl b bytes = cond is_nl (record { text = []; ended = true } ∷ lines bytes) (onto b (lines bytes))

-- a line with one more byte in front
abbrev pub with_byte : ℕ → Line → Line
with_byte b line = record { text = b ∷ line.text; ended = line.ended }

abbrev line_of : List ℕ → Bool → Line
line_of text ended = record { text = text; ended = ended }

same_line : (t u : List ℕ) (d e : Bool) → t ≡ u → d ≡ e → line_of t d ≡ line_of u e
same_line t u d e text ended = ap (λ (x : List ℕ). line_of x d) text ∙ ap (line_of u) ended

pub line_grows : (b : ℕ) (bytes : List ℕ) → line_after false b bytes ≡ with_byte b (first_line bytes)
line_grows b bytes =
    let n = first_line_len bytes in
    let one : 1 + n ≡ suc n = omega arith in
    let text : take (1 + n) (b ∷ bytes) ≡ b ∷ take n bytes = rw one refl in
    let ended : ltb (1 + n) (length (b ∷ bytes)) ≡ ltb n (length bytes) = grind arith in
    same_line (take (1 + n) (b ∷ bytes)) (b ∷ take n bytes) (ltb (1 + n) (length (b ∷ bytes))) (ltb n (length bytes)) text ended

size_grows : (b : ℕ) (line : Line) → size (with_byte b line) ≡ suc (size line)
size_grows b line = omega arith

by_case : (is_nl : Bool) (b c : ℕ) (more : List ℕ) → lines (c ∷ more) ≡ first_line (c ∷ more) ∷ lines (drop (size (first_line (c ∷ more))) (c ∷ more))
    → lines_after is_nl b (c ∷ more) ≡ line_after is_nl b (c ∷ more) ∷ lines (drop (size (line_after is_nl b (c ∷ more))) (b ∷ c ∷ more))
by_case true b c more before =
    let F : Bool → List Line = λ e. record { text = []; ended = e } ∷ lines (drop (size (record { text = []; ended = e })) (b ∷ c ∷ more)) in
    let longer : ltb 0 (length (b ∷ c ∷ more)) ≡ true = lt-ltb _ _ (omega arith) in
    ap F (sym longer)
by_case false b c more before =
    let bytes : List ℕ = c ∷ more in
    let rest : drop (size (line_after false b bytes)) (b ∷ bytes) ≡ drop (size (first_line bytes)) bytes = ap (λ (l : Line). drop (size l) (b ∷ bytes)) (line_grows b bytes) ∙ ap (λ (k : ℕ). drop k (b ∷ bytes)) (size_grows b (first_line bytes)) in
    ap (onto b) before ∙ ap (λ (l : Line). l ∷ lines (drop (size (first_line bytes)) bytes)) (sym (line_grows b bytes)) ∙ ap (λ (r : List ℕ). line_after false b bytes ∷ lines r) (sym rest)

alone : (is_nl : Bool) (b : ℕ) → lines_after is_nl b [] ≡ line_after is_nl b [] ∷ lines (drop (size (line_after is_nl b [])) (b ∷ []))
alone true b = refl
alone false b = refl

pub lines_first : (b : ℕ) (bytes : List ℕ) → lines (b ∷ bytes) ≡ first_line (b ∷ bytes) ∷ lines (drop (size (first_line (b ∷ bytes))) (b ∷ bytes))
lines_first b [] = alone (eqb b 10) b
lines_first b (c ∷ more) = by_case (eqb b 10) b c more (lines_first c more)

-- `&bytes[place..]`
pub whole_rest : (place : ℕ) (bytes : List ℕ) → take (length bytes - place) (drop place bytes) ≡ drop place bytes
whole_rest place bytes = grind (arith, common_steps)

-- what a document holds where its first line is known
pub at_first : (limit place : ℕ) (so_far : Open) (rest : List ℕ) → 0 < length rest
    → contents limit place so_far rest ≡ (let made = step limit place so_far (first_line rest) in also made.whole (proceed made.next (λ next. contents limit (place + size (first_line rest)) next (drop (size (first_line rest)) rest))))
unfolding contents_of
at_first limit place so_far [] some = absurd (omega arith)
at_first limit place so_far (b ∷ bytes) some = ap (contents_of limit place so_far) (lines_first b bytes)

-- the same where the line's step is known
pub at_step : (limit place : ℕ) (so_far : Open) (bytes : List ℕ) (made : Step) → place < length bytes → step limit place so_far (first_line (drop place bytes)) ≡ made
    → from_place limit place so_far bytes ≡ also made.whole (proceed made.next (λ next. contents limit (place + size (first_line (drop place bytes))) next (drop (size (first_line (drop place bytes))) (drop place bytes))))
at_step limit place so_far bytes made inside e =
    let rest = drop place bytes in
    at_first limit place so_far rest (omega (arith, length-drop place bytes))
    ∙ ap (λ (m : Step). also m.whole (proceed m.next (λ next. contents limit (place + size (first_line rest)) next (drop (size (first_line rest)) rest)))) e

inside_line : (rest text : List ℕ) → first_line rest ≡ record { text = text; ended = true } → length text < length rest
inside_line rest text e =
    let n : length text ≡ length (take (first_line_len rest) rest) = ap (λ (l : Line). length l.text) (sym e) in
    let lt : first_line_len rest < length rest = ltb-true _ _ (ap (λ (l : Line). l.ended) e) in
    omega (arith, n, lt, length-take (first_line_len rest) rest)

-- a line with its NL ends inside the document
pub ends_inside : (place : ℕ) (bytes text : List ℕ) → place < length bytes → first_line (drop place bytes) ≡ record { text = text; ended = true } → place + length text + 1 ≤ length bytes
ends_inside place bytes text inside e = omega (arith, inside_line (drop place bytes) text e, length-drop place bytes)

-- A step that goes on, over a line with its NL.
pub goes_on : (limit place : ℕ) (so_far : Open) (bytes text : List ℕ) (whole : Option Item) (next : Open) → place < length bytes → first_line (drop place bytes) ≡ record { text = text; ended = true }
    → step limit place so_far (first_line (drop place bytes)) ≡ record { whole = whole; next = Ok next } → from_place limit place so_far bytes ≡ also whole (from_place limit (place + length text + 1) next bytes)
goes_on limit place so_far bytes text whole next inside line e =
    let rest = drop place bytes in
    let after : drop (length text + 1) rest ≡ drop (place + length text + 1) bytes = drop-drop (length text + 1) place bytes ∙ ap (λ (n : ℕ). drop n bytes) (omega arith) in
    at_step limit place so_far bytes (record { whole = whole; next = Ok next }) inside e
    ∙ ap (λ (l : Line). also whole (contents limit (place + size l) next (drop (size l) rest))) line
    ∙ ap (λ (r : List ℕ). also whole (contents limit (place + (length text + 1)) next r)) after
    ∙ ap (λ (n : ℕ). also whole (contents limit n next (drop (place + length text + 1) bytes))) (omega arith)

-- A step that fails.
pub fails : (limit place : ℕ) (so_far : Open) (bytes : List ℕ) (fault : DocFault) → place < length bytes
    → step limit place so_far (first_line (drop place bytes)) ≡ record { whole = None; next = Err fault } → from_place limit place so_far bytes ≡ failed_contents fault
fails limit place so_far bytes fault inside e = at_step limit place so_far bytes (record { whole = None; next = Err fault }) inside e

pub ends : (limit place : ℕ) (so_far : Open) (bytes : List ℕ) → length bytes ≤ place → from_place limit place so_far bytes ≡ at_end place so_far
unfolding contents_of
ends limit place so_far bytes le = ap (contents limit place so_far) (drop_of_length-le bytes le)
