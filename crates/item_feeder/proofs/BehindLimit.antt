-- What stands behind the first byte that a document may not have changes nothing.
use Rattle.std.proofs.Common.{◌≡◌, ℕ, zero, suc, ◌+◌, ◌-◌, ◌<◌, ◌≤◌, ◌⊎◌, Bool, true, false, cond, eqb, List, [], ◌∷◌}
use Rattle.std.proofs.Common.{take, Option, Some, None, Result, Ok, Err, refl, sym, ap, subst, ◌∙◌, inl, inr, arith}
use Rattle.std.{proofs.lemmas.Bool.{cases_lt, lt-leb, lt-ltb, le-ltb}, specs.Prelude.{min, nat_lt, nat_le, ◌&&◌}}
use Rattle.item_terms.specs.declared.fault.DocReason.TheVariants.{LineTooLong, DocumentTooLong, ObjectTooLong}
use Rattle.item_terms.specs.{declared.fault.DocFault.DocFault, Lines.{Line, lines, onto, size}, Words.nul_in}
use Rattle.item_terms.specs.{Words.begin_words, Faults.{at, or_else, unterminated_fault, nul_fault, line_fault}}
use Rattle.item_terms.specs.{Faults.{object_line_fault, max_line, max_object}, Steps.{Item, Open, Step, step, nothing}}
use Rattle.item_terms.specs.Steps.{keyword_line, object_lines, open_item, item_unless, open_unless, step_unless}
use Rattle.item_terms.specs.{Steps.{object_step, line_item, read_line, starts_dash, first_object_line}, Items.Contents}
use Rattle.item_terms.specs.Items.{contents_of, also, proceed, failed_contents}
use Rattle.item_feeder.specs.Limits.{LimitIsEnough}

-- ---- lines that are alike

-- two lines pass the document's limit, and both begin with '-' or neither does
record Passes (limit place : ℕ) (one other : Line) : Type 0 where
  dash : starts_dash other ≡ starts_dash one
  first : limit - place < size one
  second : limit - place < size other

-- the same lines, up to one that passes the limit
abbrev Alike : ℕ → ℕ → List Line → List Line → Type 0
Alike limit place [] [] = Unit {0}
Alike limit place [] (other ∷ more) = ⊥
Alike limit place (one ∷ rest) [] = ⊥
Alike limit place (one ∷ rest) (other ∷ more) =
    ((other ≡ one) × Alike limit (place + size one) rest more) ⊎ Passes limit place one other

onto_alike : (limit place b : ℕ) (list other : List Line) → Alike limit (place + 1) list other
    → Alike limit place (onto b list) (onto b other)
onto_alike limit place b [] [] h = inl (refl, tt)
onto_alike limit place b [] (two ∷ more) h = absurd h
onto_alike limit place b (one ∷ rest) [] h = absurd h
onto_alike limit place b (one ∷ rest) (two ∷ more) (inl h) =
    inl (
      ap (λ (l : Line). record { text = b ∷ l.text; ended = l.ended }) h.0,
      subst (λ (n : ℕ). Alike limit n rest more) (omega arith) h.1,
    )
onto_alike limit place b (one ∷ rest) (two ∷ more) (inr h) =
    inr (record { dash = refl; first = omega (arith, h.first); second = omega (arith, h.second) })

onto_passes : (limit place b : ℕ) (list other : List Line) → limit ≤ place
    → Alike limit place (onto b list) (onto b other)
onto_passes limit place b [] [] le = inr (record { dash = refl; first = omega (arith, le); second = omega (arith, le) })
onto_passes limit place b [] (two ∷ more) le =
    inr (record { dash = refl; first = omega (arith, le); second = omega (arith, le) })
onto_passes limit place b (one ∷ rest) [] le =
    inr (record { dash = refl; first = omega (arith, le); second = omega (arith, le) })
onto_passes limit place b (one ∷ rest) (two ∷ more) le =
    inr (record { dash = refl; first = omega (arith, le); second = omega (arith, le) })

abbrev lines_after : Bool → ℕ → List Line → List Line
lines_after is_nl b list = cond is_nl (record { text = []; ended = true } ∷ list) (onto b list)

by_nl : (is_nl : Bool) (limit place b : ℕ) (list other : List Line)
    → (place < limit → Alike limit (place + 1) list other)
    → Alike limit place (lines_after is_nl b list) (lines_after is_nl b other)
by_nl true limit place b list other h = elim (cases_lt place limit) [
  | inl lt ↦ inl (refl, subst (λ (n : ℕ). Alike limit n list other) (omega arith) (h lt))
  | inr le ↦ inr (record { dash = refl; first = omega (arith, le); second = omega (arith, le) })
]
by_nl false limit place b list other h = elim (cases_lt place limit) [
  | inl lt ↦ onto_alike limit place b list other (h lt)
  | inr le ↦ onto_passes limit place b list other le
]

lines_alike : (limit place n : ℕ) (bytes : List ℕ) → place ≤ limit → limit + 1 ≤ place + n
    → Alike limit place (lines (take n bytes)) (lines bytes)
lines_alike limit place zero bytes le enough = absurd (omega (arith, le, enough))
lines_alike limit place (suc n) [] le enough = tt
lines_alike limit place (suc n) (b ∷ bytes) le enough =
    by_nl (eqb b 10) limit place b (lines (take n bytes)) (lines bytes)
    (λ lt. lines_alike limit (place + 1) n bytes (omega (arith, lt)) (omega (arith, enough)))

-- ---- what a line that passes the limit makes

abbrev pub far_fault : ℕ → ℕ → DocFault
far_fault limit place =
    cond (nat_le (limit - place) max_line) (at limit DocumentTooLong) (at (place + max_line) LineTooLong)

pub far_is : (limit place : ℕ) (line : Line) → limit - place < size line
    → line_fault limit place line ≡ Some (far_fault limit place)
far_is limit place line lt =
    ap (λ (t : Bool). or_else (cond t None (Some (far_fault limit place)))
    (or_else (unterminated_fault place line) (nul_fault place (nul_in line.text)))) (lt-leb _ _ (omega (arith, lt)))

over_is : (room m n : ℕ) → m ≤ n → (nat_lt room m && nat_lt room n) ≡ nat_lt room m
over_is room m n fits = elim (cases_lt room m) [
  | inl less ↦ ap (λ (t : Bool). t && nat_lt room n) (lt-ltb _ _ less) ∙ lt-ltb _ _ (omega (arith, fits, less))
      ∙ sym (lt-ltb _ _ less)
  | inr le ↦ ap (λ (t : Bool). t && nat_lt room n) (le-ltb _ _ le) ∙ sym (le-ltb _ _ le)
]

-- the fault of a line that reaches the limits, inside an object
abbrev pub inside_fault : DocFault → ℕ → ℕ → ℕ → DocFault
inside_fault far limit begin place =
    cond (nat_lt (max_object - (place - begin)) (min (limit - place) max_line)) (at begin ObjectTooLong) far

inside_by : (over : Bool) (begin : ℕ) (far : DocFault)
    → cond over (Some (at begin ObjectTooLong)) (Some far) ≡ Some (cond over (at begin ObjectTooLong) far)
inside_by true begin far = refl
inside_by false begin far = refl

inside_is : (limit begin place : ℕ) (line : Line) (far : DocFault) → min (limit - place) max_line ≤ size line
    → line_fault limit place line ≡ Some far
    → object_line_fault limit begin place line ≡ Some (inside_fault far limit begin place)
inside_is limit begin place line far reaches is =
    let room = max_object - (place - begin) in
    let m = min (limit - place) max_line in
    ap (λ (t : Bool). cond t (Some (at begin ObjectTooLong)) (line_fault limit place line))
    (over_is room m (size line) reaches)
    ∙ ap (λ (f : Option DocFault). cond (nat_lt room m) (Some (at begin ObjectTooLong)) f) is
    ∙ inside_by (nat_lt room m) begin far

-- the contents where the first line reaches the limits and has this fault
abbrev pub stopped : DocFault → ℕ → ℕ → Open → Bool → Contents
stopped far limit place nothing dash = failed_contents far
stopped far limit place (keyword_line item) dash = cond dash (failed_contents far) (also (Some item) (failed_contents far))
stopped far limit place (object_lines item begin object) dash = failed_contents (inside_fault far limit begin place)

abbrev pub Rest : Type 0
Rest = Open → Contents

dash_by : (dash : Bool) (item : Item) (far : DocFault) (object read : Result Open DocFault) (rest : Rest)
    → object ≡ Err far → read ≡ Err far
    → (let made : Step = cond dash (record { whole = None; next = object })
    (record { whole = Some item; next = read }) in also made.whole (proceed made.next rest))
    ≡ cond dash (failed_contents far) (also (Some item) (failed_contents far))
dash_by true item far object read rest a b = ap (λ (n : Result Open DocFault). also None (proceed n rest)) a
dash_by false item far object read rest a b = ap (λ (n : Result Open DocFault). also (Some item) (proceed n rest)) b

pub stops : (limit place : ℕ) (so_far : Open) (line : Line) (rest : Rest) (far : DocFault)
    → min (limit - place) max_line ≤ size line → line_fault limit place line ≡ Some far
    → (let made = step limit place so_far line in also made.whole (proceed made.next rest))
    ≡ stopped far limit place so_far (starts_dash line)
stops limit place nothing line rest far reaches is =
    ap (λ (f : Option DocFault). also None (proceed (open_item (item_unless f (line_item place line))) rest)) is
stops limit place (keyword_line item) line rest far reaches is =
    dash_by (starts_dash line) item far (open_unless (line_fault limit place line)
    (first_object_line place item line (begin_words line.text))) (open_item (read_line limit place line)) rest
    (ap (λ (f : Option DocFault). open_unless f (first_object_line place item line (begin_words line.text))) is)
    (ap (λ (f : Option DocFault). open_item (item_unless f (line_item place line))) is)
stops limit place (object_lines item begin object) line rest far reaches is =
    ap (λ (f : Option DocFault). also (step_unless f (object_step item begin object place line)).whole
    (proceed (step_unless f (object_step item begin object place line)).next rest))
    (inside_is limit begin place line far reaches is)

-- the same of a line that passes the document's limit
pub stops_far : (limit place : ℕ) (so_far : Open) (line : Line) (rest : Rest) → limit - place < size line
    → (let made = step limit place so_far line in also made.whole (proceed made.next rest))
    ≡ stopped (far_fault limit place) limit place so_far (starts_dash line)
stops_far limit place so_far line rest lt =
    stops limit place so_far line rest (far_fault limit place) (omega (arith, lt)) (far_is limit place line lt)

-- ---- a text

next_same : (next : Result Open DocFault) (one other : Rest) → ((open_ : Open) → one open_ ≡ other open_)
    → proceed next one ≡ proceed next other
next_same (Ok open_) one other same = same open_
next_same (Err fault) one other same = refl

after_step : (made : Step) (one other : Rest) → ((open_ : Open) → one open_ ≡ other open_)
    → also made.whole (proceed made.next one) ≡ also made.whole (proceed made.next other)
after_step made one other same = ap (also made.whole) (next_same made.next one other same)

alike : (limit place : ℕ) (so_far : Open) (list other : List Line) → Alike limit place list other
    → contents_of limit place so_far list ≡ contents_of limit place so_far other
unfolding contents_of
alike limit place so_far [] [] h = refl
alike limit place so_far [] (two ∷ more) h = absurd h
alike limit place so_far (one ∷ rest) [] h = absurd h
alike limit place so_far (one ∷ rest) (two ∷ more) (inl h) =
    after_step (step limit place so_far one) (λ open_. contents_of limit (place + size one) open_ rest)
    (λ open_. contents_of limit (place + size one) open_ more)
    (λ open_. alike limit (place + size one) open_ rest more h.1)
    ∙ ap (λ (l : Line). let made = step limit place so_far l in also made.whole
    (proceed made.next (λ open_. contents_of limit (place + size l) open_ more))) (sym h.0)
alike limit place so_far (one ∷ rest) (two ∷ more) (inr h) =
    stops_far limit place so_far one (λ open_. contents_of limit (place + size one) open_ rest) h.first
    ∙ ap (stopped (far_fault limit place) limit place so_far) (sym h.dash)
    ∙ sym (stops_far limit place so_far two (λ open_. contents_of limit (place + size two) open_ more) h.second)

pub limit_is_enough : LimitIsEnough
limit_is_enough limit place n so_far bytes le enough =
    alike limit place so_far (lines (take n bytes)) (lines bytes) (lines_alike limit place n bytes le enough)
