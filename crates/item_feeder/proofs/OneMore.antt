-- What a document holds whose bytes reach its limit, where one more byte follows them.
use Rattle.std.proofs.Common.{◌≡◌, ℕ, ◌+◌, ◌-◌, ◌<◌, ◌≤◌, ◌⊎◌, Bool, true, false, cond, eqb, List, [], ◌∷◌, ◌++◌}
use Rattle.std.proofs.Common.{length, Option, Some, None, refl, sym, ap, subst, ◌∙◌, inl, inr, arith}
use Rattle.std.{proofs.lemmas.Bool.{cases_lt, lt-leb, le-leb, le-ltb, eq-eqb, eqb-true, false≢true}, specs.Prelude.min}
use Rattle.std.specs.Prelude.{nat_lt, nat_le, ◌&&◌}
use Rattle.item_terms.specs.declared.fault.DocReason.TheVariants.{Unterminated, LineTooLong, DocumentTooLong}
use Rattle.item_terms.specs.{declared.fault.{DocReason.TheVariants.ObjectTooLong, DocFault.DocFault}, Lines.Line}
use Rattle.item_terms.specs.{Lines.{lines, onto, size}, Words.nul_in, Faults.{at, or_else, too_long, nul_fault}}
use Rattle.item_terms.specs.{Faults.{line_fault, max_line, max_object}, Steps.{Item, Open, step, nothing, keyword_line}}
use Rattle.item_terms.specs.{Steps.{object_lines, starts_dash}, Items.{contents, contents_of, also, proceed}}
use Rattle.item_terms.specs.Items.{failed_contents, at_end}
use Rattle.item_feeder.proofs.{BehindLimit.{far_fault, stopped, stops, stops_far}, LastWithin.{over, past, Fits}}
use Rattle.item_feeder.proofs.LastWithin.{step_fits, in_front, after_step}

-- ---- the lines where one more byte follows

-- The bytes end within a line, and that line is longer.
record Cut (limit place : ℕ) (one : Line) (rest : List Line) (other : Line) : Type 0 where
  last : rest ≡ []
  open_ : one.ended ≡ false
  begins : place < limit
  ends : place + size one ≡ limit
  dash : starts_dash other ≡ starts_dash one
  long : limit - place < size other

-- the lines of bytes that end at the limit, and those where more follow, from a byte on that is '-' or is not
abbrev Longer : ℕ → ℕ → Bool → List Line → List Line → Type 0
Longer limit place dash [] [] = ⊥
Longer limit place dash [] (other ∷ more) = (place ≡ limit) × (starts_dash other ≡ dash) × (limit - place < size other)
Longer limit place dash (one ∷ rest) [] = ⊥
Longer limit place dash (one ∷ rest) (other ∷ more) =
    ((other ≡ one) × (one.ended ≡ true) × (place < limit) × Longer limit (place + size one) dash rest more)
    ⊎ Cut limit place one rest other

onto_longer : (limit place b : ℕ) (dash : Bool) (list other : List Line) → Longer limit (place + 1) dash list other
    → Longer limit place dash (onto b list) (onto b other)
onto_longer limit place b dash [] [] h = absurd h
onto_longer limit place b dash [] (two ∷ more) h =
    inr (record {
      last = refl;
      open_ = refl;
      begins = omega (arith, h.0);
      ends = omega
          (arith, h.0);
      dash = refl;
      long = omega (arith, h.0, h.2);
    })
onto_longer limit place b dash (one ∷ rest) [] h = absurd h
onto_longer limit place b dash (one ∷ rest) (two ∷ more) (inl h) =
    inl (
      ap (λ (l : Line). record { text = b ∷ l.text; ended = l.ended }) h.0,
      h.1,
      omega (arith, h.2),
      subst (λ (n : ℕ). Longer limit n dash rest more) (omega arith) h.3,
    )
onto_longer limit place b dash (one ∷ rest) (two ∷ more) (inr h) =
    inr (record {
      last = h.last;
      open_ = h.open_;
      begins = omega (arith, h.begins);
      ends = omega
          (arith, h.ends);
      dash = refl;
      long = omega (arith, h.long);
    })

abbrev lines_after : Bool → ℕ → List Line → List Line
lines_after is_nl b list = cond is_nl (record { text = []; ended = true } ∷ list) (onto b list)

by_nl : (is_nl : Bool) (limit place b : ℕ) (dash : Bool) (list other : List Line) → place < limit
    → Longer limit (place + 1) dash list other
    → Longer limit place dash (lines_after is_nl b list) (lines_after is_nl b other)
by_nl true limit place b dash list other lt h =
    inl (refl, refl, lt, subst (λ (n : ℕ). Longer limit n dash list other) (omega arith) h)
by_nl false limit place b dash list other lt h = onto_longer limit place b dash list other h

onto_first : (limit place b : ℕ) (list : List Line) → place ≡ limit → Longer limit place (eqb b 45) [] (onto b list)
onto_first limit place b [] e = (e, refl, omega (arith, e))
onto_first limit place b (one ∷ rest) e = (e, refl, omega (arith, e))

first_by : (is_nl : Bool) (limit place b : ℕ) (list : List Line) → eqb b 10 ≡ is_nl → place ≡ limit
    → Longer limit place (eqb b 45) [] (lines_after is_nl b list)
first_by true limit place b list nl e = (e, ap (λ (n : ℕ). eqb n 45) (sym (eqb-true b 10 nl)), omega (arith, e))
first_by false limit place b list nl e = onto_first limit place b list e

lines_longer : (limit place : ℕ) (bytes : List ℕ) (b : ℕ) (more : List ℕ) → place + length bytes ≡ limit
    → Longer limit place (eqb b 45) (lines bytes) (lines (bytes ++ b ∷ more))
lines_longer limit place [] b more e = first_by (eqb b 10) limit place b (lines more) refl (omega (arith, e))
lines_longer limit place (c ∷ bytes) b more e =
    by_nl (eqb c 10) limit place c (eqb b 45) (lines bytes) (lines (bytes ++ b ∷ more)) (omega (arith, e))
    (lines_longer limit (place + 1) bytes b more (omega (arith, e)))

-- ---- where the bytes end

at_limit : (limit : ℕ) → far_fault limit limit ≡ at limit DocumentTooLong
at_limit limit =
    ap (λ (t : Bool). cond t (at limit DocumentTooLong) (at (limit + max_line) LineTooLong)) (le-leb _ _ (omega arith))

ends_by : (dash t : Bool) (limit : ℕ) (item : Item) → t ≡ true
    → cond dash (failed_contents (at limit DocumentTooLong)) (also (Some item) (failed_contents (at limit DocumentTooLong)))
    ≡ record { items = cond (dash && t) [] (item ∷ []); fault = Some (at limit DocumentTooLong) }
ends_by true true limit item e = refl
ends_by true false limit item e = absurd (false≢true e)
ends_by false t limit item e = refl

-- before a line
ends : (dash : Bool) (limit : ℕ) (so_far : Open) → Fits limit so_far
    → stopped (at limit DocumentTooLong) limit limit so_far dash ≡ past dash limit (at_end limit so_far)
ends dash limit nothing h = refl
ends dash limit (keyword_line item) h = ends_by dash (eqb item.line_end limit) limit item (eq-eqb item.line_end limit h)
ends dash limit (object_lines item begin object) h =
    ap (λ (t : Bool). failed_contents (cond t (at begin ObjectTooLong) (at limit DocumentTooLong)))
    (le-ltb (max_object - (limit - begin)) (min (limit - limit) max_line) (omega arith))

-- the fault of a line that is cut at the limit
abbrev cut_fault : ℕ → ℕ → DocFault
cut_fault limit place =
    cond (nat_le (limit - place) max_line) (at limit Unterminated) (at (place + max_line) LineTooLong)

fits_by : (near : Bool) (limit place : ℕ) (other : Option DocFault)
    → or_else (cond near None (Some (cond near (at limit DocumentTooLong) (at (place + max_line) LineTooLong))))
    (or_else (Some (at limit Unterminated)) other)
    ≡ Some (cond near (at limit Unterminated) (at (place + max_line) LineTooLong))
fits_by true limit place other = refl
fits_by false limit place other = refl

near_is : (n : ℕ) → nat_le n (min n max_line) ≡ nat_le n max_line
near_is n = elim (cases_lt max_line n) [
  | inl lt ↦ lt-leb _ _ (omega (arith, lt)) ∙ sym (lt-leb _ _ lt)
  | inr le ↦ le-leb _ _ (omega (arith, le)) ∙ sym (le-leb _ _ le)
]

cut_by : (ended : Bool) (limit place n : ℕ) (nul : Option DocFault) → ended ≡ false
    → place + (n + cond ended 1 0) ≡ limit
    → or_else (too_long limit place (n + cond ended 1 0)) (or_else
    (cond ended None (Some (at (place + n) Unterminated))) nul) ≡ Some (cut_fault limit place)
cut_by true limit place n nul e whole = absurd (false≢true (sym e))
cut_by false limit place n nul e whole =
    let room : n + 0 ≡ limit - place = omega (arith, whole) in
    let end_ : place + n ≡ limit = omega (arith, whole) in
    let far : DocFault =
    cond (nat_le (limit - place) max_line) (at limit DocumentTooLong) (at (place + max_line) LineTooLong) in
    ap (λ (k : ℕ). or_else (too_long limit place k) (or_else (Some (at (place + n) Unterminated)) nul)) room
    ∙ ap (λ (k : ℕ). or_else (too_long limit place (limit - place)) (or_else (Some (at k Unterminated)) nul)) end_
    ∙ ap (λ (t : Bool). or_else (cond t None (Some far)) (or_else (Some (at limit Unterminated)) nul))
    (near_is (limit - place))
    ∙ fits_by (nat_le (limit - place) max_line) limit place nul

cut_is : (limit place : ℕ) (line : Line) → line.ended ≡ false → place + size line ≡ limit
    → line_fault limit place line ≡ Some (cut_fault limit place)
cut_is limit place line e whole =
    cut_by line.ended limit place (length line.text) (nul_fault place (nul_in line.text)) e whole

over_cut : (near : Bool) (limit place : ℕ)
    → over limit (Some (cond near (at limit Unterminated) (at (place + max_line) LineTooLong)))
    ≡ cond near (at limit DocumentTooLong) (at (place + max_line) LineTooLong)
over_cut true limit place = refl
over_cut false limit place = refl

inside_cut : (long : Bool) (limit begin : ℕ) (cut far : DocFault) → over limit (Some cut) ≡ far
    → failed_contents (cond long (at begin ObjectTooLong) far)
    ≡ failed_contents (over limit (Some (cond long (at begin ObjectTooLong) cut)))
inside_cut true limit begin cut far e = refl
inside_cut false limit begin cut far e = ap failed_contents (sym e)

dashed : (first dash : Bool) (limit : ℕ) (item : Item) (cut far : DocFault) → item.line_end < limit
    → over limit (Some cut) ≡ far
    → cond first (failed_contents far) (also (Some item) (failed_contents far))
    ≡ past dash limit (cond first (failed_contents cut) (also (Some item) (failed_contents cut)))
dashed true dash limit item cut far lt e = ap failed_contents (sym e)
dashed false dash limit item cut far lt e =
    ap (λ (f : DocFault). also (Some item) (failed_contents f)) (sym e)
    ∙ in_front dash limit (Some item) (failed_contents cut) lt

-- within a line
cuts : (first dash : Bool) (limit place : ℕ) (so_far : Open) (cut far : DocFault) → place < limit → Fits place so_far
    → over limit (Some cut) ≡ far
    → stopped far limit place so_far first ≡ past dash limit (stopped cut limit place so_far first)
cuts first dash limit place nothing cut far lt h e = ap failed_contents (sym e)
cuts first dash limit place (keyword_line item) cut far lt h e =
    dashed first dash limit item cut far (omega (arith, lt, h)) e
cuts first dash limit place (object_lines item begin object) cut far lt h e =
    inside_cut (nat_lt (max_object - (place - begin)) (min (limit - place) max_line)) limit begin cut far e

-- ---- a text

longer : (limit place : ℕ) (dash : Bool) (so_far : Open) (list other : List Line) → Fits place so_far
    → Longer limit place dash list other → contents_of limit place so_far other
    ≡ past dash limit (contents_of limit place so_far list)
unfolding contents_of
longer limit place dash so_far [] [] fits h = absurd h
longer limit place dash so_far [] (two ∷ more) fits h =
    stops_far limit place so_far two (λ open_. contents_of limit (place + size two) open_ more) h.2
    ∙ ap (stopped (far_fault limit place) limit place so_far) h.1
    ∙ ap (λ (n : ℕ). stopped (far_fault limit n) limit n so_far dash) h.0
    ∙ ap (λ (f : DocFault). stopped f limit limit so_far dash) (at_limit limit)
    ∙ ends dash limit so_far (subst (λ (n : ℕ). Fits n so_far) h.0 fits)
    ∙ ap (λ (n : ℕ). past dash limit (at_end n so_far)) (sym h.0)
longer limit place dash so_far (one ∷ rest) [] fits h = absurd h
longer limit place dash so_far (one ∷ rest) (two ∷ more) fits (inl h) =
    ap (λ (l : Line). let made = step limit place so_far l in also made.whole
    (proceed made.next (λ open_. contents_of limit (place + size l) open_ more))) h.0
    ∙ after_step dash limit (place + size one) (step limit place so_far one)
    (λ open_. contents_of limit (place + size one) open_ rest)
    (λ open_. contents_of limit (place + size one) open_ more)
    (step_fits limit place so_far one h.2 h.1 fits)
    (λ open_ o. longer limit (place + size one) dash open_ rest more o h.3)
longer limit place dash so_far (one ∷ rest) (two ∷ more) fits (inr h) =
    stops_far limit place so_far two (λ open_. contents_of limit (place + size two) open_ more) h.long
    ∙ ap (stopped (far_fault limit place) limit place so_far) h.dash
    ∙ cuts (starts_dash one) dash limit place so_far (cut_fault limit place) (far_fault limit place) h.begins fits
    (over_cut (nat_le (limit - place) max_line) limit place)
    ∙ ap (past dash limit) (sym (stops limit place so_far one
    (λ open_. contents_of limit (place + size one) open_ rest) (cut_fault limit place) (omega (arith, h.ends))
    (cut_is limit place one h.open_ h.ends)))

-- what a document holds from a place on, where one more byte follows those up to the limit
pub contents_with_one_more_byte : (limit place : ℕ) (bytes : List ℕ) (b : ℕ) (more : List ℕ) → place + length bytes ≡ limit
    → contents limit place nothing (bytes ++ b ∷ more) ≡ past (eqb b 45) limit (contents limit place nothing bytes)
contents_with_one_more_byte limit place bytes b more e =
    longer limit place (eqb b 45) nothing (lines bytes) (lines (bytes ++ b ∷ more)) tt
    (lines_longer limit place bytes b more e)
