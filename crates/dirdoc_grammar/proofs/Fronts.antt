-- The first line of a text that goes on: one with its NL stays, and another grows; and so its faults.
use Rattle.std.proofs.Common.{◌≡◌, ℕ, ◌+◌, ◌-◌, ◌<◌, ◌≤◌, ◌⊎◌, Bool, true, false, cond, eqb, ltb, List, [], ◌∷◌, ◌++◌}
use Rattle.std.proofs.Common.{length, drop, Option, Some, None, refl, sym, ap, subst, ◌∙◌, inl, inr, arith}
use Rattle.std.proofs.lemmas.{Bool.{lt-ltb, le-ltb, le-leb, lt-leb, cases_lt, false≢true}, List.length-take}
use Rattle.std.{proofs.lemmas.List.drop-append-le, specs.Prelude.{min, nat_lt, nat_le, ◌&&◌}}
use Rattle.item_terms.specs.declared.fault.DocReason.{DocReason, TheVariants.{Nul, Unterminated, LineTooLong}}
use Rattle.item_terms.specs.declared.fault.{DocReason.TheVariants.{DocumentTooLong, ObjectTooLong}, DocFault.DocFault}
use Rattle.item_terms.specs.{Lines.{Line, size}, Words.nul_in, Faults.{at, or_else, too_long, unterminated_fault}}
use Rattle.item_terms.specs.Faults.{nul_fault, line_fault, object_line_fault, max_line, max_object}
use Rattle.dirdoc_grammar.{specs.Reading.{first_line_len, first_line}, proofs.FirstLine.{line_after, line_grows}}
use Rattle.dirdoc_grammar.proofs.FirstLine.{with_byte}

-- ---- the line

-- what more bytes may make of a line
abbrev pub Grows : Line → Line → Type 0
Grows line other = ((line.ended ≡ true) × (other ≡ line)) ⊎ ((line.ended ≡ false) × (size line ≤ size other))

grown : (b : ℕ) (line other : Line) → Grows line other → Grows (with_byte b line) (with_byte b other)
grown b line other (inl h) = inl (h.0, ap (with_byte b) h.1)
grown b line other (inr h) = inr (h.0, omega (arith, h.1))

by_nl : (is_nl : Bool) (b : ℕ) (rest more : List ℕ) → Grows (first_line rest) (first_line (rest ++ more)) → Grows (line_after is_nl b rest) (line_after is_nl b (rest ++ more))
by_nl true b rest more before =
    let here : ltb 0 (length (b ∷ rest)) ≡ true = lt-ltb _ _ (omega arith) in
    let there : ltb 0 (length (b ∷ (rest ++ more))) ≡ true = lt-ltb _ _ (omega arith) in
    inl (here, ap (λ (e : Bool). record { text = []; ended = e }) (there ∙ sym here))
by_nl false b rest more before =
    let one = grown b (first_line rest) (first_line (rest ++ more)) before in
    subst (λ (l : Line). Grows l (line_after false b (rest ++ more))) (sym (line_grows b rest))
    (subst (λ (l : Line). Grows (with_byte b (first_line rest)) l) (sym (line_grows b (rest ++ more))) one)

pub first_grows : (rest more : List ℕ) → Grows (first_line rest) (first_line (rest ++ more))
first_grows [] more = inr (refl, omega arith)
first_grows (b ∷ rest) more = by_nl (eqb b 10) b rest more (first_grows rest more)

pub grows_at : (place : ℕ) (bytes more : List ℕ) → place ≤ length bytes → Grows (first_line (drop place bytes)) (first_line (drop place (bytes ++ more)))
grows_at place bytes more le = subst (λ (r : List ℕ). Grows (first_line (drop place bytes)) (first_line r)) (sym (drop-append-le place bytes more le)) (first_grows (drop place bytes) more)

stays : (line other : Line) (text : List ℕ) → Grows line other → line ≡ record { text = text; ended = true } → other ≡ record { text = text; ended = true }
stays line other text (inl h) e = h.1 ∙ e
stays line other text (inr h) e = absurd (false≢true (sym h.0 ∙ ap (λ (l : Line). l.ended) e))

pub ended_at : (place : ℕ) (bytes more text : List ℕ) → place ≤ length bytes → first_line (drop place bytes) ≡ record { text = text; ended = true } → first_line (drop place (bytes ++ more)) ≡ record { text = text; ended = true }
ended_at place bytes more text le e = stays (first_line (drop place bytes)) (first_line (drop place (bytes ++ more))) text (grows_at place bytes more le) e

-- a line without its NL is the whole text
pub unended_len : (rest : List ℕ) → (first_line rest).ended ≡ false → length (first_line rest).text ≡ length rest
unended_len rest e = elim (cases_lt (first_line_len rest) (length rest)) [
  | inl lt ↦ absurd (false≢true (sym e ∙ lt-ltb _ _ lt))
  | inr le ↦ omega (arith, length-take (first_line_len rest) rest)
]

-- ---- its faults

abbrev reason_of : Option DocFault → DocReason
reason_of None = Nul
reason_of (Some fault) = fault.reason

long_reason : (near : Bool) (a b : ℕ) → (cond near (at a DocumentTooLong) (at b LineTooLong)).reason ≡ Unterminated → ⊥
long_reason true a b e = absurd cc
long_reason false a b e = absurd cc

nul_reason : (place : ℕ) (nul : Option ℕ) (fault : DocFault) → nul_fault place nul ≡ Some fault → fault.reason ≡ Unterminated → ⊥
nul_reason place None fault e is = absurd cc
nul_reason place (Some i) fault e is = absurd cc

-- the bytes end in a line that passes no limit
cut_by : (fits ended near : Bool) (a b place : ℕ) (unended : DocFault) (nul : Option ℕ) (fault : DocFault)
    → or_else (cond fits None (Some (cond near (at a DocumentTooLong) (at b LineTooLong)))) (or_else (cond ended None (Some unended)) (nul_fault place nul)) ≡ Some fault
    → fault.reason ≡ Unterminated → (ended ≡ false) × (fault ≡ unended)
cut_by false ended near a b place unended nul fault e is = absurd (long_reason near a b (ap reason_of e ∙ is))
cut_by true true near a b place unended nul fault e is = absurd (nul_reason place nul fault e is)
cut_by true false near a b place unended nul fault e is = (refl, cc)

pub cut_line : (limit place : ℕ) (rest : List ℕ) (fault : DocFault) → line_fault limit place (first_line rest) ≡ Some fault → fault.reason ≡ Unterminated
    → ((first_line rest).ended ≡ false) × (fault ≡ at (place + length rest) Unterminated)
cut_line limit place rest fault e is =
    let line = first_line rest in
    let h = cut_by (nat_le (size line) (min (limit - place) max_line)) line.ended (nat_le (limit - place) max_line) limit (place + max_line) place (at (place + length line.text) Unterminated) (nul_in line.text) fault e is in
    (h.0, h.1 ∙ ap (λ (n : ℕ). at (place + n) Unterminated) (unended_len rest h.0))

cut_room : (over : Bool) (limit begin place : ℕ) (rest : List ℕ) (fault : DocFault) → cond over (Some (at begin ObjectTooLong)) (line_fault limit place (first_line rest)) ≡ Some fault → fault.reason ≡ Unterminated
    → ((first_line rest).ended ≡ false) × (fault ≡ at (place + length rest) Unterminated)
cut_room true limit begin place rest fault e is = absurd cc
cut_room false limit begin place rest fault e is = cut_line limit place rest fault e is

pub cut_object : (limit begin place : ℕ) (rest : List ℕ) (fault : DocFault) → object_line_fault limit begin place (first_line rest) ≡ Some fault → fault.reason ≡ Unterminated
    → ((first_line rest).ended ≡ false) × (fault ≡ at (place + length rest) Unterminated)
cut_object limit begin place rest fault e is =
    let room = max_object - (place - begin) in
    cut_room (nat_lt room (min (limit - place) max_line) && nat_lt room (size (first_line rest))) limit begin place rest fault e is

-- a limit that is passed stays passed
long_stays : (limit place n m : ℕ) → n ≤ m → (nat_le n (min (limit - place) max_line) ≡ true → ⊥) → too_long limit place m ≡ too_long limit place n
long_stays limit place n m le over = elim (cases_lt (min (limit - place) max_line) n) [
  | inl lt ↦
      let far : DocFault = cond (nat_le (limit - place) max_line) (at limit DocumentTooLong) (at (place + max_line) LineTooLong) in
      ap (λ (t : Bool). cond t None (Some far)) (lt-leb _ _ (omega (arith, lt, le)) ∙ sym (lt-leb _ _ lt))
  | inr fits ↦ absurd (over (le-leb _ _ fits))
]

fits_if : (fits : Bool) (far : DocFault) → cond fits None (Some far) ≡ None → fits ≡ true
fits_if true far e = refl
fits_if false far e = absurd cc

-- a line without its NL that passes no limit is one in which the bytes end
unended_fault : (limit place : ℕ) (line : Line) (fault : DocFault) → line.ended ≡ false → nat_le (size line) (min (limit - place) max_line) ≡ true → line_fault limit place line ≡ Some fault → fault.reason ≡ Unterminated
unended_fault limit place line fault open_ fits e =
    let far : DocFault = cond (nat_le (limit - place) max_line) (at limit DocumentTooLong) (at (place + max_line) LineTooLong) in
    let nul = nul_fault place (nul_in line.text) in
    let here = at (place + length line.text) Unterminated in
    let near : line_fault limit place line ≡ or_else (cond line.ended None (Some here)) nul =
    ap (λ (t : Bool). or_else (cond t None (Some far)) (or_else (cond line.ended None (Some here)) nul)) fits in
    let ends : or_else (cond line.ended None (Some here)) nul ≡ Some here = ap (λ (t : Bool). or_else (cond t None (Some here)) nul) open_ in
    sym (ap reason_of (sym ends ∙ sym near ∙ e))

by_long : (long one other : Option DocFault) (fault : DocFault) → (long ≡ None → ⊥) → or_else long one ≡ Some fault → or_else long other ≡ Some fault
by_long None one other fault some e = absurd (some refl)
by_long (Some far) one other fault some e = e

-- a fault that is not the end of the bytes stays
pub fault_stays : (limit place : ℕ) (line other : Line) (fault : DocFault) → Grows line other → line_fault limit place line ≡ Some fault → (fault.reason ≡ Unterminated → ⊥) → line_fault limit place other ≡ Some fault
fault_stays limit place line other fault (inl h) e sure = ap (line_fault limit place) h.1 ∙ e
fault_stays limit place line other fault (inr h) e sure =
    let m = min (limit - place) max_line in
    let far : DocFault = cond (nat_le (limit - place) max_line) (at limit DocumentTooLong) (at (place + max_line) LineTooLong) in
    let over : nat_le (size line) m ≡ true → ⊥ = λ fits. sure (unended_fault limit place line fault h.0 fits e) in
    let rest : Line → Option DocFault = λ l. or_else (unterminated_fault place l) (nul_fault place (nul_in l.text)) in
    ap (λ (t : Option DocFault). or_else t (rest other)) (long_stays limit place (size line) (size other) h.1 over)
    ∙ by_long (too_long limit place (size line)) (rest line) (rest other) fault (λ none. over (fits_if (nat_le (size line) m) far none)) e

by_over : (over more : Bool) (begin : ℕ) (one other : Option DocFault) (fault : DocFault) → (over ≡ true → more ≡ true) → (over ≡ false → one ≡ Some fault → (more ≡ false) × (other ≡ Some fault))
    → cond over (Some (at begin ObjectTooLong)) one ≡ Some fault → cond more (Some (at begin ObjectTooLong)) other ≡ Some fault
by_over true more begin one other fault if_over if_not e = ap (λ (t : Bool). cond t (Some (at begin ObjectTooLong)) other) (if_over refl) ∙ e
by_over false more begin one other fault if_over if_not e =
    let h = if_not refl e in
    ap (λ (t : Bool). cond t (Some (at begin ObjectTooLong)) other) h.0 ∙ h.1

-- whether a line passes the room of an object, which is less than the others
abbrev passes : ℕ → ℕ → ℕ → Bool
passes room m n = nat_lt room m && nat_lt room n

passes_more : (room m n k : ℕ) → n ≤ k → passes room m n ≡ true → passes room m k ≡ true
passes_more room m n k le over = elim (cases_lt room m) [
  | inl lt ↦ elim (cases_lt room n) [
    | inl there ↦ ap (λ (t : Bool). t && nat_lt room k) (lt-ltb _ _ lt) ∙ lt-ltb _ _ (omega (arith, there, le))
    | inr short ↦ absurd (false≢true (sym (ap (λ (t : Bool). t && nat_lt room n) (lt-ltb _ _ lt) ∙ le-ltb _ _ short) ∙ over))
  ]
  | inr short ↦ absurd (false≢true (sym (ap (λ (t : Bool). t && nat_lt room n) (le-ltb _ _ short)) ∙ over))
]

passes_none : (room m n k : ℕ) → m < n → passes room m n ≡ false → passes room m k ≡ false
passes_none room m n k over is_not = elim (cases_lt room m) [
  | inl lt ↦ absurd (false≢true (sym is_not ∙ ap (λ (t : Bool). t && nat_lt room n) (lt-ltb _ _ lt) ∙ lt-ltb _ _ (omega (arith, lt, over))))
  | inr short ↦ ap (λ (t : Bool). t && nat_lt room k) (le-ltb _ _ short)
]

over_by : (limit place : ℕ) (line : Line) (fault : DocFault) → line.ended ≡ false → line_fault limit place line ≡ Some fault → (fault.reason ≡ Unterminated → ⊥) → min (limit - place) max_line < size line
over_by limit place line fault open_ e sure = elim (cases_lt (min (limit - place) max_line) (size line)) [
  | inl lt ↦ lt
  | inr fits ↦ absurd (sure (unended_fault limit place line fault open_ (le-leb _ _ fits) e))
]

pub object_fault_stays : (limit begin place : ℕ) (line other : Line) (fault : DocFault) → Grows line other → object_line_fault limit begin place line ≡ Some fault → (fault.reason ≡ Unterminated → ⊥)
    → object_line_fault limit begin place other ≡ Some fault
object_fault_stays limit begin place line other fault (inl h) e sure = ap (object_line_fault limit begin place) h.1 ∙ e
object_fault_stays limit begin place line other fault (inr h) e sure =
    let m = min (limit - place) max_line in
    let room = max_object - (place - begin) in
    by_over (passes room m (size line)) (passes room m (size other)) begin (line_fault limit place line) (line_fault limit place other) fault
    (passes_more room m (size line) (size other) h.1)
    (λ is_not one. (
      passes_none room m (size line) (size other) (over_by limit place line fault h.0 one sure) is_not,
      fault_stays limit place line other fault (inr h) one sure,
    ))
    e
