-- Bytes that end within a line, of which nothing more is known.
use Rattle.std.proofs.Common.{◌≡◌, ℕ, zero, suc, ◌+◌, ◌-◌, ◌<◌, ◌≤◌, Bool, true, false, cond, eqb, List, [], ◌∷◌, ◌++◌}
use Rattle.std.proofs.Common.{length, take, drop, Some, None, refl, sym, ap, ◌∙◌, inl, inr, arith}
use Rattle.std.proofs.lemmas.{Bool.{cases_lt, le-leb, lt-ltb, le-ltb}, List.{length-drop, length-take, drop-drop}}
use Rattle.std.specs.Prelude.{min, nat_lt, nat_le, not, ◌&&◌}
use Rattle.item_terms.specs.declared.fault.DocReason.TheVariants.{Unterminated, LineTooLong, DocumentTooLong}
use Rattle.item_terms.specs.{declared.fault.{DocReason.TheVariants.ObjectTooLong, DocFault.DocFault}, Lines.Line}
use Rattle.item_terms.specs.{Lines.size, Words.{begins_dash, nul_in}, Faults.{at, or_else, nul_fault, line_fault}}
use Rattle.item_terms.specs.{Faults.{max_line, max_object}, Items.{Open, nothing, keyword_line, object_lines}}
use Rattle.dirdoc_grammar.specs.declared.front.Phase.{Phase, TheVariants.{Between, Keyword, Object}}
use Rattle.dirdoc_grammar.specs.{Reading.{first_line_len, first_line, IsOf, IsCut}, Cursors.{NoNl, IsOver}}
use Rattle.dirdoc_grammar.proofs.{FirstLine.whole_rest, LineSteps.first_dash}

-- ---- bytes without a NL

joins_by : (is_nl : Bool) (k n m : ℕ) → suc k ≤ cond (not is_nl) (1 + n) 0 → (k ≤ n → n ≡ m) → cond (not is_nl) (1 + n) 0 ≡ suc m
joins_by true k n m le rest = absurd (omega arith)
joins_by false k n m le rest = omega (arith, rest (omega arith))

-- no NL stands in front, nor behind
joins : (k : ℕ) (rest : List ℕ) → k ≤ first_line_len rest → first_line_len (drop k rest) ≡ length (drop k rest) → first_line_len rest ≡ length rest
joins zero rest le e = e
joins (suc k) [] le e = refl
joins (suc k) (b ∷ rest) le e = joins_by (eqb b 10) k (first_line_len rest) (length rest) le (λ there. joins k rest there e)

pub no_nl_on : (line scanned : ℕ) (bytes : List ℕ) → line ≤ scanned → NoNl bytes line scanned → first_line_len (drop scanned bytes) ≡ length (drop scanned bytes) → first_line_len (drop line bytes) ≡ length (drop line bytes)
no_nl_on line scanned bytes le none e =
    let k = scanned - line in
    let same : drop k (drop line bytes) ≡ drop scanned bytes = drop-drop k line bytes ∙ ap (λ (n : ℕ). drop n bytes) (omega arith) in
    joins k (drop line bytes) none (ap first_line_len same ∙ e ∙ sym (ap length same))

grows_by : (is_nl : Bool) (n m : ℕ) → n ≤ m → cond (not is_nl) (1 + n) 0 ≤ cond (not is_nl) (1 + m) 0
grows_by true n m le = omega arith
grows_by false n m le = omega (arith, le)

pub grows : (rest more : List ℕ) → first_line_len rest ≤ first_line_len (rest ++ more)
grows [] more = omega arith
grows (b ∷ rest) more = grows_by (eqb b 10) (first_line_len rest) (first_line_len (rest ++ more)) (grows rest more)

-- ---- the bytes end within a line

-- the line is the whole rest
record IsRest (line : ℕ) (bytes : List ℕ) : Type 0 where
  open_ : (first_line (drop line bytes)).ended ≡ false
  size_ : size (first_line (drop line bytes)) ≡ length bytes - line
  text : length (first_line (drop line bytes)).text ≡ length bytes - line

size_of : (line : Line) → line.ended ≡ false → size line ≡ length line.text
size_of line e = ap (λ (b : Bool). length line.text + cond b 1 0) e ∙ omega arith

is_rest : (line : ℕ) (bytes : List ℕ) → first_line_len (drop line bytes) ≡ length (drop line bytes) → IsRest line bytes
is_rest line bytes e =
    let rest : List ℕ = drop line bytes in
    let open_ : (first_line rest).ended ≡ false = le-ltb _ _ (omega (arith, e)) in
    let text : length (first_line rest).text ≡ length bytes - line = omega (arith, e, length-take (first_line_len rest) rest, length-drop line bytes) in
    record { open_ = open_; size_ = size_of (first_line rest) open_ ∙ text; text = text }

rest_fault : (limit line : ℕ) (bytes : List ℕ) → line ≤ length bytes → IsRest line bytes → length bytes - line ≤ min (limit - line) max_line → line_fault limit line (first_line (drop line bytes)) ≡ Some (at (length bytes) Unterminated)
rest_fault limit line bytes within is fits =
    let l = first_line (drop line bytes) in
    let far : DocFault = cond (nat_le (limit - line) max_line) (at limit DocumentTooLong) (at (line + max_line) LineTooLong) in
    let nul = nul_fault line (nul_in l.text) in
    let here = at (line + length l.text) Unterminated in
    ap (λ (t : Bool). or_else (cond t None (Some far)) (or_else (cond l.ended None (Some here)) nul)) (le-leb (size l) (min (limit - line) max_line) (omega (arith, fits, is.size_)))
    ∙ ap (λ (t : Bool). or_else (cond t None (Some here)) nul) is.open_
    ∙ ap (λ (n : ℕ). Some (at n Unterminated)) (omega (arith, is.text, within))

not_over : (room m n : ℕ) → n ≤ room → (nat_lt room m && nat_lt room n) ≡ false
not_over room m n le = elim (cases_lt room m) [
  | inl lt ↦ ap (λ (t : Bool). t && nat_lt room n) (lt-ltb _ _ lt) ∙ le-ltb _ _ le
  | inr short ↦ ap (λ (t : Bool). t && nat_lt room n) (le-ltb _ _ short)
]

-- the bytes end within a line of this phase
abbrev pub Fits : Phase → ℕ → ℕ → List ℕ → Type 0
Fits Between limit line bytes = Unit {0}
Fits Keyword limit line bytes = begins_dash (drop line bytes) ≡ true
Fits (Object begin) limit line bytes = length bytes - line ≤ max_object - (line - begin)

pub quiet : (limit line : ℕ) (phase : Phase) (bytes : List ℕ) → line < length bytes → first_line_len (drop line bytes) ≡ length (drop line bytes) → length bytes - line ≤ min (limit - line) max_line → Fits phase limit line bytes
    → (open_ : Open) → IsOf phase open_ → IsCut limit line open_ bytes
quiet limit line Between bytes inside e fits more nothing kind = record { inside = inside; fault = rest_fault limit line bytes (omega arith) (is_rest line bytes e) fits; object = tt }
quiet limit line Between bytes inside e fits more (keyword_line item) kind = absurd kind
quiet limit line Between bytes inside e fits more (object_lines item begin object) kind = absurd kind
quiet limit line Keyword bytes inside e fits more nothing kind = absurd kind
quiet limit line Keyword bytes inside e fits more (keyword_line item) kind =
    record { inside = inside; fault = rest_fault limit line bytes (omega arith) (is_rest line bytes e) fits; object = sym (first_dash (drop line bytes)) ∙ more }
quiet limit line Keyword bytes inside e fits more (object_lines item begin object) kind = absurd kind
quiet limit line (Object b) bytes inside e fits more nothing kind = absurd kind
quiet limit line (Object b) bytes inside e fits more (keyword_line item) kind = absurd kind
quiet limit line (Object b) bytes inside e fits more (object_lines item begin object) kind =
    let is = is_rest line bytes e in
    let l = first_line (drop line bytes) in
    let room = max_object - (line - begin) in
    let less : size l ≤ room = omega (arith, is.size_, more, kind) in
    record {
      inside = inside;
      fault = ap (λ (t : Bool). cond t (Some (at begin ObjectTooLong)) (line_fault limit line l)) (not_over room (min (limit - line) max_line) (size l) less)
          ∙ rest_fault limit line bytes (omega arith) is fits;
      object = tt;
    }

pub quiet_or : (limit line : ℕ) (phase : Phase) (bytes : List ℕ) → line ≤ length bytes → first_line_len (drop line bytes) ≡ length (drop line bytes) → length bytes - line ≤ min (limit - line) max_line
    → (line < length bytes → Fits phase limit line bytes) → (open_ : Open) → IsOf phase open_ → IsOver limit line open_ bytes
quiet_or limit line phase bytes le e fits more open_ kind = elim (cases_lt line (length bytes)) [
  | inl lt ↦ inr (quiet limit line phase bytes lt e fits (more lt) open_ kind)
  | inr ge ↦ inl (omega (arith, le, ge))
]

pub rest_whole : (scanned : ℕ) (bytes : List ℕ) (r : ℕ) → r ≡ first_line_len (take (length bytes - scanned) (drop scanned bytes)) → length (take (length bytes - scanned) (drop scanned bytes)) ≤ r → r ≤ length (take (length bytes - scanned) (drop scanned bytes))
    → first_line_len (drop scanned bytes) ≡ length (drop scanned bytes)
rest_whole scanned bytes r is more less =
    let same = whole_rest scanned bytes in
    let n : r ≡ length (take (length bytes - scanned) (drop scanned bytes)) = omega (arith, more, less) in
    sym (ap first_line_len same) ∙ sym is ∙ n ∙ ap length same

pub all_no_nl : (line : ℕ) (bytes : List ℕ) → first_line_len (drop line bytes) ≡ length (drop line bytes) → NoNl bytes line (length bytes)
all_no_nl line bytes e = omega (arith, e, length-drop line bytes)
