-- Of bytes that go on, either what comes first is known whatever follows, or they end where it is not.
use Rattle.std.proofs.Common.{◌≡◌, ℕ, zero, suc, ◌+◌, ◌-◌, ◌<◌, ◌≤◌, ◌⊎◌, Bool, true, false, List, ◌++◌, length, drop}
use Rattle.std.proofs.Common.{Option, Some, None, Result, Ok, Err, refl, sym, ap, ◌∙◌, inl, inr, arith}
use Rattle.std.{proofs.lemmas.{Bool.{cases_lt, false≢true}, List.length-drop}, specs.Prelude.{min, nat_lt, ◌&&◌}}
use Rattle.std.specs.Prelude.{if◌then◌else◌}
use Rattle.item_terms.specs.{declared.fault.{DocFault.DocFault, DocReason.DocReason}, Faults.{at, or_else, nul_fault}}
use Rattle.item_terms.specs.{Faults.{line_fault, object_line_fault, max_line, max_object, too_long}, Items.Open}
use Rattle.item_terms.specs.{Items.{nothing, keyword_line, object_lines}, Lines.{Line, size}, Steps.step}
use Rattle.item_terms.specs.Words.{begins_dash, nul_in}
use Rattle.item_terms.specs.declared.fault.DocReason.TheVariants as why
use Rattle.item_terms.specs.Items as model
use Rattle.dirdoc_grammar.specs.{Cursors.IsOver, Feeding.first_of, Reading.{InObject, fault_of, first_line, from_place}}
use Rattle.dirdoc_grammar.proofs.{FirstLine.{at_step, ends_inside, fails, goes_on}, Fronts.{cut_object, ended_at}}
use Rattle.dirdoc_grammar.proofs.{Fronts.{grows_at, object_fault_stays}, LineSteps.{begin_fails, cut_here, dash_more}}
use Rattle.dirdoc_grammar.proofs.LineSteps.{fault_more, first_dash, inside_more, line_fails, no_object}
use Rattle.dirdoc_grammar.proofs.ObjectSteps.{object_fails}

-- what comes first is this, whatever follows
abbrev pub IsSettled : ℕ → ℕ → Open → List ℕ → Result (Option model.Item) DocFault → Type 0
IsSettled limit place so_far bytes answer =
    (more : List ℕ) → first_of (from_place limit place so_far (bytes ++ more)) ≡ answer

-- what comes first is known
pub record Known (limit place : ℕ) (so_far : Open) (bytes : List ℕ) : Type 0 where
  pub answer : Result (Option model.Item) DocFault
  pub settled : IsSettled limit place so_far bytes answer

-- the bytes end before a line or within it, and nothing is known
pub record Waiting (limit place : ℕ) (so_far : Open) (bytes : List ℕ) : Type 0 where
  pub line : ℕ
  pub open_ : Open
  pub same : (more : List ℕ)
      → from_place limit place so_far (bytes ++ more) ≡ from_place limit line open_ (bytes ++ more)
  pub over : IsOver limit line open_ bytes

abbrev pub Is : ℕ → ℕ → Open → List ℕ → Type 0
Is limit place so_far bytes = Known limit place so_far bytes ⊎ Waiting limit place so_far bytes

-- a line whose reading goes on with another
moved : (limit place next : ℕ) (so_far open_ : Open) (bytes : List ℕ)
    → ((more : List ℕ) → from_place limit place so_far (bytes ++ more) ≡ from_place limit next open_ (bytes ++ more))
    → Is limit next open_ bytes → Is limit place so_far bytes
moved limit place next so_far open_ bytes same (inl known) =
    inl (record { answer = known.answer; settled = λ more. ap first_of (same more) ∙ known.settled more })
moved limit place next so_far open_ bytes same (inr waits) =
    inr (record {
      line = waits.line;
      open_ = waits.open_;
      same = λ more. same more ∙ waits.same more;
      over = waits.over;
    })

-- ---- a line with its NL

abbrev ended_line : List ℕ → Line
ended_line text = record { text = text; ended = true }

by_step : (limit place : ℕ) (so_far : Open) (bytes text : List ℕ) (whole : Option model.Item)
    (next : Result Open DocFault) → place < length bytes
    → first_line (drop place bytes) ≡ ended_line text
    → step limit place so_far (ended_line text) ≡ record { whole = whole; next = next }
    → ((open_ : Open) → Is limit (place + length text + 1) open_ bytes) → Is limit place so_far bytes
by_step limit place so_far bytes text (Some item) next inside line is later = inl (record {
  answer = Ok (Some item);
  settled = λ more.
      ap first_of (at_step limit place so_far (bytes ++ more) (record { whole = Some item; next = next })
      (inside_more place bytes more inside)
      (ap (step limit place so_far) (ended_at place bytes more text (omega (arith, inside)) line) ∙ is));
})
by_step limit place so_far bytes text None (Err fault) inside line is later = inl (record {
  answer = Err fault;
  settled = λ more.
      ap first_of (fails limit place so_far (bytes ++ more) fault (inside_more place bytes more inside)
      (ap (step limit place so_far) (ended_at place bytes more text (omega (arith, inside)) line) ∙ is));
})
by_step limit place so_far bytes text None (Ok open_) inside line is later =
    moved limit place (place + length text + 1) so_far open_ bytes
    (λ more. goes_on limit place so_far (bytes ++ more) text None open_ (inside_more place bytes more inside)
    (ended_at place bytes more text (omega (arith, inside)) line)
    (ap (step limit place so_far) (ended_at place bytes more text (omega (arith, inside)) line) ∙ is))
    (later open_)

-- ---- the fault of a line without its NL

or_unterminated : (reason : DocReason) → (reason ≡ why.Unterminated) ⊎ (reason ≡ why.Unterminated → ⊥)
or_unterminated why.Keyword = inr (λ e. absurd cc)
or_unterminated why.Nul = inr (λ e. absurd cc)
or_unterminated why.Unterminated = inl refl
or_unterminated why.ObjectWords = inr (λ e. absurd cc)
or_unterminated why.ObjectBase64 = inr (λ e. absurd cc)
or_unterminated why.ObjectEnd = inr (λ e. absurd cc)
or_unterminated why.LineTooLong = inr (λ e. absurd cc)
or_unterminated why.DocumentTooLong = inr (λ e. absurd cc)
or_unterminated why.ObjectTooLong = inr (λ e. absurd cc)

-- a fault that is there
pub record Has (found : Option DocFault) : Type 0 where
  pub fault : DocFault
  pub is : found ≡ Some fault

has_one : (first : Option DocFault) (ended : Bool) (here : DocFault) (last : Option DocFault) → ended ≡ false
    → Has (or_else first (or_else (if ended then None else Some here) last))
has_one (Some fault) ended here last open_ = record { fault = fault; is = refl }
has_one None true here last open_ = absurd (false≢true (sym open_))
has_one None false here last open_ = record { fault = here; is = refl }

has_line : (limit place : ℕ) (line : Line) → line.ended ≡ false → Has (line_fault limit place line)
has_line limit place line open_ =
    has_one (too_long limit place (size line)) line.ended (at (place + length line.text) why.Unterminated)
    (nul_fault place (nul_in line.text)) open_

has_over : (over : Bool) (far : DocFault) (line : Option DocFault) → Has line → Has (if over then Some far else line)
has_over true far line h = record { fault = far; is = refl }
has_over false far line h = h

has_object : (limit begin place : ℕ) (line : Line) → line.ended ≡ false → Has (object_line_fault limit begin place line)
has_object limit begin place line open_ =
    let room = max_object - (place - begin) in
    has_over (nat_lt room (min (limit - place) max_line) && nat_lt room (size line)) (at begin why.ObjectTooLong)
    (line_fault limit place line) (has_line limit place line open_)

-- ---- the fault of a line, by what it may continue

pub has_fault : (limit place : ℕ) (so_far : Open) (line : Line) → line.ended ≡ false
    → Has (fault_of so_far limit place line)
has_fault limit place nothing line open_ = has_line limit place line open_
has_fault limit place (keyword_line item) line open_ = has_line limit place line open_
has_fault limit place (object_lines item begin object) line open_ = has_object limit begin place line open_

pub refused_by : (limit place : ℕ) (so_far : Open) (bytes : List ℕ) (fault : DocFault) → place < length bytes
    → InObject so_far (first_line (drop place bytes))
    → fault_of so_far limit place (first_line (drop place bytes)) ≡ Some fault
    → from_place limit place so_far bytes ≡ model.failed_contents fault
refused_by limit place nothing bytes fault inside begun e = line_fails limit place bytes fault inside e
refused_by limit place (keyword_line item) bytes fault inside begun e =
    begin_fails limit place bytes fault inside (first_dash (drop place bytes) ∙ begun) e item
refused_by limit place (object_lines item begin object) bytes fault inside begun e =
    object_fails limit begin place bytes item object fault inside e

-- a fault other than that the bytes end stays
stays : (limit place : ℕ) (so_far : Open) (bytes more : List ℕ) (fault : DocFault) → place < length bytes
    → fault_of so_far limit place (first_line (drop place bytes)) ≡ Some fault → (fault.reason ≡ why.Unterminated → ⊥)
    → fault_of so_far limit place (first_line (drop place (bytes ++ more))) ≡ Some fault
stays limit place nothing bytes more fault inside e sure = fault_more limit place bytes more fault inside e sure
stays limit place (keyword_line item) bytes more fault inside e sure =
    fault_more limit place bytes more fault inside e sure
stays limit place (object_lines item begin object) bytes more fault inside e sure =
    object_fault_stays limit begin place (first_line (drop place bytes)) (first_line (drop place (bytes ++ more))) fault
    (grows_at place bytes more (omega (arith, inside))) e sure

cut_object_here : (limit begin place : ℕ) (bytes : List ℕ) (fault : DocFault) → place < length bytes
    → object_line_fault limit begin place (first_line (drop place bytes)) ≡ Some fault → fault.reason ≡ why.Unterminated
    → object_line_fault limit begin place (first_line (drop place bytes)) ≡ Some (at (length bytes) why.Unterminated)
cut_object_here limit begin place bytes fault inside e is =
    let h = cut_object limit begin place (drop place bytes) fault e is in
    let n : place + length (drop place bytes) ≡ length bytes = omega (arith, length-drop place bytes, inside) in
    e ∙ ap (λ (f : DocFault). Some f) h.1 ∙ ap (λ (k : ℕ). Some (at k why.Unterminated)) n

-- that the bytes end in a line stands at their end
pub cut_of : (limit place : ℕ) (so_far : Open) (bytes : List ℕ) (fault : DocFault) → place < length bytes
    → fault_of so_far limit place (first_line (drop place bytes)) ≡ Some fault → fault.reason ≡ why.Unterminated
    → fault_of so_far limit place (first_line (drop place bytes)) ≡ Some (at (length bytes) why.Unterminated)
cut_of limit place nothing bytes fault inside e is = cut_here limit place bytes fault inside e is
cut_of limit place (keyword_line item) bytes fault inside e is = cut_here limit place bytes fault inside e is
cut_of limit place (object_lines item begin object) bytes fault inside e is =
    cut_object_here limit begin place bytes fault inside e is

pub begun_more : (so_far : Open) (place : ℕ) (bytes more : List ℕ) → place < length bytes
    → InObject so_far (first_line (drop place bytes)) → InObject so_far (first_line (drop place (bytes ++ more)))
begun_more nothing place bytes more inside begun = tt
begun_more (keyword_line item) place bytes more inside begun =
    sym (first_dash (drop place (bytes ++ more))) ∙ dash_more place bytes more inside
    ∙ first_dash (drop place bytes) ∙ begun
begun_more (object_lines item begin object) place bytes more inside begun = tt

-- ---- a line without its NL

open_line : (limit place : ℕ) (so_far : Open) (bytes : List ℕ) (fault : DocFault) → place < length bytes
    → InObject so_far (first_line (drop place bytes))
    → fault_of so_far limit place (first_line (drop place bytes)) ≡ Some fault
    → (fault.reason ≡ why.Unterminated) ⊎ (fault.reason ≡ why.Unterminated → ⊥) → Is limit place so_far bytes
open_line limit place so_far bytes fault inside begun e (inl is) = inr (record {
  line = place;
  open_ = so_far;
  same = λ more. refl;
  over = inr (record { inside = inside; fault = cut_of limit place so_far bytes fault inside e is; object = begun });
})
open_line limit place so_far bytes fault inside begun e (inr sure) = inl (record {
  answer = Err fault;
  settled = λ more.
      ap first_of (refused_by limit place so_far (bytes ++ more) fault (inside_more place bytes more inside)
      (begun_more so_far place bytes more inside begun) (stays limit place so_far bytes more fault inside e sure));
})

by_fault : (limit place : ℕ) (so_far : Open) (bytes : List ℕ) → place < length bytes
    → (first_line (drop place bytes)).ended ≡ false → InObject so_far (first_line (drop place bytes))
    → Is limit place so_far bytes
by_fault limit place so_far bytes inside open_ begun =
    let h = has_fault limit place so_far (first_line (drop place bytes)) open_ in
    open_line limit place so_far bytes h.fault inside begun h.is (or_unterminated h.fault.reason)

by_dash : (limit place : ℕ) (item : model.Item) (bytes : List ℕ) (dash : Bool) → place < length bytes
    → (first_line (drop place bytes)).ended ≡ false → begins_dash (drop place bytes) ≡ dash
    → Is limit place (keyword_line item) bytes
by_dash limit place item bytes true inside open_ e =
    by_fault limit place (keyword_line item) bytes inside open_ (sym (first_dash (drop place bytes)) ∙ e)
by_dash limit place item bytes false inside open_ e = inl (record {
  answer = Ok (Some item);
  settled = λ more. ap first_of (no_object limit place bytes more item inside e);
})

unended : (limit place : ℕ) (so_far : Open) (bytes : List ℕ) → place < length bytes
    → (first_line (drop place bytes)).ended ≡ false → Is limit place so_far bytes
unended limit place nothing bytes inside open_ = by_fault limit place nothing bytes inside open_ tt
unended limit place (keyword_line item) bytes inside open_ =
    by_dash limit place item bytes (begins_dash (drop place bytes)) inside open_ refl
unended limit place (object_lines item begin object) bytes inside open_ =
    by_fault limit place (object_lines item begin object) bytes inside open_ tt

-- ---- each line

by_ending : (limit place : ℕ) (so_far : Open) (bytes text : List ℕ) (ended : Bool) → place < length bytes
    → first_line (drop place bytes) ≡ record { text = text; ended = ended }
    → ((next : ℕ) (open_ : Open) → place < next → next ≤ length bytes → Is limit next open_ bytes)
    → Is limit place so_far bytes
by_ending limit place so_far bytes text true inside e later =
    let made = step limit place so_far (ended_line text) in
    by_step limit place so_far bytes text made.whole made.next inside e refl
    (λ open_. later (place + length text + 1) open_ (omega arith) (ends_inside place bytes text inside e))
by_ending limit place so_far bytes text false inside e later =
    unended limit place so_far bytes inside (ap (λ (l : Line). l.ended) e)

pub known_or_waits : (k limit place : ℕ) (so_far : Open) (bytes : List ℕ) → place ≤ length bytes
    → length bytes ≤ place + k
    → Is limit place so_far bytes
known_or_waits zero limit place so_far bytes le far =
    inr (record { line = place; open_ = so_far; same = λ more. refl; over = inl (omega (arith, le, far)) })
known_or_waits (suc k) limit place so_far bytes le far = elim (cases_lt place (length bytes)) [
  | inl inside ↦
      let line = first_line (drop place bytes) in
      by_ending limit place so_far bytes line.text line.ended inside refl
      (λ next open_ behind within. known_or_waits k limit next open_ bytes within (omega (arith, far, behind)))
  | inr ended ↦
      inr (record { line = place; open_ = so_far; same = λ more. refl; over = inl (omega (arith, le, ended)) })
]
