-- What bytes hold with which a reading stops, where no more follow, and where one more does.
use Rattle.std.proofs.Common.{◌≡◌, ℕ, ◌+◌, ◌-◌, ◌<◌, ◌≤◌, Bool, true, false, cond, eqb, List, [], ◌∷◌, ◌++◌, length}
use Rattle.std.proofs.Common.{drop, Option, Some, None, Result, Ok, Err, refl, sym, ap, subst, ◌∙◌, inl, inr, arith}
use Rattle.std.proofs.lemmas.{Bool.{cases_lt, lt-leb, le-leb, lt-ltb, eq-eqb, ne_eqb, false≢true}, List.append-nil}
use Rattle.std.{proofs.lemmas.List.{length-append, length-drop, drop_all, drop-append-le}, specs.Prelude.{min, nat_lt}}
use Rattle.std.specs.Prelude.{nat_le, ◌&&◌, ◌==◌}
use Rattle.item_terms.specs.declared.fault.DocReason.TheVariants.{Unterminated, LineTooLong, DocumentTooLong}
use Rattle.item_terms.specs.{declared.fault.{DocReason.TheVariants.ObjectTooLong, DocFault.DocFault}, Lines.Line}
use Rattle.item_terms.specs.{Lines.size, Words.{begins_dash, nul_in}, Faults.{at, or_else, nul_fault, line_fault}}
use Rattle.item_terms.specs.{Faults.{object_line_fault, max_line, max_object}, Items.{Open, nothing, keyword_line}}
use Rattle.item_terms.specs.Items.{object_lines, also, failed_contents}
use Rattle.item_terms.specs.Items as model
use Rattle.dirdoc_grammar.specs.declared.{item.Item.Item, front.Phase.{Phase, TheVariants.{Between, Keyword, Object}}}
use Rattle.dirdoc_grammar.specs.{declared.front.Found.{Found, TheVariants.{Whole, Fault, Open as More}}, Seen.seen_item}
use Rattle.dirdoc_grammar.specs.Reading.{first_line, from_place, IsOf, IsCut, Ends, Finds, LastOf, last_by, all_of}
use Rattle.dirdoc_grammar.{specs.{Cursors.IsOver, Feeding.first_of}, proofs.FirstLine.{ends, line_after, line_grows}}
use Rattle.dirdoc_grammar.proofs.{Fronts.{unended_len, cut_line, cut_object}, LineSteps.{line_fails, begin_fails}}
use Rattle.dirdoc_grammar.proofs.{LineSteps.{first_dash, dash_more}, ObjectSteps.object_fails}

-- ---- where no more bytes follow

pub cut_now : (limit line : ℕ) (open_ : Open) (bytes : List ℕ) → IsCut limit line open_ bytes → from_place limit line open_ bytes ≡ failed_contents (at (length bytes) Unterminated)
cut_now limit line nothing bytes cut = line_fails limit line bytes (at (length bytes) Unterminated) cut.inside cut.fault
cut_now limit line (keyword_line item) bytes cut =
    begin_fails limit line bytes (at (length bytes) Unterminated) cut.inside (first_dash (drop line bytes) ∙ cut.object) cut.fault item
cut_now limit line (object_lines item begin object) bytes cut = object_fails limit begin line bytes item object (at (length bytes) Unterminated) cut.inside cut.fault

at_true : (limit place line n : ℕ) (bytes : List ℕ) (phase : Phase) → line ≡ n → LastOf limit place bytes (last_by true phase n) → LastOf limit place bytes (last_by (line == n) phase n)
at_true limit place line n bytes phase e h = subst (λ (t : Bool). LastOf limit place bytes (last_by t phase n)) (sym (eq-eqb line n e)) h

at_false : (limit place line n : ℕ) (bytes : List ℕ) (phase : Phase) → line < n → LastOf limit place bytes (last_by false phase n) → LastOf limit place bytes (last_by (line == n) phase n)
at_false limit place line n bytes phase lt h = subst (λ (t : Bool). LastOf limit place bytes (last_by t phase n)) (sym (ne_eqb line n (λ e. omega (arith, e, lt)))) h

last_now : (limit place line : ℕ) (bytes : List ℕ) (phase : Phase) (open_ : Open) → IsOf phase open_ → from_place limit place nothing bytes ≡ from_place limit line open_ bytes → Ends limit bytes line open_ None
    → LastOf limit place bytes (last_by (line == length bytes) phase (length bytes))
last_now limit place line bytes Between nothing kind same (inl h) = at_true limit place line (length bytes) bytes Between h.0 (same ∙ ends limit line nothing bytes (omega (arith, h.0)))
last_now limit place line bytes Between nothing kind same (inr cut) = at_false limit place line (length bytes) bytes Between cut.inside (same ∙ cut_now limit line nothing bytes cut)
last_now limit place line bytes Between (keyword_line item) kind same end_ = absurd kind
last_now limit place line bytes Between (object_lines item begin object) kind same end_ = absurd kind
last_now limit place line bytes Keyword nothing kind same end_ = absurd kind
last_now limit place line bytes Keyword (keyword_line item) kind same (inl h) = absurd h.1
last_now limit place line bytes Keyword (keyword_line item) kind same (inr cut) = at_false limit place line (length bytes) bytes Keyword cut.inside (same ∙ cut_now limit line (keyword_line item) bytes cut)
last_now limit place line bytes Keyword (object_lines item begin object) kind same end_ = absurd kind
last_now limit place line bytes (Object b) nothing kind same end_ = absurd kind
last_now limit place line bytes (Object b) (keyword_line item) kind same end_ = absurd kind
last_now limit place line bytes (Object b) (object_lines item begin object) kind same (inl h) =
    at_true limit place line (length bytes) bytes (Object b) h.0 (same ∙ ends limit line (object_lines item begin object) bytes (omega (arith, h.0)) ∙ ap (λ (n : ℕ). failed_contents (at n Unterminated)) h.0)
last_now limit place line bytes (Object b) (object_lines item begin object) kind same (inr cut) =
    at_false limit place line (length bytes) bytes (Object b) cut.inside (same ∙ cut_now limit line (object_lines item begin object) bytes cut)

item_now : (limit place line : ℕ) (bytes : List ℕ) (open_ : Open) (item : Item) → place < item.after → from_place limit place nothing bytes ≡ from_place limit line open_ bytes → Ends limit bytes line open_ (Some item)
    → LastOf limit place bytes (Ok (Some item))
item_now limit place line bytes open_ item some same h = (
  same
      ∙ ap (λ (o : Open). from_place limit line o bytes) h.1
      ∙ ends limit line (keyword_line (seen_item item)) bytes (omega (arith, h.0))
      ∙ ap (λ (c : model.Contents). also (Some (seen_item item)) c) (sym (ends limit item.after nothing bytes (omega (arith, h.0, h.2)))),
  some,
  omega (arith, h.0, h.2),
)

plain : (limit place line : ℕ) (one other : Open) (bytes : List ℕ) → from_place limit place one (bytes ++ []) ≡ from_place limit line other (bytes ++ []) → from_place limit place one bytes ≡ from_place limit line other bytes
plain limit place line one other bytes e = subst (λ (l : List ℕ). from_place limit place one l ≡ from_place limit line other l) (append-nil bytes) e

-- what is found is what the bytes hold
pub all_now : (limit place : ℕ) (bytes : List ℕ) (found : Found) → Finds limit place bytes found → LastOf limit place bytes (all_of (length bytes) found)
all_now limit place bytes (Whole item) found =
    (subst (λ (l : List ℕ). from_place limit place nothing l ≡ also (Some (seen_item item)) (from_place limit item.after nothing l)) (append-nil bytes) (found.0 []), found.1, found.2)
all_now limit place bytes (Fault fault) found = subst (λ (l : List ℕ). from_place limit place nothing l ≡ failed_contents fault) (append-nil bytes) (found [])
all_now limit place bytes (More stop None) found =
    let waits = found.3 in
    last_now limit place stop.line bytes stop.phase waits.stands.open_ waits.stands.kind (plain limit place stop.line nothing waits.stands.open_ bytes (waits.stands.same [])) waits.ends
all_now limit place bytes (More stop (Some item)) found =
    let waits = found.3 in
    item_now limit place stop.line bytes waits.stands.open_ item found.4 (plain limit place stop.line nothing waits.stands.open_ bytes (waits.stands.same [])) waits.ends

-- ---- where one more byte follows, which is no NL

-- a line without its NL has none with one more byte
still_by : (is_nl : Bool) (b : ℕ) (rest : List ℕ) → ((first_line rest).ended ≡ false → (first_line (rest ++ 45 ∷ [])).ended ≡ false) → (line_after is_nl b rest).ended ≡ false → (line_after is_nl b (rest ++ 45 ∷ [])).ended ≡ false
still_by true b rest before e = absurd (false≢true (sym e ∙ lt-ltb 0 (length (b ∷ rest)) (omega arith)))
still_by false b rest before e =
    ap (λ (l : Line). l.ended) (line_grows b (rest ++ 45 ∷ [])) ∙ before (sym (ap (λ (l : Line). l.ended) (line_grows b rest)) ∙ e)

pub still_open : (rest : List ℕ) → (first_line rest).ended ≡ false → (first_line (rest ++ 45 ∷ [])).ended ≡ false
still_open [] e = refl
still_open (b ∷ rest) e = still_by (eqb b 10) b rest (still_open rest) e

-- a fault other than that the bytes end at this place
abbrev pub IsLater : ℕ → DocFault → Type 0
IsLater n fault = fault ≡ at n Unterminated → ⊥

-- a line without its NL has a fault: that its limit is passed, or that the bytes end behind it
record Later (n : ℕ) (found : Option DocFault) : Type 0 where
  fault : DocFault
  is : found ≡ Some fault
  later : IsLater n fault

far_by : (near : Bool) (a b n : ℕ) → IsLater n (cond near (at a DocumentTooLong) (at b LineTooLong))
far_by true a b n e = let h : DocumentTooLong ≡ Unterminated = ap (λ (f : DocFault). f.reason) e in absurd cc
far_by false a b n e = let h : LineTooLong ≡ Unterminated = ap (λ (f : DocFault). f.reason) e in absurd cc

later_line : (limit place n : ℕ) (line : Line) → line.ended ≡ false → n < place + length line.text → Later n (line_fault limit place line)
later_line limit place n line open_ lt =
    let far : DocFault = cond (nat_le (limit - place) max_line) (at limit DocumentTooLong) (at (place + max_line) LineTooLong) in
    let nul = nul_fault place (nul_in line.text) in
    let here = at (place + length line.text) Unterminated in
    let rest : Option DocFault = or_else (cond line.ended None (Some here)) nul in
    elim (cases_lt (min (limit - place) max_line) (size line)) [
      | inl over ↦ record {
        fault = far;
        is = ap (λ (t : Bool). or_else (cond t None (Some far)) rest) (lt-leb _ _ over);
        later = far_by (nat_le (limit - place) max_line) limit (place + max_line) n;
      }
      | inr fits ↦ record {
        fault = here;
        is = ap (λ (t : Bool). or_else (cond t None (Some far)) rest) (le-leb _ _ fits) ∙ ap (λ (t : Bool). or_else (cond t None (Some here)) nul) open_;
        later = λ e. let p : place + length line.text ≡ n = ap (λ (f : DocFault). f.place) e in omega (arith, p, lt);
      }
    ]

later_by : (over : Bool) (begin n : ℕ) (line : Option DocFault) → Later n line → Later n (cond over (Some (at begin ObjectTooLong)) line)
later_by true begin n line h = record { fault = at begin ObjectTooLong; is = refl; later = λ e. let h : ObjectTooLong ≡ Unterminated = ap (λ (f : DocFault). f.reason) e in absurd cc }
later_by false begin n line h = h

later_object : (limit begin place n : ℕ) (line : Line) → line.ended ≡ false → n < place + length line.text → Later n (object_line_fault limit begin place line)
later_object limit begin place n line open_ lt =
    let room = max_object - (place - begin) in
    later_by (nat_lt room (min (limit - place) max_line) && nat_lt room (size line)) begin n (line_fault limit place line) (later_line limit place n line open_ lt)

-- the bytes end before a line or within it, and one more byte follows
pub record OneMore (limit line : ℕ) (open_ : Open) (bytes : List ℕ) : Type 0 where
  pub fault : DocFault
  pub is : from_place limit line open_ (bytes ++ 45 ∷ []) ≡ failed_contents fault
  pub later : IsLater (length bytes) fault

-- the line is in an object, if it follows a keyword line
abbrev Dashes : Open → List ℕ → Type 0
Dashes nothing rest = Unit {0}
Dashes (keyword_line item) rest = begins_dash rest ≡ true
Dashes (object_lines item begin object) rest = Unit {0}

open_more : (line : ℕ) (bytes : List ℕ) → line ≤ length bytes → (first_line (drop line bytes)).ended ≡ false → (first_line (drop line (bytes ++ 45 ∷ []))).ended ≡ false
open_more line bytes le e = ap (λ (r : List ℕ). (first_line r).ended) (drop-append-le line bytes (45 ∷ []) le) ∙ still_open (drop line bytes) e

longer : (line : ℕ) (bytes : List ℕ) → line ≤ length bytes → (first_line (drop line bytes)).ended ≡ false → length bytes < line + length (first_line (drop line (bytes ++ 45 ∷ []))).text
longer line bytes le e =
    let all : List ℕ = bytes ++ 45 ∷ [] in
    omega (arith, le, unended_len (drop line all) (open_more line bytes le e), length-drop line all, length-append bytes (45 ∷ []))

one_more_dash_is_a_fault : (limit line : ℕ) (open_ : Open) (bytes : List ℕ) → line ≤ length bytes → (first_line (drop line bytes)).ended ≡ false → Dashes open_ (drop line (bytes ++ 45 ∷ [])) → OneMore limit line open_ bytes
one_more_dash_is_a_fault limit line nothing bytes le e dash =
    let all : List ℕ = bytes ++ 45 ∷ [] in
    let h = later_line limit line (length bytes) (first_line (drop line all)) (open_more line bytes le e) (longer line bytes le e) in
    record { fault = h.fault; is = line_fails limit line all h.fault (omega (arith, le, length-append bytes (45 ∷ []))) h.is; later = h.later }
one_more_dash_is_a_fault limit line (keyword_line item) bytes le e dash =
    let all : List ℕ = bytes ++ 45 ∷ [] in
    let h = later_line limit line (length bytes) (first_line (drop line all)) (open_more line bytes le e) (longer line bytes le e) in
    record { fault = h.fault; is = begin_fails limit line all h.fault (omega (arith, le, length-append bytes (45 ∷ []))) dash h.is item; later = h.later }
one_more_dash_is_a_fault limit line (object_lines item begin object) bytes le e dash =
    let all : List ℕ = bytes ++ 45 ∷ [] in
    let h = later_object limit begin line (length bytes) (first_line (drop line all)) (open_more line bytes le e) (longer line bytes le e) in
    record { fault = h.fault; is = object_fails limit begin line all item object h.fault (omega (arith, le, length-append bytes (45 ∷ []))) h.is; later = h.later }

-- ---- neither an item nor a fault is known

ends_empty : (line : ℕ) (bytes : List ℕ) → line ≡ length bytes → (first_line (drop line bytes)).ended ≡ false
ends_empty line bytes e = ap (λ (r : List ℕ). (first_line r).ended) (drop_all line bytes (omega (arith, e)))

all_empty : (line : ℕ) (bytes : List ℕ) → line ≡ length bytes → drop line (bytes ++ 45 ∷ []) ≡ 45 ∷ []
all_empty line bytes e = drop-append-le line bytes (45 ∷ []) (omega (arith, e)) ∙ ap (λ (r : List ℕ). r ++ 45 ∷ []) (drop_all line bytes (omega (arith, e)))

pub cut_open : (limit line : ℕ) (open_ : Open) (bytes : List ℕ) → IsCut limit line open_ bytes → (first_line (drop line bytes)).ended ≡ false
cut_open limit line nothing bytes cut = (cut_line limit line (drop line bytes) (at (length bytes) Unterminated) cut.fault refl).0
cut_open limit line (keyword_line item) bytes cut = (cut_line limit line (drop line bytes) (at (length bytes) Unterminated) cut.fault refl).0
cut_open limit line (object_lines item begin object) bytes cut = (cut_object limit begin line (drop line bytes) (at (length bytes) Unterminated) cut.fault refl).0

cut_dash : (limit line : ℕ) (open_ : Open) (bytes : List ℕ) → IsCut limit line open_ bytes → Dashes open_ (drop line (bytes ++ 45 ∷ []))
cut_dash limit line nothing bytes cut = tt
cut_dash limit line (keyword_line item) bytes cut = dash_more line bytes (45 ∷ []) cut.inside ∙ first_dash (drop line bytes) ∙ cut.object
cut_dash limit line (object_lines item begin object) bytes cut = tt

empty_dash : (line : ℕ) (open_ : Open) (bytes : List ℕ) → line ≡ length bytes → Dashes open_ (drop line (bytes ++ 45 ∷ []))
empty_dash line nothing bytes e = tt
empty_dash line (keyword_line item) bytes e = ap begins_dash (all_empty line bytes e)
empty_dash line (object_lines item begin object) bytes e = tt

-- one answer for both can't be
apart : (answer : Result (Option model.Item) DocFault) (now then_ : model.Contents) (n : ℕ) (fault : DocFault) → then_ ≡ failed_contents fault → IsLater n fault
    → ((other : DocFault) → first_of now ≡ Err other → other ≡ at n Unterminated) → first_of now ≡ answer → first_of then_ ≡ answer → ⊥
apart answer now then_ n fault is later only one two =
    let err : Err fault ≡ answer = sym (ap first_of is) ∙ two in
    later (only fault (one ∙ sym err))

only_item : (now : model.Contents) (item : model.Item) (n : ℕ) → first_of now ≡ Ok (Some item) → (other : DocFault) → first_of now ≡ Err other → other ≡ at n Unterminated
only_item now item n is other e = absurd cc

only_none : (now : model.Contents) (n : ℕ) → first_of now ≡ Ok None → (other : DocFault) → first_of now ≡ Err other → other ≡ at n Unterminated
only_none now n is other e = absurd cc

only_cut : (now : model.Contents) (n : ℕ) → first_of now ≡ Err (at n Unterminated) → (other : DocFault) → first_of now ≡ Err other → other ≡ at n Unterminated
only_cut now n is other e = cc

now_only : (limit line : ℕ) (open_ : Open) (bytes : List ℕ) → IsOver limit line open_ bytes
    → (other : DocFault) → first_of (from_place limit line open_ bytes) ≡ Err other → other ≡ at (length bytes) Unterminated
now_only limit line nothing bytes (inl e) = only_none (from_place limit line nothing bytes) (length bytes) (ap first_of (ends limit line nothing bytes (omega (arith, e))))
now_only limit line (keyword_line item) bytes (inl e) =
    only_item (from_place limit line (keyword_line item) bytes) item (length bytes) (ap first_of (ends limit line (keyword_line item) bytes (omega (arith, e))))
now_only limit line (object_lines item begin object) bytes (inl e) =
    only_cut (from_place limit line (object_lines item begin object) bytes) (length bytes)
    (ap first_of (ends limit line (object_lines item begin object) bytes (omega (arith, e)) ∙ ap (λ (n : ℕ). failed_contents (at n Unterminated)) e))
now_only limit line open_ bytes (inr cut) = only_cut (from_place limit line open_ bytes) (length bytes) (ap first_of (cut_now limit line open_ bytes cut))

pub more_of : (limit line : ℕ) (open_ : Open) (bytes : List ℕ) → IsOver limit line open_ bytes → OneMore limit line open_ bytes
more_of limit line open_ bytes (inl e) = one_more_dash_is_a_fault limit line open_ bytes (omega (arith, e)) (ends_empty line bytes e) (empty_dash line open_ bytes e)
more_of limit line open_ bytes (inr cut) = one_more_dash_is_a_fault limit line open_ bytes (omega (arith, cut.inside)) (cut_open limit line open_ bytes cut) (cut_dash limit line open_ bytes cut)

pub over_of : (limit line : ℕ) (open_ : Open) (bytes : List ℕ) (last : Option Item) → Ends limit bytes line open_ last → IsOver limit line open_ bytes
over_of limit line open_ bytes (Some item) h = inl h.0
over_of limit line open_ bytes None (inl h) = inl h.0
over_of limit line open_ bytes None (inr cut) = inr cut

-- with what has been read of the bytes no answer is known
pub not_settled : (limit place line : ℕ) (so_far open_ : Open) (bytes : List ℕ)
    → ((more : List ℕ) → from_place limit place so_far (bytes ++ more) ≡ from_place limit line open_ (bytes ++ more)) → IsOver limit line open_ bytes
    → (answer : Result (Option model.Item) DocFault) → ((more : List ℕ) → first_of (from_place limit place so_far (bytes ++ more)) ≡ answer) → ⊥
not_settled limit place line so_far open_ bytes same end_ answer settled =
    let more = more_of limit line open_ bytes end_ in
    apart answer (from_place limit line open_ bytes) (from_place limit line open_ (bytes ++ 45 ∷ [])) (length bytes) more.fault more.is more.later (now_only limit line open_ bytes end_)
    (ap (λ (l : List ℕ). first_of (from_place limit line open_ l)) (sym (append-nil bytes)) ∙ ap first_of (sym (same [])) ∙ settled [])
    (ap first_of (sym (same (45 ∷ []))) ∙ settled (45 ∷ []))
