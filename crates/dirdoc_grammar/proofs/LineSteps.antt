-- What the line at a place makes, from what was found of it.
use Rattle.std.proofs.Common.{◌≡◌, ℕ, ◌+◌, ◌-◌, ◌<◌, ◌≤◌, Bool, true, false, cond, eqb, List, [], ◌∷◌, ◌++◌, length}
use Rattle.std.proofs.Common.{take, drop, Option, Some, None, Result, Ok, Err, refl, sym, ap, subst, ◌∙◌, arith}
use Rattle.std.{proofs.lemmas.{Bool.eqb-true, List.{length-drop, length-append, drop-append-le}}, specs.Prelude.IfSome}
use Rattle.std.specs.Prelude.{nat_lt}
use Rattle.item_terms.specs.declared.fault.{DocFault.DocFault, DocReason.TheVariants.{Keyword, ObjectWords}}
use Rattle.item_terms.specs.{declared.fault.DocReason.TheVariants.{ObjectTooLong, Unterminated}, Lines.Line}
use Rattle.item_terms.specs.{Words.{begin_words, begins_dash, is_blank_line, is_keyword_line}, Faults.{line_fault, at}}
use Rattle.item_terms.specs.{Faults.max_object, Steps.{read_line, begun_object, keyword_item, Step, step, nothing}}
use Rattle.item_terms.specs.Steps.{keyword_line, object_lines, line_item, item_unless, open_item, starts_dash}
use Rattle.item_terms.specs.{Steps.{first_object_line, open_unless}, Items.{also, failed_contents}}
use Rattle.item_terms.specs.Items as model
use Rattle.dirdoc_grammar.specs.{declared.item.Item.Item, Reading.{first_line, from_place, Reads, BeginsObject}}
use Rattle.dirdoc_grammar.{specs.Seen.{seen_item, seen_if}, proofs.Fronts.{grows_at, ended_at, fault_stays, cut_line}}
use Rattle.dirdoc_grammar.proofs.FirstLine.{whole_rest, goes_on, fails, ends_inside, at_step, line_after, line_grows}

-- what is known of a line whose text was found
pub record Found (limit place : ℕ) (rest text : List ℕ) : Type 0 where
  pub line : first_line rest ≡ record { text = text; ended = true }
  pub sound : line_fault limit place (first_line rest) ≡ None

-- the same, as a function that was given `&bytes[place..]` says it
abbrev pub FoundIn : ℕ → ℕ → List ℕ → List ℕ → Type 0
FoundIn limit place rest text = (first_line rest ≡ record { text = text; ended = true }) × (line_fault limit place (first_line rest) ≡ None)

here : (limit place : ℕ) (bytes text : List ℕ) → FoundIn limit place (take (length bytes - place) (drop place bytes)) text → Found limit place (drop place bytes) text
here limit place bytes text h = subst (λ (r : List ℕ). Found limit place r text) (whole_rest place bytes) (record { line = h.0; sound = h.1 })

faulty_here : (limit place : ℕ) (bytes : List ℕ) (fault : DocFault) → line_fault limit place (first_line (take (length bytes - place) (drop place bytes))) ≡ Some fault → line_fault limit place (first_line (drop place bytes)) ≡ Some fault
faulty_here limit place bytes fault h = subst (λ (r : List ℕ). line_fault limit place (first_line r) ≡ Some fault) (whole_rest place bytes) h

-- ---- between items

pub line_fails : (limit place : ℕ) (bytes : List ℕ) (fault : DocFault) → place < length bytes
    → line_fault limit place (first_line (drop place bytes)) ≡ Some fault → from_place limit place nothing bytes ≡ failed_contents fault
line_fails limit place bytes fault inside e =
    fails limit place nothing bytes fault inside (ap (λ (f : Option DocFault). record { whole = None; next = open_item (item_unless f (line_item place (first_line (drop place bytes)))) }) e)

read_is : (limit place : ℕ) (bytes text : List ℕ) (read : Result (Option model.Item) DocFault) → Found limit place (drop place bytes) text → line_item place (record { text = text; ended = true }) ≡ read
    → step limit place nothing (first_line (drop place bytes)) ≡ record { whole = None; next = open_item read }
read_is limit place bytes text read found e =
    ap (λ (f : Option DocFault). record { whole = None; next = open_item (item_unless f (line_item place (first_line (drop place bytes)))) }) found.sound
    ∙ ap (λ (l : Line). record { whole = None; next = open_item (line_item place l) }) found.line
    ∙ ap (λ (r : Result (Option model.Item) DocFault). record { whole = None; next = open_item r }) e

no_keyword : (limit place : ℕ) (bytes text : List ℕ) (fault : DocFault) → place < length bytes → Found limit place (drop place bytes) text
    → line_item place (record { text = text; ended = true }) ≡ Err fault → from_place limit place nothing bytes ≡ failed_contents fault
no_keyword limit place bytes text fault inside found e = fails limit place nothing bytes fault inside (read_is limit place bytes text (Err fault) found e)

-- ---- the same where more bytes follow

pub inside_more : (place : ℕ) (bytes more : List ℕ) → place < length bytes → place < length (bytes ++ more)
inside_more place bytes more inside = omega (arith, inside, length-append bytes more)

pub found_more : (limit place : ℕ) (bytes more text : List ℕ) → place < length bytes → Found limit place (drop place bytes) text → Found limit place (drop place (bytes ++ more)) text
found_more limit place bytes more text inside found =
    let there = ended_at place bytes more text (omega arith) found.line in
    record { line = there; sound = ap (line_fault limit place) (there ∙ sym found.line) ∙ found.sound }

pub fault_more : (limit place : ℕ) (bytes more : List ℕ) (fault : DocFault) → place < length bytes → line_fault limit place (first_line (drop place bytes)) ≡ Some fault → (fault.reason ≡ Unterminated → ⊥)
    → line_fault limit place (first_line (drop place (bytes ++ more))) ≡ Some fault
fault_more limit place bytes more fault inside e sure = fault_stays limit place (first_line (drop place bytes)) (first_line (drop place (bytes ++ more))) fault (grows_at place bytes more (omega arith)) e sure

pub cut_here : (limit place : ℕ) (bytes : List ℕ) (fault : DocFault) → place < length bytes → line_fault limit place (first_line (drop place bytes)) ≡ Some fault → fault.reason ≡ Unterminated
    → line_fault limit place (first_line (drop place bytes)) ≡ Some (at (length bytes) Unterminated)
cut_here limit place bytes fault inside e is =
    let h = cut_line limit place (drop place bytes) fault e is in
    let n : place + length (drop place bytes) ≡ length bytes = omega (arith, length-drop place bytes, inside) in
    e ∙ ap (λ (f : DocFault). Some f) h.1 ∙ ap (λ (k : ℕ). Some (at k Unterminated)) n

-- a line between items that has a fault
pub line_stops : (limit place : ℕ) (bytes : List ℕ) (fault : DocFault) → place < length bytes
    → line_fault limit place (first_line (take (length bytes - place) (drop place bytes))) ≡ Some fault → Reads limit place bytes (Err fault)
line_stops limit place bytes fault inside h =
    let e = faulty_here limit place bytes fault h in
    record {
      settled = λ sure more. line_fails limit place (bytes ++ more) fault (inside_more place bytes more inside) (fault_more limit place bytes more fault inside e sure);
      cut = λ is. record { inside = inside; fault = cut_here limit place bytes fault inside e is; object = tt };
    }

keyword_reason : (blank is_kw : Bool) (item : model.Item) (fault : DocFault) (place : ℕ) → cond blank (Ok None) (cond is_kw (Ok (Some item)) (Err (at place Keyword))) ≡ Err fault → fault.reason ≡ Unterminated → ⊥
keyword_reason true is_kw item fault place e is = absurd cc
keyword_reason false true item fault place e is = absurd cc
keyword_reason false false item fault place e is = absurd cc

pub keyword_stops : (limit place : ℕ) (bytes text : List ℕ) (fault : DocFault) → place < length bytes → FoundIn limit place (take (length bytes - place) (drop place bytes)) text
    → line_item place (record { text = text; ended = true }) ≡ Err fault → Reads limit place bytes (Err fault)
keyword_stops limit place bytes text fault inside h e =
    let found = here limit place bytes text h in
    let line : Line = record { text = text; ended = true } in
    record {
      settled = λ sure more. no_keyword limit place (bytes ++ more) text fault (inside_more place bytes more inside) (found_more limit place bytes more text inside found) e;
      cut = λ is. absurd (keyword_reason (is_blank_line text) (is_keyword_line text) (keyword_item place line) fault place e is);
    }

pub reads_line : (limit place : ℕ) (bytes text : List ℕ) (item : Option Item) → place < length bytes → FoundIn limit place (take (length bytes - place) (drop place bytes)) text
    → line_item place (record { text = text; ended = true }) ≡ Ok (seen_if item) → IfSome item (λ i. i.after ≡ place + length text + 1) → Reads limit place bytes (Ok (item, place + length text + 1))
reads_line limit place bytes text None inside h e after =
    let found = here limit place bytes text h in (
      λ more.
          let there = found_more limit place bytes more text inside found in
          goes_on limit place nothing (bytes ++ more) text None nothing (inside_more place bytes more inside) there.line (read_is limit place (bytes ++ more) text (Ok None) there e),
      omega arith,
      ends_inside place bytes text inside found.line,
    )
reads_line limit place bytes text (Some i) inside h e after =
    let found = here limit place bytes text h in (
      λ more.
          let there = found_more limit place bytes more text inside found in
          goes_on limit place nothing (bytes ++ more) text None (keyword_line (seen_item i)) (inside_more place bytes more inside) there.line (read_is limit place (bytes ++ more) text (Ok (Some (seen_item i))) there e),
      omega arith,
      ends_inside place bytes text inside found.line,
      after,
    )

-- ---- the first line of an object

begins_first : (is_nl : Bool) (b : ℕ) (bytes : List ℕ) → is_nl ≡ eqb b 10 → begins_dash (line_after is_nl b bytes).text ≡ eqb b 45
begins_first true b bytes e = sym (ap (λ (x : ℕ). eqb x 45) (eqb-true b 10 (sym e)))
begins_first false b bytes e = ap (λ (l : Line). begins_dash l.text) (line_grows b bytes)

-- a text begins with '-' where its first line does
pub first_dash : (rest : List ℕ) → begins_dash rest ≡ starts_dash (first_line rest)
first_dash [] = refl
first_dash (b ∷ bytes) = sym (begins_first (eqb b 10) b bytes refl)

dash_first : (bytes : List ℕ) (place : ℕ) → begins_dash (drop place bytes) ≡ true → starts_dash (first_line (drop place bytes)) ≡ true
dash_first bytes place e = sym (first_dash (drop place bytes)) ∙ e

begun : (limit place : ℕ) (item : model.Item) (line : Line) → starts_dash line ≡ true → step limit place (keyword_line item) line ≡ record { whole = None; next = open_unless (line_fault limit place line) (first_object_line place item line (begin_words line.text)) }
begun limit place item line dash = ap (λ (b : Bool). cond b (record { whole = None; next = open_unless (line_fault limit place line) (first_object_line place item line (begin_words line.text)) }) (record { whole = Some item; next = open_item (read_line limit place line) })) dash

pub begin_fails : (limit place : ℕ) (bytes : List ℕ) (fault : DocFault) → place < length bytes → begins_dash (drop place bytes) ≡ true
    → line_fault limit place (first_line (drop place bytes)) ≡ Some fault → (item : model.Item) → from_place limit place (keyword_line item) bytes ≡ failed_contents fault
begin_fails limit place bytes fault inside dash e item =
    let line = first_line (drop place bytes) in
    fails limit place (keyword_line item) bytes fault inside (begun limit place item line (dash_first bytes place dash) ∙ ap (λ (f : Option DocFault). record { whole = None; next = open_unless f (first_object_line place item line (begin_words line.text)) }) e)

same_dash : (rest more : List ℕ) → 0 < length rest → begins_dash (rest ++ more) ≡ begins_dash rest
same_dash [] more some = absurd (omega arith)
same_dash (b ∷ rest) more some = refl

-- the first byte is the same where more bytes follow
pub dash_more : (place : ℕ) (bytes more : List ℕ) → place < length bytes → begins_dash (drop place (bytes ++ more)) ≡ begins_dash (drop place bytes)
dash_more place bytes more inside =
    ap begins_dash (drop-append-le place bytes more (omega arith)) ∙ same_dash (drop place bytes) more (omega (arith, length-drop place bytes, inside))

step_of_first_object_line : (limit place : ℕ) (bytes text : List ℕ) (words : Option (List ℕ)) (item : model.Item) → begins_dash (drop place bytes) ≡ true → Found limit place (drop place bytes) text → begin_words text ≡ words
    → step limit place (keyword_line item) (first_line (drop place bytes)) ≡ record { whole = None; next = first_object_line place item (record { text = text; ended = true }) words }
step_of_first_object_line limit place bytes text words item dash found e =
    let line = first_line (drop place bytes) in
    begun limit place item line (dash_first bytes place dash)
    ∙ ap (λ (f : Option DocFault). record { whole = None; next = open_unless f (first_object_line place item line (begin_words line.text)) }) found.sound
    ∙ ap (λ (l : Line). record { whole = None; next = first_object_line place item l (begin_words l.text) }) found.line
    ∙ ap (λ (w : Option (List ℕ)). record { whole = None; next = first_object_line place item (record { text = text; ended = true }) w }) e

no_words : (limit place : ℕ) (bytes text : List ℕ) → place < length bytes → begins_dash (drop place bytes) ≡ true → Found limit place (drop place bytes) text
    → begin_words text ≡ None → (item : model.Item) → from_place limit place (keyword_line item) bytes ≡ failed_contents (at place ObjectWords)
no_words limit place bytes text inside dash found e item = fails limit place (keyword_line item) bytes (at place ObjectWords) inside (step_of_first_object_line limit place bytes text None item dash found e)

begin_too_long : (limit place : ℕ) (bytes text words : List ℕ) → place < length bytes → begins_dash (drop place bytes) ≡ true → Found limit place (drop place bytes) text
    → begin_words text ≡ Some words → nat_lt max_object (length text + 1) ≡ true → (item : model.Item) → from_place limit place (keyword_line item) bytes ≡ failed_contents (at place ObjectTooLong)
begin_too_long limit place bytes text words inside dash found e long item =
    fails limit place (keyword_line item) bytes (at place ObjectTooLong) inside (step_of_first_object_line limit place bytes text (Some words) item dash found e
    ∙ ap (λ (b : Bool). record { whole = None; next = cond b (Err (at place ObjectTooLong)) (Ok (object_lines item place (begun_object place (record { text = text; ended = true }) words))) }) long)

object_begins : (limit place : ℕ) (bytes text words : List ℕ) → place < length bytes → begins_dash (drop place bytes) ≡ true → Found limit place (drop place bytes) text
    → begin_words text ≡ Some words → nat_lt max_object (length text + 1) ≡ false → (item : model.Item)
    → from_place limit place (keyword_line item) bytes ≡ from_place limit (place + length text + 1) (object_lines item place (record { words = words; start = place + length text + 1; text = [] })) bytes
object_begins limit place bytes text words inside dash found e short item =
    let line : Line = record { text = text; ended = true } in
    goes_on limit place (keyword_line item) bytes text None (object_lines item place (begun_object place line words)) inside found.line
    (step_of_first_object_line limit place bytes text (Some words) item dash found e ∙ ap (λ (b : Bool). record { whole = None; next = cond b (Err (at place ObjectTooLong)) (Ok (object_lines item place (begun_object place line words))) }) short)
    ∙ ap (λ (k : ℕ). from_place limit (place + length text + 1) (object_lines item place (record { words = words; start = k; text = [] })) bytes) (omega arith)

-- ---- the same where more bytes follow

pub begin_stops : (limit place : ℕ) (bytes : List ℕ) (fault : DocFault) → place < length bytes → begins_dash (drop place bytes) ≡ true
    → line_fault limit place (first_line (take (length bytes - place) (drop place bytes))) ≡ Some fault → BeginsObject limit place bytes (Err fault)
begin_stops limit place bytes fault inside dash h item =
    let e = faulty_here limit place bytes fault h in
    record {
      settled = λ sure more.
          begin_fails limit place (bytes ++ more) fault (inside_more place bytes more inside) (dash_more place bytes more inside ∙ dash) (fault_more limit place bytes more fault inside e sure) item;
      cut = λ is. record { inside = inside; fault = cut_here limit place bytes fault inside e is; object = dash_first bytes place dash };
    }

pub words_stop : (limit place : ℕ) (bytes text : List ℕ) → place < length bytes → begins_dash (drop place bytes) ≡ true → FoundIn limit place (take (length bytes - place) (drop place bytes)) text
    → begin_words text ≡ None → BeginsObject limit place bytes (Err (at place ObjectWords))
words_stop limit place bytes text inside dash h e item =
    let found = here limit place bytes text h in
    record {
      settled = λ sure more.
          no_words limit place (bytes ++ more) text (inside_more place bytes more inside) (dash_more place bytes more inside ∙ dash) (found_more limit place bytes more text inside found) e item;
      cut = λ is. absurd cc;
    }

pub long_stops : (limit place : ℕ) (bytes text words : List ℕ) → place < length bytes → begins_dash (drop place bytes) ≡ true → FoundIn limit place (take (length bytes - place) (drop place bytes)) text
    → begin_words text ≡ Some words → nat_lt max_object (length text + 1) ≡ true → BeginsObject limit place bytes (Err (at place ObjectTooLong))
long_stops limit place bytes text words inside dash h e long item =
    let found = here limit place bytes text h in
    record {
      settled = λ sure more.
          begin_too_long limit place (bytes ++ more) text words (inside_more place bytes more inside) (dash_more place bytes more inside ∙ dash) (found_more limit place bytes more text inside found) e long item;
      cut = λ is. absurd cc;
    }

pub begins_object : (limit place : ℕ) (bytes text words : List ℕ) → place < length bytes → begins_dash (drop place bytes) ≡ true → FoundIn limit place (take (length bytes - place) (drop place bytes)) text
    → begin_words text ≡ Some words → nat_lt max_object (length text + 1) ≡ false
    → ((item : model.Item) (more : List ℕ) → from_place limit place (keyword_line item) (bytes ++ more)
    ≡ from_place limit (place + length text + 1) (object_lines item place (record { words = words; start = place + length text + 1; text = [] })) (bytes ++ more))
    × (place < place + length text + 1) × (place + length text + 1 ≤ length bytes)
begins_object limit place bytes text words inside dash h e short =
    let found = here limit place bytes text h in (
      λ item more. object_begins limit place (bytes ++ more) text words (inside_more place bytes more inside) (dash_more place bytes more inside ∙ dash) (found_more limit place bytes more text inside found) e short item,
      omega arith,
      ends_inside place bytes text inside found.line,
    )

-- where another byte than '-' follows a keyword line, its item is whole
pub no_object : (limit place : ℕ) (bytes more : List ℕ) (item : model.Item) → place < length bytes → begins_dash (drop place bytes) ≡ false
    → from_place limit place (keyword_line item) (bytes ++ more) ≡ also (Some item) (from_place limit place nothing (bytes ++ more))
no_object limit place bytes more item inside dash =
    let all : List ℕ = bytes ++ more in
    let lt = inside_more place bytes more inside in
    let line = first_line (drop place all) in
    let made : Step = record { whole = Some item; next = open_item (read_line limit place line) } in
    let other : Step = record { whole = None; next = open_item (read_line limit place line) } in
    let begun_ : Step = record { whole = None; next = open_unless (line_fault limit place line) (first_object_line place item line (begin_words line.text)) } in
    at_step limit place (keyword_line item) all made lt (ap (λ (b : Bool). cond b begun_ made) (sym (first_dash (drop place all)) ∙ dash_more place bytes more inside ∙ dash))
    ∙ ap (λ (c : model.Contents). also (Some item) c) (sym (at_step limit place nothing all other lt refl))
