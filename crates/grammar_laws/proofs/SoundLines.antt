-- Lines without a fault end with their NL, within the limit, and so do the items that they make.
use Rattle.std.proofs.Common.{◌≡◌, ℕ, ◌+◌, ◌-◌, ◌≤◌, min, Bool, true, false, List, [], ◌∷◌, length, Option, Some, None}
use Rattle.std.{proofs.Common.{Result, Ok, Err, refl, sym, ap, subst, arith}, specs.Prelude.{nat_lt, ◌&&◌, ◌==◌}}
use Rattle.std.specs.{Prelude.if◌then◌else◌, List.AllByRecursion}
use Rattle.item_terms.specs.declared.fault.{DocFault.DocFault, DocReason.TheVariants.{ObjectTooLong, Unterminated}}
use Rattle.item_terms.specs.{declared.fault.DocReason.TheVariants.Keyword, Base64Text.is_body, Faults.{at, line_fault}}
use Rattle.item_terms.specs.Faults.{max_line, max_object, nul_fault, object_line_fault, or_else, too_long}
use Rattle.item_terms.specs.{Faults.unterminated_fault, Lines.{Line, lines, onto, size}, Words.begin_words}
use Rattle.item_terms.specs.{Words.{is_blank_line, is_end_line, is_keyword_line, nul_in}, Steps.{Item, Object, Open}}
use Rattle.item_terms.specs.Steps.{Step, first_object_line, begun_object, item_unless, keyword_item, keyword_line}
use Rattle.item_terms.specs.Steps.{line_item, nothing, object_lines, object_step, open_item, open_unless, read_line}
use Rattle.item_terms.specs.Steps.{starts_dash, step, step_unless}
use Rattle.grammar_laws.{specs.Moved.{Reads, sizes, with_whole}, proofs.{LinesTogether.AllEnded, LastLines.AllSome}}
use Rattle.grammar_laws.proofs.{MovedFaults.{none_of, short}, MovedLines.{not_faulty, object_made, after_line}}

read_sound : (limit place : ℕ) (line : Line) (next : Open) → open_item (read_line limit place line) ≡ Ok next
    → line_fault limit place line ≡ None
read_sound limit place line next is = by (line_fault limit place line) is
  where
    by : (f : Option DocFault) → open_item (item_unless f (line_item place line)) ≡ Ok next → f ≡ None
    by (Some f) is = absurd (cc is)
    by None is = refl

begun_sound : (f : Option DocFault) (other : Result Open DocFault) (next : Open) → open_unless f other ≡ Ok next
    → f ≡ None
begun_sound (Some f) other next is = absurd (cc is)
begun_sound None other next is = refl

inside_sound : (limit begin place : ℕ) (line : Line) → object_line_fault limit begin place line ≡ None
    → line_fault limit place line ≡ None
inside_sound limit begin place line is =
    by (nat_lt (max_object - (place - begin)) (min (limit - place) max_line) && nat_lt (max_object - (place - begin))
    (size line)) is
  where
    by : (t : Bool) → (if t then Some (at begin ObjectTooLong) else line_fault limit place line) ≡ None
        → line_fault limit place line ≡ None
    by true is = absurd (cc is)
    by false is = is

object_sound : (f : Option DocFault) (made : Step) (whole : Option Item) (next : Open)
    → step_unless f made ≡ record { whole = whole; next = Ok next } → f ≡ None
object_sound (Some f) made whole next is = absurd (not_faulty f next (step_unless (Some f) made) whole refl is)
object_sound None made whole next is = refl

pub step_sound : (limit place : ℕ) (open_ : Open) (line : Line) (whole : Option Item) (next : Open)
    → step limit place open_ line ≡ record { whole = whole; next = Ok next } → line_fault limit place line ≡ None
step_sound limit place nothing line whole next is =
    let r : open_item (read_line limit place line) ≡ Ok next = ap (λ (s : Step). s.next) is in
    read_sound limit place line next r
step_sound limit place (keyword_line item) line whole next is = by (starts_dash line) is
  where
    by : (dash : Bool)
        → after_line dash (open_unless (line_fault limit place line)
        (first_object_line place item line (begin_words line.text))) item (open_item (read_line limit place line))
        ≡ record { whole = whole; next = Ok next } → line_fault limit place line ≡ None
    by true is =
        let r : open_unless (line_fault limit place line) (first_object_line place item line (begin_words line.text))
        ≡ Ok next = ap (λ (s : Step). s.next) is in
        begun_sound (line_fault limit place line) (first_object_line place item line (begin_words line.text)) next r
    by false is =
        let r : open_item (read_line limit place line) ≡ Ok next = ap (λ (s : Step). s.next) is in
        read_sound limit place line next r
step_sound limit place (object_lines item begin object) line whole next is =
    inside_sound limit begin place line
    (object_sound (object_line_fault limit begin place line)
    (object_step item begin object place line) whole next is)

-- a line without a fault ends with its NL, and within the limit
pub has_end : (limit place : ℕ) (line : Line) → line_fault limit place line ≡ None → line.ended ≡ true
has_end limit place line is =
    let others = or_else (unterminated_fault place line) (nul_fault place (nul_in line.text)) in
    by line.ended (none_of (unterminated_fault place line) (nul_fault place (nul_in line.text))
    (none_of (too_long limit place (size line)) others is).1).0
  where
    by : (t : Bool) → (if t then None else Some (at (place + length line.text) Unterminated)) ≡ None → t ≡ true
    by true is = refl
    by false is = absurd (cc is)

pub ends_all : (limit place : ℕ) (open_ : Open) (ls : List Line) (items : List Item) (last : Open)
    → Reads limit place open_ ls items last → AllEnded ls
ends_all limit place open_ [] items last is = tt
ends_all limit place open_ (line ∷ rest) items last (whole, next, others, made, come, more) = (
  has_end limit place line (step_sound limit place open_ line whole next made),
  ends_all limit
      (place + size line) next rest others last more,
)

-- where there are lines, all of them are within the limit
pub within_all : (limit place : ℕ) (open_ : Open) (ls : List Line) (items : List Item) (last : Open)
    → Reads limit place open_ ls items last
    → place ≤ limit → place + sizes ls ≤ limit
within_all limit place open_ [] items last is fits = omega (arith, fits)
within_all limit place open_ (line ∷ rest) items last (whole, next, others, made, come, more) fits =
    let sound = step_sound limit place open_ line whole next made in
    let s =
    short limit place (size line) (none_of (too_long limit place (size line))
    (or_else (unterminated_fault place line) (nul_fault place (nul_in line.text))) sound).0 in
    let here : place + size line ≤ limit = omega (arith, s, fits) in
    let all = within_all limit (place + size line) next rest others last more here in
    omega (arith, all)

-- each line of a text has a byte
pub some_lines : (text : List ℕ) → AllSome (lines text)
some_lines [] = tt
some_lines (b ∷ text) = by (b == 10) (some_lines text)
  where
    grown : (ls : List Line) → AllSome ls → AllSome (onto b ls)
    grown [] all = (omega arith, tt)
    grown (line ∷ ls) all = (omega arith, all.1)

    by : (nl : Bool) → AllSome (lines text)
        → AllSome (if nl then record { text = []; ended = true } ∷ lines text else onto b (lines text))
    by true all = (omega arith, all)
    by false all = grown (lines text) all

-- ---- where items end

abbrev IsBefore : ℕ → Open → Type 0
IsBefore place nothing = Unit {0}
IsBefore place (keyword_line item) = item.after ≤ place
IsBefore place (object_lines item begin object) = Unit {0}

abbrev IsBeforeNext : ℕ → Result Open DocFault → Type 0
IsBeforeNext place (Ok open_) = IsBefore place open_
IsBeforeNext place (Err f) = Unit {0}

abbrev EndsBy : ℕ → Option Item → Type 0
EndsBy place None = Unit {0}
EndsBy place (Some item) = item.after ≤ place

record IsNot (place : ℕ) (made : Step) : Type 0 where
  open_ : IsBeforeNext place made.next
  whole : EndsBy place made.whole

read_before : (f : Option DocFault) (place : ℕ) (line : Line)
    → IsBeforeNext (place + size line) (open_item (item_unless f (line_item place line)))
read_before (Some f) place line = tt
read_before None place line = by (is_blank_line line.text) (is_keyword_line line.text)
  where
    by : (blank key : Bool) → IsBeforeNext (place + size line)
        (open_item (if blank then Ok None else if key then Ok (Some (keyword_item place line)) else Err
        (at place Keyword)))
    by true key = tt
    by false true = omega arith
    by false false = tt

begun_before : (f : Option DocFault) (end place : ℕ) (item : Item) (line : Line) (words : Option (List ℕ))
    → IsBeforeNext end (open_unless f (first_object_line place item line words))
begun_before (Some f) end place item line words = tt
begun_before None end place item line None = tt
begun_before None end place item line (Some words) = by (nat_lt max_object (size line))
  where
    by : (t : Bool) → IsBeforeNext end
        (if t then Err (at place ObjectTooLong) else Ok (object_lines item place (begun_object place line words)))
    by true = tt
    by false = tt

object_before : (f : Option DocFault) (place : ℕ) (item : Item) (begin : ℕ) (object : Object) (line : Line)
    → IsNot (place + size line) (step_unless f (object_step item begin object place line))
object_before (Some f) place item begin object line = record { open_ = tt; whole = tt }
object_before None place item begin object line =
    by (starts_dash line) (is_end_line object.words line.text) (is_body object.text)
  where
    by : (dash end_ body : Bool) → IsNot (place + size line) (object_made line place item begin object dash end_ body)
    by true true true = record { open_ = tt; whole = omega arith }
    by true true false = record { open_ = tt; whole = tt }
    by true false body = record { open_ = tt; whole = tt }
    by false end_ body = record { open_ = tt; whole = tt }

step_before : (limit place : ℕ) (open_ : Open) (line : Line) → IsBefore place open_
    → IsNot (place + size line) (step limit place open_ line)
step_before limit place nothing line before = record {
  open_ = read_before
      (line_fault limit place line) place line;
  whole = tt;
}
step_before limit place (keyword_line item) line before = by (starts_dash line)
  where
    by : (dash : Bool) → IsNot (place + size line)
        (after_line dash (open_unless (line_fault limit place line)
        (first_object_line place item line (begin_words line.text))) item (open_item (read_line limit place line)))
    by true = record {
      open_ = begun_before (line_fault limit place line) (place + size line) place item line
          (begin_words line.text);
      whole = tt;
    }
    by false = record { open_ = read_before (line_fault limit place line) place line; whole = omega (arith, before) }
step_before limit place (object_lines item begin object) line before =
    object_before (object_line_fault limit begin place line) place item begin object line

pub items_within : (limit place : ℕ) (open_ : Open) (ls : List Line) (items : List Item) (last : Open) (end : ℕ)
    → Reads limit place open_ ls items last
    → IsBefore place open_ → place + sizes ls ≤ end → AllByRecursion (λ (item : Item). item.after ≤ end) items
items_within limit place open_ [] items last end is before fits =
    subst (AllByRecursion (λ (item : Item). item.after ≤ end)) (sym is.0) tt
items_within limit place open_ (line ∷ rest) items last end (whole, next, others, made, come, more) before fits =
    let not_ = subst (IsNot (place + size line)) made (step_before limit place open_ line before) in
    let all = items_within limit (place + size line) next rest others last end more not_.open_ (omega (arith, fits)) in
    subst (AllByRecursion (λ (item : Item). item.after ≤ end)) (sym come) (by whole not_.whole all)
  where
    by : (w : Option Item) → EndsBy (place + size line) w → AllByRecursion (λ (item : Item). item.after ≤ end) others
        → AllByRecursion (λ (item : Item). item.after ≤ end) (with_whole w others)
    by None e all = all
    by (Some item) e all = (omega (arith, e, fits), all)
