-- A line that has no fault further on has none nearer to the first byte.
use Rattle.std.proofs.Common.{◌≡◌, ℕ, ◌+◌, ◌-◌, ◌≤◌, min, Bool, true, false, List, Option, Some, None, Result, Ok, Err}
use Rattle.std.proofs.{Common.{refl, sym, ap, subst, ◌∙◌, arith}, lemmas.Bool.{le-leb, ltb-false, ltb-true}}
use Rattle.std.specs.Prelude.{nat_le, nat_lt, ◌&&◌, length, if◌then◌else◌}
use Rattle.item_terms.specs.declared.fault.{DocFault.DocFault, DocReason.TheVariants.{Keyword, ObjectTooLong}}
use Rattle.item_terms.specs.declared.fault.DocReason.TheVariants.{DocumentTooLong, LineTooLong, Unterminated}
use Rattle.item_terms.specs.{Base64Text.is_body, Faults.{at, line_fault, max_line, max_object, nul_fault}}
use Rattle.item_terms.specs.{Faults.{object_line_fault, or_else, too_long, unterminated_fault}, Lines.{Line, size}}
use Rattle.item_terms.specs.{Words.{begin_words, is_blank_line, is_end_line, is_keyword_line, nul_in}, Steps.Item}
use Rattle.item_terms.specs.Steps.{Object, Open, begun_object, first_object_line, item_unless, keyword_item}
use Rattle.item_terms.specs.Steps.{keyword_line, line_item, nothing, object_lines, object_step, open_item, open_unless}
use Rattle.item_terms.specs.Steps.{read_line, starts_dash, step, step_unless}
use Rattle.grammar_laws.{specs.Moved.{moved_item, moved_object, moved_open}, proofs.MovedFaults.{none_of, short}}
use Rattle.grammar_laws.proofs.MovedLines.{after_line, object_made}

-- ---- faults of a line

not_long : (limit place size_ : ℕ) → size_ ≤ min (limit - place) max_line → too_long limit place size_ ≡ None
not_long limit place size_ fits =
    ap (λ (t : Bool). if t then None else Some
    (if nat_le (limit - place) max_line then at limit DocumentTooLong else at (place + max_line) LineTooLong))
    (le-leb size_ (min (limit - place) max_line) fits)

ended_too : (place other : ℕ) (line : Line) → unterminated_fault place line ≡ None → unterminated_fault other line ≡ None
ended_too place other line is = by line.ended is
  where
    by : (t : Bool) → (if t then None else Some (at (place + length line.text) Unterminated)) ≡ None
        → (if t then None else Some (at (other + length line.text) Unterminated)) ≡ None
    by true is = refl
    by false is = absurd (cc is)

no_nul_too : (place other : ℕ) (found : Option ℕ) → nul_fault place found ≡ None → nul_fault other found ≡ None
no_nul_too place other None is = refl
no_nul_too place other (Some i) is = absurd (cc is)

-- it is no longer than the line and the document may be
pub line_fits : (limit place : ℕ) (line : Line) → line_fault limit place line ≡ None
    → size line ≤ min (limit - place) max_line
line_fits limit place line is =
    short limit place (size line)
    (none_of (too_long limit place (size line)) (or_else (unterminated_fault place line) (nul_fault place
    (nul_in line.text))) is).0

sound_back : (limit limit' place n : ℕ) (line : Line) → line_fault limit (place + n) line ≡ None
    → place + size line ≤ limit' → line_fault limit' place line ≡ None
sound_back limit limit' place n line is fits =
    let long = too_long limit (place + n) (size line) in
    let others = or_else (unterminated_fault (place + n) line) (nul_fault (place + n) (nul_in line.text)) in
    let p = none_of long others is in
    let q = none_of (unterminated_fault (place + n) line) (nul_fault (place + n) (nul_in line.text)) p.1 in
    let s = short limit (place + n) (size line) p.0 in
    let m : size line ≤ min (limit' - place) 1048576 = omega (arith, s, fits) in
    ap (λ (f : Option DocFault). or_else f
    (or_else (unterminated_fault place line) (nul_fault place (nul_in line.text))))
    (not_long limit' place (size line) m)
    ∙ ap (λ (f : Option DocFault). or_else f (nul_fault place (nul_in line.text)))
    (ended_too (place + n) place line q.0)
    ∙ no_nul_too (place + n) place (nul_in line.text) q.1

-- the same inside an object
object_sound_back : (limit limit' begin place n : ℕ) (line : Line)
    → object_line_fault limit (begin + n) (place + n) line ≡ None
    → place + size line ≤ limit' → object_line_fault limit' begin place line ≡ None
object_sound_back limit limit' begin place n line is fits =
    let room = max_object - (place + n - (begin + n)) in
    by (nat_lt room (min (limit - (place + n)) max_line)) (nat_lt room (size line)) refl refl is
  where
    never : (t : Bool) → (if t && false then Some (at begin ObjectTooLong) else line_fault limit' place line)
        ≡ line_fault limit' place line
    never true = refl
    never false = refl

    small : nat_lt (max_object - (place + n - (begin + n))) (size line) ≡ false
        → line_fault limit (place + n) line ≡ None
        → object_line_fault limit' begin place line ≡ None
    small eb is =
        let same : max_object - (place - begin) ≡ max_object - (place + n - (begin + n)) = omega arith in
        let big : nat_lt (max_object - (place - begin)) (size line) ≡ false =
        ap (λ (k : ℕ). nat_lt k (size line)) same ∙ eb in
        ap (λ (t : Bool). if nat_lt (max_object - (place - begin)) (min (limit' - place) max_line) && t
        then Some (at begin ObjectTooLong) else line_fault limit' place line) big
        ∙ never (nat_lt (max_object - (place - begin)) (min (limit' - place) max_line))
        ∙ sound_back limit limit' place n line is fits

    by : (a b : Bool) → nat_lt (max_object - (place + n - (begin + n))) (min (limit - (place + n)) max_line) ≡ a
        → nat_lt (max_object - (place + n - (begin + n))) (size line) ≡ b
        → (if a && b then Some (at (begin + n) ObjectTooLong) else line_fault limit (place + n) line) ≡ None
        → object_line_fault limit' begin place line ≡ None
    by true true ea eb is = absurd (cc is)
    by true false ea eb is = small eb is
    by false true ea eb is =
        let s = line_fits limit (place + n) line is in
        let over = ltb-true (max_object - (place + n - (begin + n))) (size line) eb in
        let under = ltb-false (max_object - (place + n - (begin + n))) (min (limit - (place + n)) max_line) ea in
        absurd (omega (arith, s, over, under))
    by false false ea eb is = small eb is

-- ---- a line that has no fault further on has none here

abbrev pub IsOpened : Result Open DocFault → Type 0
IsOpened (Ok open_) = Unit {0}
IsOpened (Err fault) = ⊥

pub opened : (read : Result Open DocFault) (next : Open) → read ≡ Ok next → IsOpened read
opened (Ok open_) next is = tt
opened (Err fault) next is = absurd (cc is)

line_opened : (place n : ℕ) (line : Line) → IsOpened (open_item (line_item (place + n) line))
    → IsOpened (open_item (line_item place line))
line_opened place n line is = by (is_blank_line line.text) (is_keyword_line line.text) is
  where
    by : (blank key : Bool)
        → IsOpened (open_item (if blank then Ok None else if key then Ok (Some (keyword_item
        (place + n) line)) else Err
        (at (place + n) Keyword)))
        → IsOpened (open_item (if blank then Ok None else if key then Ok (Some (keyword_item place line)) else Err
        (at place Keyword)))
    by true key is = tt
    by false true is = tt
    by false false is = absurd is

read_opened : (limit limit' place n : ℕ) (line : Line) → IsOpened (open_item (read_line limit (place + n) line))
    → place + size line ≤ limit' → IsOpened (open_item (read_line limit' place line))
read_opened limit limit' place n line is fits = by (line_fault limit (place + n) line) refl is
  where
    by : (f : Option DocFault) → line_fault limit (place + n) line ≡ f
        → IsOpened (open_item (item_unless f (line_item (place + n) line)))
        → IsOpened (open_item (read_line limit' place line))
    by (Some f) e is = absurd is
    by None e is =
        subst (λ (f : Option DocFault). IsOpened (open_item (item_unless f (line_item place line))))
        (sym (sound_back limit limit' place n line e fits)) (line_opened place n line is)

words_opened : (place n : ℕ) (item other : Item) (line : Line) (words : Option (List ℕ))
    → IsOpened (first_object_line (place + n) other line words) → IsOpened (first_object_line place item line words)
words_opened place n item other line None is = absurd is
words_opened place n item other line (Some words) is = by (nat_lt max_object (size line)) is
  where
    by : (t : Bool)
        → IsOpened (if t then Err (at (place + n) ObjectTooLong) else Ok
        (object_lines other (place + n) (begun_object (place + n) line words)))
        → IsOpened (if t then Err (at place ObjectTooLong) else Ok
        (object_lines item place (begun_object place line words)))
    by true is = absurd is
    by false is = tt

begun_opened : (limit limit' place n : ℕ) (item other : Item) (line : Line) (words : Option (List ℕ))
    → IsOpened (open_unless (line_fault limit (place + n) line) (first_object_line (place + n) other line words))
    → place + size line ≤ limit'
    → IsOpened (open_unless (line_fault limit' place line) (first_object_line place item line words))
begun_opened limit limit' place n item other line words is fits = by (line_fault limit (place + n) line) refl is
  where
    by : (f : Option DocFault) → line_fault limit (place + n) line ≡ f
        → IsOpened (open_unless f (first_object_line (place + n) other line words))
        → IsOpened (open_unless (line_fault limit' place line) (first_object_line place item line words))
    by (Some f) e is = absurd is
    by None e is =
        subst (λ (f : Option DocFault). IsOpened (open_unless f (first_object_line place item line words)))
        (sym (sound_back limit limit' place n line e fits)) (words_opened place n item other line words is)

object_opened : (place n : ℕ) (item : Item) (begin : ℕ) (object : Object) (line : Line)
    → IsOpened (object_step (moved_item n item) (begin + n) (moved_object n object) (place + n) line).next
    → IsOpened (object_step item begin object place line).next
object_opened place n item begin object line is =
    by (starts_dash line) (is_end_line object.words line.text) (is_body object.text) is
  where
    by : (dash end_ body : Bool)
        → IsOpened (object_made line (place + n) (moved_item n item) (begin + n)
        (moved_object n object) dash end_ body).next
        → IsOpened (object_made line place item begin object dash end_ body).next
    by true true true is = tt
    by true true false is = absurd is
    by true false body is = absurd is
    by false end_ body is = tt

object_line_opened : (limit limit' place n : ℕ) (item : Item) (begin : ℕ) (object : Object) (line : Line)
    → IsOpened (step_unless (object_line_fault limit (begin + n) (place + n) line)
    (object_step (moved_item n item) (begin + n) (moved_object n object) (place + n) line)).next
    → place + size line ≤ limit'
    → IsOpened (step_unless (object_line_fault limit' begin place line)
    (object_step item begin object place line)).next
object_line_opened limit limit' place n item begin object line is fits =
    by (object_line_fault limit (begin + n) (place + n) line) refl is
  where
    by : (f : Option DocFault) → object_line_fault limit (begin + n) (place + n) line ≡ f
        → IsOpened (step_unless f (object_step (moved_item n item) (begin + n) (moved_object n object)
        (place + n) line)).next
        → IsOpened (step_unless (object_line_fault limit' begin place line)
        (object_step item begin object place line)).next
    by (Some f) e is = absurd is
    by None e is =
        subst (λ (f : Option DocFault). IsOpened (step_unless f (object_step item begin object place line)).next)
        (sym (object_sound_back limit limit' begin place n line e fits))
        (object_opened place n item begin object line is)

pub step_opened : (limit limit' place n : ℕ) (open_ : Open) (line : Line)
    → IsOpened (step limit (place + n) (moved_open n open_) line).next → place + size line ≤ limit'
    → IsOpened (step limit' place open_ line).next
step_opened limit limit' place n nothing line is fits = read_opened limit limit' place n line is fits
step_opened limit limit' place n (keyword_line item) line is fits = by (starts_dash line) is
  where
    words : Option (List ℕ)
    words = begin_words line.text

    by : (dash : Bool)
        → IsOpened (after_line dash (open_unless (line_fault limit (place + n) line)
        (first_object_line (place + n) (moved_item n item) line words)) (moved_item n item)
        (open_item (read_line limit (place + n) line))).next
        → IsOpened (after_line dash (open_unless (line_fault limit' place line)
        (first_object_line place item line words)) item (open_item (read_line limit' place line))).next
    by true is = begun_opened limit limit' place n item (moved_item n item) line words is fits
    by false is = read_opened limit limit' place n line is fits
step_opened limit limit' place n (object_lines item begin object) line is fits =
    object_line_opened limit limit' place n item begin object line is fits
