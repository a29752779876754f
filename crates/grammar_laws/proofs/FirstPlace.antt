-- Where a text begins with a keyword, its first item begins there.
use Rattle.std.proofs.Common.{◌≡◌, ℕ, ◌+◌, Bool, true, false, List, [], ◌∷◌, Option, Some, None, Result, Ok, Err, refl}
use Rattle.std.{proofs.{Common.{sym, ap, subst, ◌∙◌, arith}, lemmas.Bool.Decides.nat_tests}, specs.Prelude.nat_lt}
use Rattle.std.specs.{Prelude.{◌==◌, ◌&&◌, if◌then◌else◌}, List.list_all}
use Rattle.item_terms.specs.declared.fault.{DocFault.DocFault, DocReason.TheVariants.{Keyword, ObjectTooLong}}
use Rattle.item_terms.specs.{Base64Text.is_body, Faults.{at, line_fault, max_object, object_line_fault}, Lines.Line}
use Rattle.item_terms.specs.{Lines.{lines, onto, size}, Words.{begin_words, first_is, is_blank, is_blank_line}}
use Rattle.item_terms.specs.{Words.{is_end_line, is_keyword_line, is_letter_or_digit}, Steps.{Item, Object, Open, Step}}
use Rattle.item_terms.specs.Steps.{begun_object, first_object_line, item_unless, keyword_item, keyword_line, nothing}
use Rattle.item_terms.specs.Steps.{object_lines, object_step, open_item, open_unless, read_line, starts_dash, step}
use Rattle.item_terms.specs.Steps.{step_unless}
use Rattle.grammar_laws.{specs.Moved.{Reads, with_whole}, proofs.MovedLines.{after_line, object_made}}

-- an item that begins at this place is open
abbrev BeginsAt : ℕ → Open → Type 0
BeginsAt p nothing = ⊥
BeginsAt p (keyword_line item) = item.place ≡ p
BeginsAt p (object_lines item begin object) = item.place ≡ p

-- it is open after a line, or whole
abbrev IsAt : ℕ → Option Item → Result Open DocFault → Type 0
IsAt p (Some item) next = item.place ≡ p
IsAt p None (Ok open_) = BeginsAt p open_
IsAt p None (Err fault) = Unit {0}

abbrev MadeAt : ℕ → Step → Type 0
MadeAt p made = IsAt p made.whole made.next

begun_at : (p : ℕ) (f : Option DocFault) (place : ℕ) (item : Item) (line : Line) (words : Option (List ℕ))
    → item.place ≡ p
    → IsAt p None (open_unless f (first_object_line place item line words))
begun_at p (Some f) place item line words is = tt
begun_at p None place item line None is = tt
begun_at p None place item line (Some words) is = by (nat_lt max_object (size line))
  where
    by : (t : Bool)
        → IsAt p None (if t then Err (at place ObjectTooLong) else Ok
        (object_lines item place (begun_object place line words)))
    by true = tt
    by false = is

object_at : (p : ℕ) (f : Option DocFault) (place : ℕ) (item : Item) (begin : ℕ) (object : Object) (line : Line)
    → item.place ≡ p
    → MadeAt p (step_unless f (object_step item begin object place line))
object_at p (Some f) place item begin object line is = tt
object_at p None place item begin object line is =
    by (starts_dash line) (is_end_line object.words line.text) (is_body object.text)
  where
    by : (dash end_ body : Bool) → MadeAt p (object_made line place item begin object dash end_ body)
    by true true true = is
    by true true false = tt
    by true false body = tt
    by false end_ body = is

step_at : (p limit place : ℕ) (open_ : Open) (line : Line) → BeginsAt p open_ → MadeAt p (step limit place open_ line)
step_at p limit place nothing line is = absurd is
step_at p limit place (keyword_line item) line is = by (starts_dash line)
  where
    by : (dash : Bool) → MadeAt p
        (after_line dash (open_unless (line_fault limit place line)
        (first_object_line place item line (begin_words line.text)))
        item (open_item (read_line limit place line)))
    by true = begun_at p (line_fault limit place line) place item line (begin_words line.text) is
    by false = is
step_at p limit place (object_lines item begin object) line is =
    object_at p (object_line_fault limit begin place line) place item begin object line is

-- the first of items begins at this place
abbrev FirstAt : ℕ → List Item → Type 0
FirstAt p [] = ⊥
FirstAt p (item ∷ items) = item.place ≡ p

-- what is open is the first of the items
open_at : (p limit place : ℕ) (open_ : Open) (ls : List Line) (items : List Item) → BeginsAt p open_
    → Reads limit place open_ ls items nothing → FirstAt p items
open_at p limit place open_ [] items at_ is = absurd (subst (BeginsAt p) is.1 at_)
open_at p limit place open_ (line ∷ rest) items at_ (whole, next, others, made, come, more) =
    subst (FirstAt p) (sym come)
    (by (λ at_. open_at p limit (place + size line) next rest others at_ more) whole
    (subst (MadeAt p) made (step_at p limit place open_ line at_)))
  where
    by : (BeginsAt p next → FirstAt p others) → (w : Option Item) → IsAt p w (Ok next) → FirstAt p (with_whole w others)
    by again (Some item) e = e
    by again None e = again e

-- ---- the first line

first_line : (limit place : ℕ) (line : Line) (next : Open) → is_blank_line line.text ≡ false
    → open_item (read_line limit place line) ≡ Ok next → BeginsAt place next
first_line limit place line next dark is =
    by (line_fault limit place line) (is_blank_line line.text) (is_keyword_line line.text) dark is
  where
    open_or : Result Open DocFault → Open
    open_or (Ok open_) = open_
    open_or (Err f) = nothing

    by : (f : Option DocFault) (blank key : Bool) → blank ≡ false
        → open_item (item_unless f (if blank then Ok None else if key then Ok (Some (keyword_item place line)) else Err
        (at place Keyword)))
        ≡ Ok next → BeginsAt place next
    by (Some f) blank key dark is = absurd (cc is)
    by None true key dark is = absurd (cc dark)
    by None false true dark is = subst (BeginsAt place) (ap open_or is) refl
    by None false false dark is = absurd (cc is)

letter_not_blank : (b : ℕ) → is_letter_or_digit b ≡ true → is_blank b ≡ false
letter_not_blank b e = grind (arith, nat_tests)

letter_no_end : (b : ℕ) → is_letter_or_digit b ≡ true → (b == 10) ≡ false
letter_no_end b e = grind (arith, nat_tests)

-- the first line of a text that begins with a letter or digit is not blank
not_blank : (text : List ℕ) → first_is is_letter_or_digit text ≡ true → (line : Line) (rest : List Line)
    → lines text ≡ line ∷ rest → is_blank_line line.text ≡ false
not_blank [] e line rest is = absurd (cc e)
not_blank (b ∷ text) e line rest is =
    by_lines (lines text)
    (sym (ap (λ (t : Bool). if t then record { text = []; ended = true } ∷ lines text else onto b (lines text))
    (letter_no_end b e)) ∙ is)
  where
    line_or : List Line → Line
    line_or [] = line
    line_or (l ∷ ls) = l

    begins_so : (more : List ℕ) → is_blank_line (b ∷ more) ≡ false
    begins_so more = ap (λ (t : Bool). t && list_all is_blank more) (letter_not_blank b e)

    by_lines : (ls : List Line) → onto b ls ≡ line ∷ rest → is_blank_line line.text ≡ false
    by_lines [] is = subst (λ (l : Line). is_blank_line l.text ≡ false) (ap line_or is) (begins_so [])
    by_lines (l ∷ ls) is = subst (λ (l : Line). is_blank_line l.text ≡ false) (ap line_or is) (begins_so l.text)

-- Where a text begins with a letter or digit, and its lines have no fault, its first item begins with it.
pub first_at : (limit place : ℕ) (text : List ℕ) (item : Item) (items : List Item)
    → first_is is_letter_or_digit text ≡ true
    → Reads limit place nothing (lines text) (item ∷ items) nothing → item.place ≡ place
first_at limit place text item items first is = by (lines text) (not_blank text first) is
  where
    by : (ls : List Line) → ((line : Line) (rest : List Line) → ls ≡ line ∷ rest → is_blank_line line.text ≡ false)
        → Reads limit place nothing ls (item ∷ items) nothing → item.place ≡ place
    by [] dark is = absurd (cc is.0)
    by (line ∷ rest) dark (whole, next, others, made, come, more) =
        let w : None ≡ whole = ap (λ (s : Step). s.whole) made in
        let n : open_item (read_line limit place line) ≡ Ok next = ap (λ (s : Step). s.next) made in
        let all : FirstAt place others =
        open_at place limit (place + size line) next rest others
        (first_line limit place line next (dark line rest refl) n) more in
        subst (FirstAt place) (sym (come ∙ ap (λ (o : Option Item). with_whole o others) (sym w))) all
