-- A document whose first byte stands so many places later holds the same items, as many places later.
use Rattle.std.proofs.Common.{◌≡◌, ℕ, ◌+◌, ◌-◌, Bool, true, false, cond, List, [], ◌∷◌, length, Option, Some, None}
use Rattle.std.{proofs.Common.{Result, Ok, Err, refl, ap, ◌∙◌, arith}, specs.Prelude.{min, nat_lt, nat_le, ◌&&◌}}
use Rattle.std.specs.List.{prefix_len}
use Rattle.item_terms.specs.declared.fault.DocReason.TheVariants.{Keyword, Nul, Unterminated, LineTooLong}
use Rattle.item_terms.specs.declared.fault.DocReason.TheVariants.{DocumentTooLong, ObjectTooLong, ObjectBase64}
use Rattle.item_terms.specs.{declared.fault.{DocReason.TheVariants.ObjectEnd, DocFault.DocFault}, Lines.{Line, lines}}
use Rattle.item_terms.specs.{Lines.size, Words.{nul_in, is_blank, is_blank_line, is_keyword_line, keyword, keyword_len}}
use Rattle.item_terms.specs.{Words.{after_keyword, separator, arguments, begin_words, is_end_line}, Base64Text.is_body}
use Rattle.item_terms.specs.Faults.{at, or_else, too_long, unterminated_fault, nul_fault, line_fault, object_line_fault}
use Rattle.item_terms.specs.{Faults.{max_line, max_object}, Steps.{Item, Open, Step, Object, step, nothing}}
use Rattle.item_terms.specs.Steps.{keyword_line, object_lines, keyword_item, with_line, open_item, item_unless}
use Rattle.item_terms.specs.Steps.{open_unless, step_unless, object_step, line_item, read_line, starts_dash}
use Rattle.item_terms.specs.{Steps.{first_object_line, with_object}, Items.{Contents, contents, contents_of, also}}
use Rattle.item_terms.specs.Items.{proceed, at_end}
use Rattle.item_feeder.specs.Moving.{moved_object, moved_item, moved_if, moved_fault, moved_fault_if, moved_open}
use Rattle.item_feeder.specs.Moving.{moved_next, moved_step, moved_contents}

-- ---- faults of a line

abbrev long_fault : ℕ → ℕ → ℕ → ℕ → Option DocFault
long_fault room a b n = cond (nat_le n (min room max_line)) None (Some (cond (nat_le room max_line) (at a DocumentTooLong) (at b LineTooLong)))

long_by : (fits near : Bool) (k a b : ℕ) → cond fits None (Some (cond near (at (k + a) DocumentTooLong) (at (k + b) LineTooLong))) ≡ moved_fault_if k (cond fits None (Some (cond near (at a DocumentTooLong) (at b LineTooLong))))
long_by true near k a b = refl
long_by false true k a b = refl
long_by false false k a b = refl

long_moved : (k limit place n : ℕ) → too_long (k + limit) (k + place) n ≡ moved_fault_if k (too_long limit place n)
long_moved k limit place n =
    let room : (k + limit) - (k + place) ≡ limit - place = omega arith in
    let far : (k + place) + max_line ≡ k + (place + max_line) = omega arith in
    ap (λ (r : ℕ). long_fault r (k + limit) ((k + place) + max_line) n) room
    ∙ ap (λ (b : ℕ). long_fault (limit - place) (k + limit) b n) far
    ∙ long_by (nat_le n (min (limit - place) max_line)) (nat_le (limit - place) max_line) k limit (place + max_line)

either_moved : (k : ℕ) (one other : Option DocFault) → or_else (moved_fault_if k one) (moved_fault_if k other) ≡ moved_fault_if k (or_else one other)
either_moved k None other = refl
either_moved k (Some fault) other = refl

ended_moved : (ended : Bool) (k place n : ℕ) → cond ended None (Some (at ((k + place) + n) Unterminated)) ≡ moved_fault_if k (cond ended None (Some (at (place + n) Unterminated)))
ended_moved true k place n = refl
ended_moved false k place n = ap (λ (m : ℕ). Some (at m Unterminated)) (omega arith)

nul_moved : (k place : ℕ) (nul : Option ℕ) → nul_fault (k + place) nul ≡ moved_fault_if k (nul_fault place nul)
nul_moved k place None = refl
nul_moved k place (Some i) = ap (λ (m : ℕ). Some (at m Nul)) (omega arith)

line_fault_moved : (k limit place : ℕ) (line : Line) → line_fault (k + limit) (k + place) line ≡ moved_fault_if k (line_fault limit place line)
line_fault_moved k limit place line =
    let long = too_long limit place (size line) in
    let open_ = unterminated_fault place line in
    let nul = nul_fault place (nul_in line.text) in
    ap (λ (f : Option DocFault). or_else f (or_else (unterminated_fault (k + place) line) (nul_fault (k + place) (nul_in line.text)))) (long_moved k limit place (size line))
    ∙ ap (λ (f : Option DocFault). or_else (moved_fault_if k long) (or_else f (nul_fault (k + place) (nul_in line.text)))) (ended_moved line.ended k place (length line.text))
    ∙ ap (λ (f : Option DocFault). or_else (moved_fault_if k long) (or_else (moved_fault_if k open_) f)) (nul_moved k place (nul_in line.text))
    ∙ ap (λ (f : Option DocFault). or_else (moved_fault_if k long) f) (either_moved k open_ nul)
    ∙ either_moved k long (or_else open_ nul)

abbrev inside_fault : ℕ → ℕ → ℕ → ℕ → Option DocFault → Option DocFault
inside_fault room far begin n other = cond (nat_lt room (min far max_line) && nat_lt room n) (Some (at begin ObjectTooLong)) other

inside_by : (over : Bool) (k begin : ℕ) (other : Option DocFault) → cond over (Some (at (k + begin) ObjectTooLong)) (moved_fault_if k other) ≡ moved_fault_if k (cond over (Some (at begin ObjectTooLong)) other)
inside_by true k begin other = refl
inside_by false k begin other = refl

object_fault_moved : (k limit begin place : ℕ) (line : Line) → object_line_fault (k + limit) (k + begin) (k + place) line ≡ moved_fault_if k (object_line_fault limit begin place line)
object_fault_moved k limit begin place line =
    let off : max_object - ((k + place) - (k + begin)) ≡ max_object - (place - begin) = omega arith in
    let far : (k + limit) - (k + place) ≡ limit - place = omega arith in
    let room = max_object - (place - begin) in
    ap (λ (r : ℕ). inside_fault r ((k + limit) - (k + place)) (k + begin) (size line) (line_fault (k + limit) (k + place) line)) off
    ∙ ap (λ (f : ℕ). inside_fault room f (k + begin) (size line) (line_fault (k + limit) (k + place) line)) far
    ∙ ap (λ (o : Option DocFault). inside_fault room (limit - place) (k + begin) (size line) o) (line_fault_moved k limit place line)
    ∙ inside_by (nat_lt room (min (limit - place) max_line) && nat_lt room (size line)) k begin (line_fault limit place line)

-- ---- a line between items

abbrev item_at : List ℕ → ℕ → ℕ → ℕ → Item
item_at text start end_ place = record {
  keyword = keyword text;
  separator = separator text;
  arguments = arguments text;
  start = start;
  line_end = end_;
  object = None;
  place = place;
  after = end_;
}

keyword_moved : (k place : ℕ) (line : Line) → keyword_item (k + place) line ≡ moved_item k (keyword_item place line)
keyword_moved k place line =
    let n = keyword_len line.text + prefix_len is_blank (after_keyword line.text) in
    let start : (k + place) + n ≡ k + (place + n) = omega arith in
    let end_ : (k + place) + size line ≡ k + (place + size line) = omega arith in
    ap (λ (s : ℕ). item_at line.text s ((k + place) + size line) (k + place)) start ∙ ap (λ (e : ℕ). item_at line.text (k + (place + n)) e (k + place)) end_

abbrev moved_read : ℕ → Result (Option Item) DocFault → Result (Option Item) DocFault
moved_read k (Ok item) = Ok (moved_if k item)
moved_read k (Err fault) = Err (moved_fault k fault)

kinds_moved : (blank is_kw : Bool) (k : ℕ) (item : Item) (fault : DocFault) → cond blank (Ok None) (cond is_kw (Ok (Some (moved_item k item))) (Err (moved_fault k fault))) ≡ moved_read k (cond blank (Ok None) (cond is_kw (Ok (Some item)) (Err fault)))
kinds_moved true is_kw k item fault = refl
kinds_moved false true k item fault = refl
kinds_moved false false k item fault = refl

item_moved : (k place : ℕ) (line : Line) → line_item (k + place) line ≡ moved_read k (line_item place line)
item_moved k place line =
    ap (λ (i : Item). cond (is_blank_line line.text) (Ok None) (cond (is_keyword_line line.text) (Ok (Some i)) (Err (at (k + place) Keyword)))) (keyword_moved k place line)
    ∙ kinds_moved (is_blank_line line.text) (is_keyword_line line.text) k (keyword_item place line) (at place Keyword)

unless_moved : (k : ℕ) (fault : Option DocFault) (read : Result (Option Item) DocFault) → item_unless (moved_fault_if k fault) (moved_read k read) ≡ moved_read k (item_unless fault read)
unless_moved k None read = refl
unless_moved k (Some fault) read = refl

read_moved : (k limit place : ℕ) (line : Line) → read_line (k + limit) (k + place) line ≡ moved_read k (read_line limit place line)
read_moved k limit place line =
    ap (λ (f : Option DocFault). item_unless f (line_item (k + place) line)) (line_fault_moved k limit place line)
    ∙ ap (λ (r : Result (Option Item) DocFault). item_unless (moved_fault_if k (line_fault limit place line)) r) (item_moved k place line)
    ∙ unless_moved k (line_fault limit place line) (line_item place line)

open_moved : (k : ℕ) (read : Result (Option Item) DocFault) → open_item (moved_read k read) ≡ moved_next k (open_item read)
open_moved k (Err fault) = refl
open_moved k (Ok None) = refl
open_moved k (Ok (Some item)) = refl

between_moved : (k limit place : ℕ) (line : Line) → open_item (read_line (k + limit) (k + place) line) ≡ moved_next k (open_item (read_line limit place line))
between_moved k limit place line = ap open_item (read_moved k limit place line) ∙ open_moved k (read_line limit place line)

-- ---- a line of an object

begun_by : (long : Bool) (k place after : ℕ) (item : Item) (words : List ℕ) (n : ℕ) → n ≡ k + after
    → cond long (Err (at (k + place) ObjectTooLong)) (Ok (object_lines (moved_item k item) (k + place) (record { words = words; start = n; text = [] })))
    ≡ moved_next k (cond long (Err (at place ObjectTooLong)) (Ok (object_lines item place (record { words = words; start = after; text = [] }))))
begun_by true k place after item words n e = refl
begun_by false k place after item words n e = ap (λ (m : ℕ). Ok (object_lines (moved_item k item) (k + place) (record { words = words; start = m; text = [] }))) e

begin_moved : (k place : ℕ) (item : Item) (line : Line) (words : Option (List ℕ)) → first_object_line (k + place) (moved_item k item) line words ≡ moved_next k (first_object_line place item line words)
begin_moved k place item line None = refl
begin_moved k place item line (Some words) = begun_by (nat_lt max_object (size line)) k place (place + size line) item words ((k + place) + size line) (omega arith)

open_unless_moved : (k : ℕ) (fault : Option DocFault) (next : Result Open DocFault) → open_unless (moved_fault_if k fault) (moved_next k next) ≡ moved_next k (open_unless fault next)
open_unless_moved k None next = refl
open_unless_moved k (Some fault) next = refl

ends_by : (dash end_ body : Bool) (k begin place : ℕ) (whole moved_whole : Item) (open_ : Open) → moved_whole ≡ moved_item k whole
    → cond dash (cond end_ (cond body (record { whole = Some moved_whole; next = Ok nothing }) (record { whole = None; next = Err (at (k + begin) ObjectBase64) })) (record { whole = None; next = Err (at (k + place) ObjectEnd) })) (record { whole = None; next = Ok (moved_open k open_) })
    ≡ moved_step k (cond dash (cond end_ (cond body (record { whole = Some whole; next = Ok nothing }) (record { whole = None; next = Err (at begin ObjectBase64) })) (record { whole = None; next = Err (at place ObjectEnd) })) (record { whole = None; next = Ok open_ }))
ends_by true true true k begin place whole moved_whole open_ e = ap (λ (w : Item). record { whole = Some w; next = Ok nothing }) e
ends_by true true false k begin place whole moved_whole open_ e = refl
ends_by true false body k begin place whole moved_whole open_ e = refl
ends_by false end_ body k begin place whole moved_whole open_ e = refl

object_moved : (k begin place : ℕ) (item : Item) (object : Object) (line : Line) → object_step (moved_item k item) (k + begin) (moved_object k object) (k + place) line ≡ moved_step k (object_step item begin object place line)
object_moved k begin place item object line =
    let after : (k + place) + size line ≡ k + (place + size line) = omega arith in
    ends_by (starts_dash line) (is_end_line object.words line.text) (is_body object.text) k begin place (with_object item object (place + size line)) (with_object (moved_item k item) (moved_object k object) ((k + place) + size line))
    (object_lines item begin (with_line object line.text)) (ap (λ (n : ℕ). with_object (moved_item k item) (moved_object k object) n) after)

step_unless_moved : (k : ℕ) (fault : Option DocFault) (made : Step) → step_unless (moved_fault_if k fault) (moved_step k made) ≡ moved_step k (step_unless fault made)
step_unless_moved k None made = refl
step_unless_moved k (Some fault) made = refl

-- ---- a line, and a text

dash_by : (dash : Bool) (k : ℕ) (item : Item) (object other : Result Open DocFault)
    → cond dash (record { whole = None; next = moved_next k object }) (record { whole = Some (moved_item k item); next = moved_next k other })
    ≡ moved_step k (cond dash (record { whole = None; next = object }) (record { whole = Some item; next = other }))
dash_by true k item object other = refl
dash_by false k item object other = refl

step_moved : (k limit place : ℕ) (so_far : Open) (line : Line) → step (k + limit) (k + place) (moved_open k so_far) line ≡ moved_step k (step limit place so_far line)
step_moved k limit place nothing line = ap (λ (n : Result Open DocFault). record { whole = None; next = n }) (between_moved k limit place line)
step_moved k limit place (keyword_line item) line =
    let object : Result Open DocFault = open_unless (line_fault limit place line) (first_object_line place item line (begin_words line.text)) in
    let other : Result Open DocFault = open_item (read_line limit place line) in
    let there : open_unless (line_fault (k + limit) (k + place) line) (first_object_line (k + place) (moved_item k item) line (begin_words line.text)) ≡ moved_next k object =
    ap (λ (f : Option DocFault). open_unless f (first_object_line (k + place) (moved_item k item) line (begin_words line.text))) (line_fault_moved k limit place line)
    ∙ ap (λ (n : Result Open DocFault). open_unless (moved_fault_if k (line_fault limit place line)) n) (begin_moved k place item line (begin_words line.text))
    ∙ open_unless_moved k (line_fault limit place line) (first_object_line place item line (begin_words line.text)) in
    ap (λ (n : Result Open DocFault). cond (starts_dash line) (record { whole = None; next = n }) (record { whole = Some (moved_item k item); next = open_item (read_line (k + limit) (k + place) line) })) there
    ∙ ap (λ (n : Result Open DocFault). cond (starts_dash line) (record { whole = None; next = moved_next k object }) (record { whole = Some (moved_item k item); next = n })) (between_moved k limit place line)
    ∙ dash_by (starts_dash line) k item object other
step_moved k limit place (object_lines item begin object) line =
    ap (λ (f : Option DocFault). step_unless f (object_step (moved_item k item) (k + begin) (moved_object k object) (k + place) line)) (object_fault_moved k limit begin place line)
    ∙ ap (λ (s : Step). step_unless (moved_fault_if k (object_line_fault limit begin place line)) s) (object_moved k begin place item object line)
    ∙ step_unless_moved k (object_line_fault limit begin place line) (object_step item begin object place line)

end_moved : (k place : ℕ) (so_far : Open) → at_end (k + place) (moved_open k so_far) ≡ moved_contents k (at_end place so_far)
end_moved k place nothing = refl
end_moved k place (keyword_line item) = refl
end_moved k place (object_lines item begin object) = refl

also_moved : (k : ℕ) (whole : Option Item) (rest : Contents) → also (moved_if k whole) (moved_contents k rest) ≡ moved_contents k (also whole rest)
also_moved k None rest = refl
also_moved k (Some item) rest = refl

proceed_moved : (k : ℕ) (next : Result Open DocFault) (one other : Open → Contents) → ((open_ : Open) → one (moved_open k open_) ≡ moved_contents k (other open_)) → proceed (moved_next k next) one ≡ moved_contents k (proceed next other)
proceed_moved k (Ok open_) one other same = same open_
proceed_moved k (Err fault) one other same = refl

lines_moved : (k limit place : ℕ) (so_far : Open) (list : List Line) → contents_of (k + limit) (k + place) (moved_open k so_far) list ≡ moved_contents k (contents_of limit place so_far list)
unfolding contents_of
lines_moved k limit place so_far [] = end_moved k place so_far
lines_moved k limit place so_far (line ∷ rest) =
    let made = step limit place so_far line in
    let next : (k + place) + size line ≡ k + (place + size line) = omega arith in
    let one : Open → Contents = λ open_. contents_of (k + limit) ((k + place) + size line) open_ rest in
    let other : Open → Contents = λ open_. contents_of limit (place + size line) open_ rest in
    ap (λ (m : Step). also m.whole (proceed m.next one)) (step_moved k limit place so_far line)
    ∙ ap (λ (c : Contents). also (moved_if k made.whole) c)
    (proceed_moved k made.next one other (λ open_. ap (λ (n : ℕ). contents_of (k + limit) n (moved_open k open_) rest) next ∙ lines_moved k limit (place + size line) open_ rest))
    ∙ also_moved k made.whole (proceed made.next other)

pub contents_moved : (k limit place : ℕ) (so_far : Open) (bytes : List ℕ) → contents (k + limit) (k + place) (moved_open k so_far) bytes ≡ moved_contents k (contents limit place so_far bytes)
contents_moved k limit place so_far bytes = lines_moved k limit place so_far (lines bytes)
