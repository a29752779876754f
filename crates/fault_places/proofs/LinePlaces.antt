-- The first fault of a text's lines and objects stands within the text.
use Rattle.std.proofs.Common.{◌≡◌, ℕ, ◌+◌, ◌-◌, ◌≤◌, Bool, true, false, eqb, List, [], ◌∷◌, length, Option, Some, None}
use Rattle.std.proofs.{Common.{Result, Ok, Err, refl, arith}, lemmas.Bool.{leb-false, leb-true}}
use Rattle.std.{proofs.lemmas.List.Sums.prefix_len-le-length, specs.Prelude.{min, not, nat_lt, nat_le, ◌&&◌, IfSome}}
use Rattle.std.specs.{Prelude.if◌then◌else◌, List.prefix_len}
use Rattle.item_terms.specs.{Base64Text.is_body, declared.fault.{DocFault.DocFault, DocReason.TheVariants.Keyword}}
use Rattle.item_terms.specs.declared.fault.DocReason.TheVariants.{Unterminated, LineTooLong, DocumentTooLong}
use Rattle.item_terms.specs.{declared.fault.DocReason.TheVariants.{ObjectTooLong, ObjectBase64, ObjectEnd}, Faults.at}
use Rattle.item_terms.specs.Faults.{line_fault, max_line, max_object, nul_fault, object_line_fault, or_else, too_long}
use Rattle.item_terms.specs.{Faults.unterminated_fault, Items.{Contents, also, at_end, contents_of, items_from}}
use Rattle.item_terms.specs.{Items.proceed, Lines.{Line, lines, onto, size}, Steps.{Item, Open, Step, begun_object}}
use Rattle.item_terms.specs.Steps.{first_object_line, item_unless, keyword_item, keyword_line, line_item, nothing}
use Rattle.item_terms.specs.Steps.{object_lines, object_step, open_item, open_unless, read_line, starts_dash, step}
use Rattle.item_terms.specs.{Steps.{step_unless, with_line, with_object}, Words.{begin_words, is_blank_line}}
use Rattle.item_terms.specs.Words.{is_end_line, is_keyword_line, nul_in}

-- ---- the bytes of lines

abbrev total : List Line → ℕ
total [] = 0
total (line ∷ rest) = size line + total rest

total_onto : (b : ℕ) (list : List Line) → total (onto b list) ≡ 1 + total list
total_onto b [] = refl
total_onto b (line ∷ rest) = omega arith

total_lines : (bytes : List ℕ) → total (lines bytes) ≡ length bytes
total_lines [] = refl
total_lines (b ∷ bytes) = by (eqb b 10) (total_lines bytes)
  where
    by : (is_nl : Bool) → total (lines bytes) ≡ length bytes
        → total (if is_nl then record { text = []; ended = true } ∷ lines bytes else onto b (lines bytes))
        ≡ length (b ∷ bytes)
    by true e = omega (arith, e)
    by false e = omega (arith, e, total_onto b (lines bytes))

-- ---- the faults of a line

-- a fault, if there is one, stands within so many bytes
abbrev Within : ℕ → Option DocFault → Type 0
Within n fault = IfSome fault (λ f. f.place ≤ n)

long_within : (n limit place size : ℕ) → place + size ≤ n → Within n (too_long limit place size)
long_within n limit place size le =
    by (nat_le size (min (limit - place) max_line)) (nat_le (limit - place) max_line) refl refl
  where
    by : (fits near : Bool) → nat_le size (min (limit - place) max_line) ≡ fits → nat_le (limit - place) max_line ≡ near
        → Within n (if fits then None
        else Some (if near then at limit DocumentTooLong else at (place + max_line) LineTooLong))
    by true near e f = tt
    by false true e f =
        let long = leb-false size (min (limit - place) max_line) e in
        let few = leb-true (limit - place) max_line f in
        omega (arith, long, few, le)
    by false false e f =
        let long = leb-false size (min (limit - place) max_line) e in
        let many = leb-false (limit - place) max_line f in
        omega (arith, long, many, le)

either : (n : ℕ) (one other : Option DocFault) → Within n one → Within n other → Within n (or_else one other)
either n None other a b = b
either n (Some fault) other a b = a

ended_by : (ended : Bool) (n place : ℕ) → place ≤ n → Within n (if ended then None else Some (at place Unterminated))
ended_by true n place le = tt
ended_by false n place le = le

abbrev Below : ℕ → Option ℕ → Type 0
Below n None = Unit {0}
Below n (Some i) = i ≤ n

nul_below : (text : List ℕ) → Below (length text) (nul_in text)
nul_below text = by (nat_lt (prefix_len p text) (length text))
  where
    p : ℕ → Bool
    p = λ b. not (eqb b 0)

    by : (some : Bool) → Below (length text) (if some then Some (prefix_len p text) else None)
    by true = prefix_len-le-length p text
    by false = tt

nul_by : (n place m : ℕ) (nul : Option ℕ) → Below m nul → place + m ≤ n → Within n (nul_fault place nul)
nul_by n place m None b le = tt
nul_by n place m (Some i) b le = omega (arith, b, le)

line_within : (n limit place : ℕ) (line : Line) → place + size line ≤ n → Within n (line_fault limit place line)
line_within n limit place line le =
    let text : place + length line.text ≤ n = omega (arith, le) in
    either n (too_long limit place (size line)) (or_else (unterminated_fault place line) (nul_fault place (nul_in line.text)))
    (long_within n limit place (size line) le)
    (either n (unterminated_fault place line) (nul_fault place (nul_in line.text))
    (ended_by line.ended n (place + length line.text) text)
    (nul_by n place (length line.text) (nul_in line.text) (nul_below line.text) text))

-- ---- what a line makes

abbrev NextWithin : ℕ → Result Open DocFault → Type 0
NextWithin n (Ok nothing) = Unit {0}
NextWithin n (Ok (keyword_line item)) = Unit {0}
NextWithin n (Ok (object_lines item begin object)) = begin ≤ n
NextWithin n (Err fault) = fault.place ≤ n

abbrev ReadWithin : ℕ → Result (Option Item) DocFault → Type 0
ReadWithin n (Ok item) = Unit {0}
ReadWithin n (Err fault) = fault.place ≤ n

opened : (n : ℕ) (read : Result (Option Item) DocFault) → ReadWithin n read → NextWithin n (open_item read)
opened n (Ok None) h = tt
opened n (Ok (Some item)) h = tt
opened n (Err fault) h = h

read_by : (n : ℕ) (fault : Option DocFault) (read : Result (Option Item) DocFault) → Within n fault → ReadWithin n read
    → ReadWithin n (item_unless fault read)
read_by n None read a b = b
read_by n (Some fault) read a b = a

kinds : (blank is_keyword : Bool) (n place : ℕ) (item : Item) → place ≤ n
    → ReadWithin n (if blank then Ok None else if is_keyword then Ok (Some item) else Err (at place Keyword))
kinds true is_keyword n place item le = tt
kinds false true n place item le = tt
kinds false false n place item le = le

between : (n limit place : ℕ) (line : Line) → place + size line ≤ n
    → NextWithin n (open_item (read_line limit place line))
between n limit place line le =
    opened n (read_line limit place line)
    (read_by n (line_fault limit place line) (line_item place line) (line_within n limit place line le)
    (kinds (is_blank_line line.text) (is_keyword_line line.text) n place (keyword_item place line) (omega (arith, le))))

first_object_line_is_within : (n place : ℕ) (item : Item) (line : Line) (words : Option (List ℕ)) → place ≤ n
    → NextWithin n (first_object_line place item line words)
first_object_line_is_within n place item line None le = le
first_object_line_is_within n place item line (Some words) le = by (nat_lt max_object (size line))
  where
    by : (long : Bool) → NextWithin n (if long then Err (at place ObjectTooLong)
        else Ok (object_lines item place (begun_object place line words)))
    by true = le
    by false = le

unless : (n : ℕ) (fault : Option DocFault) (next : Result Open DocFault) → Within n fault → NextWithin n next
    → NextWithin n (open_unless fault next)
unless n None next a b = b
unless n (Some fault) next a b = a

abbrev StepWithin : ℕ → Step → Type 0
StepWithin n made = NextWithin n made.next

by_dash : (dash : Bool) (n : ℕ) (item : Item) (object other : Result Open DocFault) → NextWithin n object
    → NextWithin n other
    → StepWithin n (if dash then record { whole = None; next = object } else record { whole = Some item; next = other })
by_dash true n item object other a b = a
by_dash false n item object other a b = b

step_by : (n : ℕ) (fault : Option DocFault) (made : Step) → Within n fault → NextWithin n made.next
    → NextWithin n (step_unless fault made).next
step_by n None made a b = b
step_by n (Some fault) made a b = a

over_by : (over : Bool) (n begin : ℕ) (other : Option DocFault) → begin ≤ n → Within n other
    → Within n (if over then Some (at begin ObjectTooLong) else other)
over_by true n begin other le h = le
over_by false n begin other le h = h

by_tests : (dash end_ body : Bool) (n begin place : ℕ) (whole : Item) (open_ : Open) → begin ≤ n → place ≤ n
    → NextWithin n (Ok open_)
    → StepWithin n (if dash then (if end_ then (if body then record { whole = Some whole; next = Ok nothing }
    else record { whole = None; next = Err (at begin ObjectBase64) })
    else record { whole = None; next = Err (at place ObjectEnd) })
    else record { whole = None; next = Ok open_ })
by_tests true true true n begin place whole open_ a b c = tt
by_tests true true false n begin place whole open_ a b c = a
by_tests true false body n begin place whole open_ a b c = b
by_tests false end_ body n begin place whole open_ a b c = c

step_within : (n limit place : ℕ) (so_far : Open) (line : Line) → place + size line ≤ n → NextWithin n (Ok so_far)
    → NextWithin n (step limit place so_far line).next
step_within n limit place nothing line le h = between n limit place line le
step_within n limit place (keyword_line item) line le h =
    by_dash (starts_dash line) n item
    (open_unless (line_fault limit place line) (first_object_line place item line (begin_words line.text)))
    (open_item (read_line limit place line))
    (unless n (line_fault limit place line) (first_object_line place item line (begin_words line.text))
    (line_within n limit place line le) (first_object_line_is_within n place item line (begin_words line.text) (omega (arith, le))))
    (between n limit place line le)
step_within n limit place (object_lines item begin object) line le h =
    let room = max_object - (place - begin) in
    step_by n (object_line_fault limit begin place line) (object_step item begin object place line)
    (over_by (nat_lt room (min (limit - place) max_line) && nat_lt room (size line)) n begin (line_fault limit place line)
    h
    (line_within n limit place line le))
    (by_tests (starts_dash line) (is_end_line object.words line.text) (is_body object.text) n begin place
    (with_object item object (place + size line)) (object_lines item begin (with_line object line.text)) h
    (omega (arith, le)) h)

-- ---- a text

at_last : (n place : ℕ) (so_far : Open) → place ≤ n → Within n (at_end place so_far).fault
at_last n place nothing le = tt
at_last n place (keyword_line item) le = tt
at_last n place (object_lines item begin object) le = le

in_front : (n : ℕ) (whole : Option Item) (rest : Contents) → Within n rest.fault → Within n (also whole rest).fault
in_front n None rest h = h
in_front n (Some item) rest h = h

goes_on : (n : ℕ) (next : Result Open DocFault) (rest : Open → Contents) → NextWithin n next
    → ((open_ : Open) → NextWithin n (Ok open_) → Within n (rest open_).fault) → Within n (proceed next rest).fault
goes_on n (Ok open_) rest h more = more open_ h
goes_on n (Err fault) rest h more = h

all_within : (n limit place : ℕ) (so_far : Open) (list : List Line) → place + total list ≤ n → NextWithin n (Ok so_far)
    → Within n (contents_of limit place so_far list).fault
unfolding contents_of
all_within n limit place so_far [] le h = at_last n place so_far (omega (arith, le))
all_within n limit place so_far (line ∷ rest) le h =
    let made = step limit place so_far line in
    let more : Open → Contents = λ open_. contents_of limit (place + size line) open_ rest in
    in_front n made.whole (proceed made.next more)
    (goes_on n made.next more (step_within n limit place so_far line (omega (arith, le)) h)
    (λ open_ o. all_within n limit (place + size line) open_ rest (omega (arith, le)) o))

-- the first fault of the items of some bytes stands within them
pub first_fault_within : (limit : ℕ) (bytes : List ℕ)
    → IfSome (items_from 0 limit bytes).fault (λ (fault : DocFault). fault.place ≤ length bytes)
first_fault_within limit bytes =
    all_within (length bytes) (0 + limit) 0 nothing (lines bytes) (omega (arith, total_lines bytes)) tt
