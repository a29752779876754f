-- The place of a document's fault is no further than its limit, or the longest line behind its bytes.
use Rattle.std.proofs.Common.{◌≡◌, ℕ, ◌+◌, ◌-◌, ◌≤◌, Bool, true, false, cond, eqb, List, [], ◌∷◌, length, Option, Some}
use Rattle.std.proofs.{Common.{None, Result, Ok, Err, refl, arith}, lemmas.List.Sums.prefix_len-le-length}
use Rattle.std.specs.{Prelude.{min, not, nat_lt, nat_le, ◌&&◌, IfSome}, List.prefix_len}
use Rattle.item_terms.specs.declared.fault.DocReason.TheVariants.{Keyword, Unterminated, LineTooLong, DocumentTooLong}
use Rattle.item_terms.specs.declared.fault.DocReason.TheVariants.{ObjectTooLong, ObjectBase64, ObjectEnd}
use Rattle.item_terms.specs.{declared.fault.DocFault.DocFault, Lines.{Line, lines, onto, size}, Words.nul_in}
use Rattle.item_terms.specs.{Words.{is_blank_line, is_keyword_line, begin_words, is_end_line}, Base64Text.is_body}
use Rattle.item_terms.specs.Faults.{at, or_else, too_long, unterminated_fault, nul_fault, line_fault, object_line_fault}
use Rattle.item_terms.specs.{Faults.{max_line, max_object}, Steps.{Item, Open, Step, step, nothing, keyword_line}}
use Rattle.item_terms.specs.Steps.{object_lines, keyword_item, begun_object, with_line, open_item, item_unless}
use Rattle.item_terms.specs.Steps.{open_unless, step_unless, object_step, line_item, read_line, starts_dash}
use Rattle.item_terms.specs.{Steps.{first_object_line, with_object}, Items.{Contents, contents, contents_of, also}}
use Rattle.item_terms.specs.Items.{proceed, at_end}

-- ---- the bytes of lines

abbrev total : List Line → ℕ
total [] = 0
total (line ∷ rest) = size line + total rest

total_onto : (b : ℕ) (list : List Line) → total (onto b list) ≡ 1 + total list
total_onto b [] = refl
total_onto b (line ∷ rest) = omega arith

total_by : (is_nl : Bool) (b : ℕ) (bytes : List ℕ) → total (lines bytes) ≡ length bytes → total (cond is_nl (record { text = []; ended = true } ∷ lines bytes) (onto b (lines bytes))) ≡ length (b ∷ bytes)
total_by true b bytes e = omega (arith, e)
total_by false b bytes e = omega (arith, e, total_onto b (lines bytes))

total_lines : (bytes : List ℕ) → total (lines bytes) ≡ length bytes
total_lines [] = refl
total_lines (b ∷ bytes) = total_by (eqb b 10) b bytes (total_lines bytes)

-- ---- the faults of a line

abbrev Within : ℕ → Option DocFault → Type 0
Within n fault = IfSome fault (λ f. f.place ≤ n)

long_by : (fits near : Bool) (n a b : ℕ) → a ≤ n → b ≤ n → Within n (cond fits None (Some (cond near (at a DocumentTooLong) (at b LineTooLong))))
long_by true near n a b la lb = tt
long_by false true n a b la lb = la
long_by false false n a b la lb = lb

either : (n : ℕ) (one other : Option DocFault) → Within n one → Within n other → Within n (or_else one other)
either n None other a b = b
either n (Some fault) other a b = a

ended_by : (ended : Bool) (n place : ℕ) → place ≤ n → Within n (cond ended None (Some (at place Unterminated)))
ended_by true n place le = tt
ended_by false n place le = le

abbrev Below : ℕ → Option ℕ → Type 0
Below n None = Unit {0}
Below n (Some i) = i ≤ n

below_by : (some : Bool) (i n : ℕ) → i ≤ n → Below n (cond some (Some i) None)
below_by true i n le = le
below_by false i n le = tt

nul_below : (text : List ℕ) → Below (length text) (nul_in text)
nul_below text =
    let p : ℕ → Bool = λ b. not (eqb b 0) in
    below_by (nat_lt (prefix_len p text) (length text)) (prefix_len p text) (length text) (prefix_len-le-length p text)

nul_by : (n place : ℕ) (m : ℕ) (nul : Option ℕ) → Below m nul → place + m ≤ n → Within n (nul_fault place nul)
nul_by n place m None b le = tt
nul_by n place m (Some i) b le = omega (arith, b, le)

line_within : (n limit place : ℕ) (line : Line) → limit ≤ n → place + size line + max_line ≤ n → Within n (line_fault limit place line)
line_within n limit place line far le =
    let text : place + length line.text ≤ n = omega (arith, le) in
    either n (too_long limit place (size line)) (or_else (unterminated_fault place line) (nul_fault place (nul_in line.text)))
    (long_by (nat_le (size line) (min (limit - place) max_line)) (nat_le (limit - place) max_line) n limit (place + max_line) far (omega (arith, le)))
    (either n (unterminated_fault place line) (nul_fault place (nul_in line.text)) (ended_by line.ended n (place + length line.text) text) (nul_by n place (length line.text) (nul_in line.text) (nul_below line.text) text))

over_by : (over : Bool) (n begin : ℕ) (other : Option DocFault) → begin ≤ n → Within n other → Within n (cond over (Some (at begin ObjectTooLong)) other)
over_by true n begin other le h = le
over_by false n begin other le h = h

-- ---- steps

abbrev NextWithin : ℕ → Result Open DocFault → Type 0
NextWithin n (Ok nothing) = Unit {0}
NextWithin n (Ok (keyword_line item)) = Unit {0}
NextWithin n (Ok (object_lines item begin object)) = begin ≤ n
NextWithin n (Err fault) = fault.place ≤ n

abbrev OpenWithin : ℕ → Open → Type 0
OpenWithin n open_ = NextWithin n (Ok open_)

abbrev ReadWithin : ℕ → Result (Option Item) DocFault → Type 0
ReadWithin n (Ok item) = Unit {0}
ReadWithin n (Err fault) = fault.place ≤ n

opened : (n : ℕ) (read : Result (Option Item) DocFault) → ReadWithin n read → NextWithin n (open_item read)
opened n (Ok None) h = tt
opened n (Ok (Some item)) h = tt
opened n (Err fault) h = h

read_by : (n : ℕ) (fault : Option DocFault) (read : Result (Option Item) DocFault) → Within n fault → ReadWithin n read → ReadWithin n (item_unless fault read)
read_by n None read a b = b
read_by n (Some fault) read a b = a

kinds : (blank is_kw : Bool) (n place : ℕ) (item : Item) → place ≤ n → ReadWithin n (cond blank (Ok None) (cond is_kw (Ok (Some item)) (Err (at place Keyword))))
kinds true is_kw n place item le = tt
kinds false true n place item le = tt
kinds false false n place item le = le

between : (n limit place : ℕ) (line : Line) → limit ≤ n → place + size line + max_line ≤ n → NextWithin n (open_item (read_line limit place line))
between n limit place line far le =
    opened n (read_line limit place line)
    (read_by n (line_fault limit place line) (line_item place line) (line_within n limit place line far le) (kinds (is_blank_line line.text) (is_keyword_line line.text) n place (keyword_item place line) (omega (arith, le))))

begun : (long : Bool) (n place : ℕ) (open_ : Open) → place ≤ n → OpenWithin n open_ → NextWithin n (cond long (Err (at place ObjectTooLong)) (Ok open_))
begun true n place open_ le h = le
begun false n place open_ le h = h

first_object_line_is_within : (n place : ℕ) (item : Item) (line : Line) (words : Option (List ℕ)) → place ≤ n → NextWithin n (first_object_line place item line words)
first_object_line_is_within n place item line None le = le
first_object_line_is_within n place item line (Some words) le = begun (nat_lt max_object (size line)) n place (object_lines item place (begun_object place line words)) le le

unless : (n : ℕ) (fault : Option DocFault) (next : Result Open DocFault) → Within n fault → NextWithin n next → NextWithin n (open_unless fault next)
unless n None next a b = b
unless n (Some fault) next a b = a

abbrev StepWithin : ℕ → Step → Type 0
StepWithin n made = NextWithin n made.next

by_dash : (dash : Bool) (n : ℕ) (item : Item) (object other : Result Open DocFault) → NextWithin n object → NextWithin n other → StepWithin n (cond dash (record { whole = None; next = object }) (record { whole = Some item; next = other }))
by_dash true n item object other a b = a
by_dash false n item object other a b = b

step_by : (n : ℕ) (fault : Option DocFault) (made : Step) → Within n fault → NextWithin n made.next → NextWithin n (step_unless fault made).next
step_by n None made a b = b
step_by n (Some fault) made a b = a

by_tests : (dash end_ body : Bool) (n begin place : ℕ) (whole : Item) (open_ : Open) → begin ≤ n → place ≤ n → OpenWithin n open_
    → StepWithin n (cond dash (cond end_ (cond body (record { whole = Some whole; next = Ok nothing }) (record { whole = None; next = Err (at begin ObjectBase64) })) (record { whole = None; next = Err (at place ObjectEnd) })) (record { whole = None; next = Ok open_ }))
by_tests true true true n begin place whole open_ a b c = tt
by_tests true true false n begin place whole open_ a b c = a
by_tests true false body n begin place whole open_ a b c = b
by_tests false end_ body n begin place whole open_ a b c = c

step_within : (n limit place : ℕ) (so_far : Open) (line : Line) → limit ≤ n → place + size line + max_line ≤ n → OpenWithin n so_far → NextWithin n (step limit place so_far line).next
step_within n limit place nothing line far le h = between n limit place line far le
step_within n limit place (keyword_line item) line far le h =
    by_dash (starts_dash line) n item (open_unless (line_fault limit place line) (first_object_line place item line (begin_words line.text))) (open_item (read_line limit place line))
    (unless n (line_fault limit place line) (first_object_line place item line (begin_words line.text)) (line_within n limit place line far le) (first_object_line_is_within n place item line (begin_words line.text) (omega (arith, le))))
    (between n limit place line far le)
step_within n limit place (object_lines item begin object) line far le h =
    let room = max_object - (place - begin) in
    step_by n (object_line_fault limit begin place line) (object_step item begin object place line)
    (over_by (nat_lt room (min (limit - place) max_line) && nat_lt room (size line)) n begin (line_fault limit place line) h (line_within n limit place line far le))
    (by_tests (starts_dash line) (is_end_line object.words line.text) (is_body object.text) n begin place (with_object item object (place + size line)) (object_lines item begin (with_line object line.text)) h (omega (arith, le)) h)

-- ---- a text

at_last : (n place : ℕ) (so_far : Open) → place ≤ n → Within n (at_end place so_far).fault
at_last n place nothing le = tt
at_last n place (keyword_line item) le = tt
at_last n place (object_lines item begin object) le = le

in_front : (n : ℕ) (whole : Option Item) (rest : Contents) → Within n rest.fault → Within n (also whole rest).fault
in_front n None rest h = h
in_front n (Some item) rest h = h

goes_on : (n : ℕ) (next : Result Open DocFault) (rest : Open → Contents) → NextWithin n next → ((open_ : Open) → OpenWithin n open_ → Within n (rest open_).fault) → Within n (proceed next rest).fault
goes_on n (Ok open_) rest h more = more open_ h
goes_on n (Err fault) rest h more = h

all_within : (n limit place : ℕ) (so_far : Open) (list : List Line) → limit ≤ n → place + total list + max_line ≤ n → OpenWithin n so_far → Within n (contents_of limit place so_far list).fault
unfolding contents_of
all_within n limit place so_far [] far le h = at_last n place so_far (omega (arith, le))
all_within n limit place so_far (line ∷ rest) far le h =
    let made = step limit place so_far line in
    let more : Open → Contents = λ open_. contents_of limit (place + size line) open_ rest in
    in_front n made.whole (proceed made.next more)
    (goes_on n made.next more (step_within n limit place so_far line far (omega (arith, le)) h) (λ open_ o. all_within n limit (place + size line) open_ rest far (omega (arith, le)) o))

-- the first fault of a text stands no further than the limit, or a line behind its end
pub fault_within : (n limit place : ℕ) (bytes : List ℕ) → limit ≤ n → place + length bytes + max_line ≤ n → IfSome (contents limit place nothing bytes).fault (λ fault. fault.place ≤ n)
fault_within n limit place bytes far le = all_within n limit place nothing (lines bytes) far (omega (arith, le, total_lines bytes)) tt
