-- Of the items of a text only the first may stand at its first byte.
use Rattle.std.proofs.Common.{ℕ, ◌+◌, ◌≤◌, Bool, true, false, eqb, List, [], ◌∷◌, Option, Some, None, Result, Ok, Err}
use Rattle.std.{proofs.Common.arith, specs.Prelude.{nat_lt, if◌then◌else◌}}
use Rattle.item_terms.specs.{Base64Text.is_body, declared.fault.{DocFault.DocFault, DocReason.TheVariants.Keyword}}
use Rattle.item_terms.specs.{declared.fault.DocReason.TheVariants.{ObjectTooLong, ObjectBase64, ObjectEnd}, Faults.at}
use Rattle.item_terms.specs.{Faults.{line_fault, max_object, object_line_fault}, Items.{Contents, also, at_end}}
use Rattle.item_terms.specs.{Items.{contents_of, items_of, proceed}, Lines.{Line, lines, onto, size}, Steps.Item}
use Rattle.item_terms.specs.Steps.{Open, Step, begun_object, first_object_line, item_unless, keyword_item, keyword_line}
use Rattle.item_terms.specs.Steps.{line_item, nothing, object_lines, object_step, open_item, open_unless, read_line}
use Rattle.item_terms.specs.{Steps.{starts_dash, step, step_unless, with_line, with_object}, Words.begin_words}
use Rattle.item_terms.specs.Words.{is_blank_line, is_end_line, is_keyword_line}

-- these items stand at a place or behind it
abbrev pub AreFrom : ℕ → List Item → Type 0
AreFrom m [] = Unit {0}
AreFrom m (item ∷ items) = (m ≤ item.place) × AreFrom m items

-- these stand behind the first byte, but for the first of them
abbrev pub AreLater : List Item → Type 0
AreLater [] = Unit {0}
AreLater (item ∷ items) = AreFrom 1 items

-- ---- what a line makes stands at a place or behind it

abbrev OpenFrom : ℕ → Open → Type 0
OpenFrom m nothing = Unit {0}
OpenFrom m (keyword_line item) = m ≤ item.place
OpenFrom m (object_lines item begin object) = m ≤ item.place

abbrev NextFrom : ℕ → Result Open DocFault → Type 0
NextFrom m (Ok open_) = OpenFrom m open_
NextFrom m (Err fault) = Unit {0}

abbrev WholeFrom : ℕ → Option Item → Type 0
WholeFrom m None = Unit {0}
WholeFrom m (Some item) = m ≤ item.place

abbrev ReadFrom : ℕ → Result (Option Item) DocFault → Type 0
ReadFrom m (Ok item) = WholeFrom m item
ReadFrom m (Err fault) = Unit {0}

abbrev StepFrom : ℕ → Step → Type 0
StepFrom m made = WholeFrom m made.whole × NextFrom m made.next

opened : (m : ℕ) (read : Result (Option Item) DocFault) → ReadFrom m read → NextFrom m (open_item read)
opened m (Ok None) h = tt
opened m (Ok (Some item)) h = h
opened m (Err fault) h = tt

read_by : (m : ℕ) (fault : Option DocFault) (read : Result (Option Item) DocFault) → ReadFrom m read
    → ReadFrom m (item_unless fault read)
read_by m None read h = h
read_by m (Some fault) read h = tt

kinds : (blank is_keyword : Bool) (m : ℕ) (item : Item) (fault : DocFault) → m ≤ item.place
    → ReadFrom m (if blank then Ok None else if is_keyword then Ok (Some item) else Err fault)
kinds true is_keyword m item fault le = tt
kinds false true m item fault le = le
kinds false false m item fault le = tt

between : (m limit place : ℕ) (line : Line) → m ≤ place → NextFrom m (open_item (read_line limit place line))
between m limit place line le =
    opened m (read_line limit place line)
    (read_by m (line_fault limit place line) (line_item place line)
    (kinds (is_blank_line line.text) (is_keyword_line line.text) m (keyword_item place line) (at place Keyword) le))

first_object_line_is_from : (m place : ℕ) (item : Item) (line : Line) (words : Option (List ℕ)) → m ≤ item.place
    → NextFrom m (first_object_line place item line words)
first_object_line_is_from m place item line None le = tt
first_object_line_is_from m place item line (Some words) le = by (nat_lt max_object (size line))
  where
    by : (long : Bool) → NextFrom m (if long then Err (at place ObjectTooLong)
        else Ok (object_lines item place (begun_object place line words)))
    by true = tt
    by false = le

unless : (m : ℕ) (fault : Option DocFault) (next : Result Open DocFault) → NextFrom m next
    → NextFrom m (open_unless fault next)
unless m None next h = h
unless m (Some fault) next h = tt

by_dash : (dash : Bool) (m : ℕ) (item : Item) (object other : Result Open DocFault) → m ≤ item.place → NextFrom m object
    → NextFrom m other
    → StepFrom m (if dash then record { whole = None; next = object } else record { whole = Some item; next = other })
by_dash true m item object other le a b = (tt, a)
by_dash false m item object other le a b = (le, b)

by_tests : (dash end_ body : Bool) (m : ℕ) (whole : Item) (open_ : Open) (base64 wrong : DocFault) → m ≤ whole.place
    → OpenFrom m open_
    → StepFrom m (if dash then (if end_ then (if body then record { whole = Some whole; next = Ok nothing }
    else record { whole = None; next = Err base64 })
    else record { whole = None; next = Err wrong })
    else record { whole = None; next = Ok open_ })
by_tests true true true m whole open_ base64 wrong le h = (le, tt)
by_tests true true false m whole open_ base64 wrong le h = (tt, tt)
by_tests true false body m whole open_ base64 wrong le h = (tt, tt)
by_tests false end_ body m whole open_ base64 wrong le h = (tt, h)

step_by : (m : ℕ) (fault : Option DocFault) (made : Step) → StepFrom m made → StepFrom m (step_unless fault made)
step_by m None made h = h
step_by m (Some fault) made h = (tt, tt)

step_from : (m limit place : ℕ) (so_far : Open) (line : Line) → m ≤ place → OpenFrom m so_far
    → StepFrom m (step limit place so_far line)
step_from m limit place nothing line le h = (tt, between m limit place line le)
step_from m limit place (keyword_line item) line le h =
    by_dash (starts_dash line) m item
    (open_unless (line_fault limit place line) (first_object_line place item line (begin_words line.text)))
    (open_item (read_line limit place line)) h
    (unless m (line_fault limit place line) (first_object_line place item line (begin_words line.text))
    (first_object_line_is_from m place item line (begin_words line.text) h))
    (between m limit place line le)
step_from m limit place (object_lines item begin object) line le h =
    step_by m (object_line_fault limit begin place line) (object_step item begin object place line)
    (by_tests (starts_dash line) (is_end_line object.words line.text) (is_body object.text) m
    (with_object item object (place + size line)) (object_lines item begin (with_line object line.text))
    (at begin ObjectBase64) (at place ObjectEnd) h h)

in_front : (m : ℕ) (whole : Option Item) (rest : Contents) → WholeFrom m whole → AreFrom m rest.items
    → AreFrom m (also whole rest).items
in_front m None rest w h = h
in_front m (Some item) rest w h = (w, h)

goes_on : (m : ℕ) (next : Result Open DocFault) (rest : Open → Contents) → NextFrom m next
    → ((open_ : Open) → OpenFrom m open_ → AreFrom m (rest open_).items) → AreFrom m (proceed next rest).items
goes_on m (Ok open_) rest h more = more open_ h
goes_on m (Err fault) rest h more = tt

at_last : (m place : ℕ) (so_far : Open) → OpenFrom m so_far → AreFrom m (at_end place so_far).items
at_last m place nothing h = tt
at_last m place (keyword_line item) h = (h, tt)
at_last m place (object_lines item begin object) h = tt

-- the items of lines that begin at a place or behind it stand so
all_from : (m limit place : ℕ) (so_far : Open) (list : List Line) → m ≤ place → OpenFrom m so_far
    → AreFrom m (contents_of limit place so_far list).items
unfolding contents_of
all_from m limit place so_far [] le h = at_last m place so_far h
all_from m limit place so_far (line ∷ rest) le h =
    let made = step limit place so_far line in
    let more : Open → Contents = λ open_. contents_of limit (place + size line) open_ rest in
    let good = step_from m limit place so_far line le h in
    in_front m made.whole (proceed made.next more) good.0
    (goes_on m made.next more good.1
    (λ open_ o. all_from m limit (place + size line) open_ rest (omega (arith, le)) o))

-- ---- and once the first is whole, what follows stands behind the first byte

abbrev NextIf : Step → Type 0
NextIf made = by made.whole
  where
    by : Option Item → Type 0
    by None = Unit {0}
    by (Some item) = NextFrom 1 made.next

dash_if : (dash : Bool) (item : Item) (object other : Result Open DocFault) → NextFrom 1 other
    → NextIf (if dash then record { whole = None; next = object } else record { whole = Some item; next = other })
dash_if true item object other h = tt
dash_if false item object other h = h

tests_if : (dash end_ body : Bool) (whole : Item) (open_ : Open) (base64 wrong : DocFault)
    → NextIf (if dash then (if end_ then (if body then record { whole = Some whole; next = Ok nothing }
    else record { whole = None; next = Err base64 })
    else record { whole = None; next = Err wrong })
    else record { whole = None; next = Ok open_ })
tests_if true true true whole open_ base64 wrong = tt
tests_if true true false whole open_ base64 wrong = tt
tests_if true false body whole open_ base64 wrong = tt
tests_if false end_ body whole open_ base64 wrong = tt

unless_if : (fault : Option DocFault) (made : Step) → NextIf made → NextIf (step_unless fault made)
unless_if None made h = h
unless_if (Some fault) made h = tt

step_if : (limit place : ℕ) (so_far : Open) (line : Line) → 1 ≤ place → NextIf (step limit place so_far line)
step_if limit place nothing line le = tt
step_if limit place (keyword_line item) line le =
    dash_if (starts_dash line) item
    (open_unless (line_fault limit place line) (first_object_line place item line (begin_words line.text)))
    (open_item (read_line limit place line)) (between 1 limit place line le)
step_if limit place (object_lines item begin object) line le =
    unless_if (object_line_fault limit begin place line) (object_step item begin object place line)
    (tests_if (starts_dash line) (is_end_line object.words line.text) (is_body object.text)
    (with_object item object (place + size line)) (object_lines item begin (with_line object line.text))
    (at begin ObjectBase64) (at place ObjectEnd))

all_after : (next : Result Open DocFault) (rest : Open → Contents) → ((open_ : Open) → AreLater (rest open_).items)
    → AreLater (proceed next rest).items
all_after (Ok open_) rest more = more open_
all_after (Err fault) rest more = tt

one_first : (whole : Option Item) (next : Result Open DocFault) (rest : Open → Contents)
    → NextIf (record { whole = whole; next = next }) → ((open_ : Open) → OpenFrom 1 open_ → AreFrom 1 (rest open_).items)
    → ((open_ : Open) → AreLater (rest open_).items) → AreLater (also whole (proceed next rest)).items
one_first None next rest h from later = all_after next rest later
one_first (Some item) next rest h from later = goes_on 1 next rest h from

last_later : (place : ℕ) (so_far : Open) → AreLater (at_end place so_far).items
last_later place nothing = tt
last_later place (keyword_line item) = tt
last_later place (object_lines item begin object) = tt

all_later : (limit place : ℕ) (so_far : Open) (list : List Line) → 1 ≤ place
    → AreLater (contents_of limit place so_far list).items
unfolding contents_of
all_later limit place so_far [] le = last_later place so_far
all_later limit place so_far (line ∷ rest) le =
    let made = step limit place so_far line in
    let more : Open → Contents = λ open_. contents_of limit (place + size line) open_ rest in
    one_first made.whole made.next more (step_if limit place so_far line le)
    (λ open_ o. all_from 1 limit (place + size line) open_ rest (omega (arith, le)) o)
    (λ open_. all_later limit (place + size line) open_ rest (omega (arith, le)))

-- ---- a text

-- the first of these lines, if there is one, has a byte
abbrev HasByte : List Line → Type 0
HasByte [] = Unit {0}
HasByte (line ∷ rest) = 1 ≤ size line

one_byte : (b : ℕ) (list : List Line) → HasByte (onto b list)
one_byte b [] = omega arith
one_byte b (line ∷ rest) = omega arith

lines_have : (bytes : List ℕ) → HasByte (lines bytes)
lines_have [] = tt
lines_have (b ∷ bytes) = by (eqb b 10) (one_byte b (lines bytes))
  where
    by : (is_nl : Bool) → HasByte (onto b (lines bytes))
        → HasByte (if is_nl then record { text = []; ended = true } ∷ lines bytes else onto b (lines bytes))
    by true h = omega arith
    by false h = h

text_later : (limit : ℕ) (list : List Line) → HasByte list → AreLater (contents_of limit 0 nothing list).items
unfolding contents_of
text_later limit [] h = tt
text_later limit (line ∷ rest) h =
    all_after (open_item (read_line limit 0 line)) (λ open_. contents_of limit (0 + size line) open_ rest)
    (λ open_. all_later limit (0 + size line) open_ rest (omega (arith, h)))

pub items_later : (limit : ℕ) (bytes : List ℕ) → AreLater (items_of limit bytes).items
items_later limit bytes = text_later (0 + limit) (lines bytes) (lines_have bytes)
