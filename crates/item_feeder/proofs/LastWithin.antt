-- What one more byte behind the limit makes of what the bytes hold, and that a line within the limit keeps it.
use Rattle.std.proofs.Common.{◌≡◌, ℕ, ◌+◌, ◌-◌, ◌<◌, ◌≤◌, ◌⊎◌, Bool, true, false, cond, eqb, List, [], ◌∷◌, ◌++◌}
use Rattle.std.proofs.Common.{length, Option, Some, None, Result, Ok, Err, refl, sym, ap, ◌∙◌, arith}
use Rattle.std.{proofs.lemmas.Bool.{eq-eqb, ne_eqb, false≢true}, specs.Prelude.{min, nat_lt, nat_le, ◌&&◌, IfSome}}
use Rattle.item_terms.specs.declared.fault.DocReason.{DocReason, TheVariants.{Keyword, Nul, Unterminated, ObjectWords}}
use Rattle.item_terms.specs.declared.fault.DocReason.TheVariants.{ObjectBase64, ObjectEnd, LineTooLong, DocumentTooLong}
use Rattle.item_terms.specs.{declared.fault.{DocReason.TheVariants.ObjectTooLong, DocFault.DocFault}, Lines.Line}
use Rattle.item_terms.specs.{Lines.size, Words.{nul_in, is_blank_line, is_keyword_line, begin_words, is_end_line}}
use Rattle.item_terms.specs.{Base64Text.is_body, Faults.{at, or_else, too_long, unterminated_fault, nul_fault}}
use Rattle.item_terms.specs.{Faults.{line_fault, object_line_fault, max_line, max_object}, Steps.{Item, Open, Step}}
use Rattle.item_terms.specs.Steps.{step, nothing, keyword_line, object_lines, keyword_item, begun_object, with_line}
use Rattle.item_terms.specs.Steps.{with_object, open_item, item_unless, open_unless, step_unless, object_step}
use Rattle.item_terms.specs.{Steps.{line_item, read_line, starts_dash, first_object_line}, Items.{Contents, contents}}
use Rattle.item_terms.specs.Items.{also, proceed, failed_contents}
use Rattle.item_feeder.proofs.BehindLimit.{Rest}

-- ---- what one more byte makes of what the bytes hold

abbrev pub over_by : DocReason → ℕ → DocFault → DocFault
over_by Unterminated limit fault = at limit DocumentTooLong
over_by Keyword limit fault = fault
over_by Nul limit fault = fault
over_by ObjectWords limit fault = fault
over_by ObjectBase64 limit fault = fault
over_by ObjectEnd limit fault = fault
over_by LineTooLong limit fault = fault
over_by DocumentTooLong limit fault = fault
over_by ObjectTooLong limit fault = fault

-- the fault: where the bytes had none, or end too early, the document is too long
abbrev pub over : ℕ → Option DocFault → DocFault
over limit None = at limit DocumentTooLong
over limit (Some fault) = over_by fault.reason limit fault

pub settled_by : (reason : DocReason) (limit : ℕ) (fault : DocFault) → (reason ≡ Unterminated → ⊥)
    → over_by reason limit fault ≡ fault
settled_by Unterminated limit fault h = absurd (h refl)
settled_by Keyword limit fault h = refl
settled_by Nul limit fault h = refl
settled_by ObjectWords limit fault h = refl
settled_by ObjectBase64 limit fault h = refl
settled_by ObjectEnd limit fault h = refl
settled_by LineTooLong limit fault h = refl
settled_by DocumentTooLong limit fault h = refl
settled_by ObjectTooLong limit fault h = refl

-- the items: where the byte is '-', without the one whose keyword line ends the bytes
abbrev pub keep : Bool → ℕ → List Item → List Item
keep dash limit [] = []
keep dash limit (item ∷ items) = cond (dash && eqb item.line_end limit) [] (item ∷ keep dash limit items)

abbrev pub past : Bool → ℕ → Contents → Contents
past dash limit contents = record { items = keep dash limit contents.items; fault = Some (over limit contents.fault) }

gone : (dash t : Bool) → t ≡ false → (dash && t) ≡ false
gone true t e = e
gone false t e = refl

kept : (dash : Bool) (limit : ℕ) (item : Item) (items : List Item) → (dash && eqb item.line_end limit) ≡ false
    → keep dash limit (item ∷ items) ≡ item ∷ keep dash limit items
kept dash limit item items e = ap (λ (t : Bool). cond t [] (item ∷ keep dash limit items)) e

earlier : (dash : Bool) (limit : ℕ) (item : Item) (items : List Item) → item.line_end < limit
    → keep dash limit (item ∷ items) ≡ item ∷ keep dash limit items
earlier dash limit item items lt =
    kept dash limit item items (gone dash _ (ne_eqb item.line_end limit (λ e. omega (arith, e, lt))))

-- an item that stays
pub stays : (dash : Bool) (limit : ℕ) (item : Item) (rest : Contents) → (dash && eqb item.line_end limit) ≡ false
    → past dash limit (also (Some item) rest) ≡ also (Some item) (past dash limit rest)
stays dash limit item rest e =
    ap (λ (l : List Item). record { items = l; fault = Some (over limit rest.fault) })
    (kept dash limit item rest.items e)

-- an item that goes
pub goes : (limit : ℕ) (item : Item) (rest : Contents) → item.line_end ≡ limit
    → past true limit (also (Some item) rest) ≡ failed_contents (over limit rest.fault)
goes limit item rest e =
    ap (λ (t : Bool). record {
      items = cond t [] (item ∷ keep true limit rest.items);
      fault = Some
          (over limit rest.fault);
    }) (eq-eqb item.line_end limit e)

-- ---- where a line ends within the limit

-- what a line may continue at a place
abbrev pub Fits : ℕ → Open → Type 0
Fits place nothing = Unit {0}
Fits place (keyword_line item) = item.line_end ≡ place
Fits place (object_lines item begin object) = item.line_end ≤ place

abbrev Settled : ℕ → Option DocFault → Type 0
Settled limit fault = IfSome fault (λ f. over limit (Some f) ≡ f)

abbrev pub NextFits : ℕ → ℕ → Result Open DocFault → Type 0
NextFits limit after (Ok open_) = Fits after open_
NextFits limit after (Err fault) = over limit (Some fault) ≡ fault

pub record StepFits (limit after : ℕ) (made : Step) : Type 0 where
  pub whole : IfSome made.whole (λ item. item.line_end < limit)
  pub next : NextFits limit after made.next

either : (limit : ℕ) (one other : Option DocFault) → Settled limit one → Settled limit other
    → Settled limit (or_else one other)
either limit None other a b = b
either limit (Some fault) other a b = a

long_by : (fits near : Bool) (limit a b : ℕ)
    → Settled limit (cond fits None (Some (cond near (at a DocumentTooLong) (at b LineTooLong))))
long_by true near limit a b = tt
long_by false true limit a b = refl
long_by false false limit a b = refl

ended_by : (ended : Bool) (limit place : ℕ) → ended ≡ true
    → Settled limit (cond ended None (Some (at place Unterminated)))
ended_by true limit place e = tt
ended_by false limit place e = absurd (false≢true e)

nul_by : (limit place : ℕ) (nul : Option ℕ) → Settled limit (nul_fault place nul)
nul_by limit place None = tt
nul_by limit place (Some i) = refl

settled : (limit place : ℕ) (line : Line) → line.ended ≡ true → Settled limit (line_fault limit place line)
settled limit place line e =
    either limit (too_long limit place (size line))
    (or_else (unterminated_fault place line) (nul_fault place (nul_in line.text)))
    (long_by (nat_le (size line) (min (limit - place) max_line)) (nat_le (limit - place) max_line) limit limit
    (place + max_line))
    (either limit (unterminated_fault place line) (nul_fault place (nul_in line.text))
    (ended_by line.ended limit (place + length line.text) e) (nul_by limit place (nul_in line.text)))

object_by : (long : Bool) (limit begin : ℕ) (other : Option DocFault) → Settled limit other
    → Settled limit (cond long (Some (at begin ObjectTooLong)) other)
object_by true limit begin other h = refl
object_by false limit begin other h = h

abbrev ReadFits : ℕ → ℕ → Result (Option Item) DocFault → Type 0
ReadFits limit after (Ok item) = IfSome item (λ i. i.line_end ≡ after)
ReadFits limit after (Err fault) = over limit (Some fault) ≡ fault

opened : (limit after : ℕ) (read : Result (Option Item) DocFault) → ReadFits limit after read
    → NextFits limit after (open_item read)
opened limit after (Ok None) h = tt
opened limit after (Ok (Some item)) h = h
opened limit after (Err fault) h = h

read_by : (limit after : ℕ) (fault : Option DocFault) (read : Result (Option Item) DocFault) → Settled limit fault
    → ReadFits limit after read → ReadFits limit after (item_unless fault read)
read_by limit after None read a b = b
read_by limit after (Some fault) read a b = a

kinds : (blank is_kw : Bool) (limit after place : ℕ) (item : Item) → item.line_end ≡ after
    → ReadFits limit after (cond blank (Ok None) (cond is_kw (Ok (Some item)) (Err (at place Keyword))))
kinds true is_kw limit after place item e = tt
kinds false true limit after place item e = e
kinds false false limit after place item e = refl

between : (limit place : ℕ) (line : Line) → line.ended ≡ true
    → NextFits limit (place + size line) (open_item (read_line limit place line))
between limit place line e =
    let after = place + size line in
    opened limit after (read_line limit place line)
    (read_by limit after (line_fault limit place line) (line_item place line) (settled limit place line e)
    (kinds (is_blank_line line.text) (is_keyword_line line.text) limit after place (keyword_item place line) refl))

begun : (long : Bool) (limit after place : ℕ) (open_ : Open) → Fits after open_
    → NextFits limit after (cond long (Err (at place ObjectTooLong)) (Ok open_))
begun true limit after place open_ h = refl
begun false limit after place open_ h = h

first_object_line_fits : (limit place : ℕ) (item : Item) (line : Line) (words : Option (List ℕ)) → item.line_end ≤ place + size line
    → NextFits limit (place + size line) (first_object_line place item line words)
first_object_line_fits limit place item line None le = refl
first_object_line_fits limit place item line (Some words) le =
    begun (nat_lt max_object (size line)) limit (place + size line) place
    (object_lines item place (begun_object place line words)) le

unless : (limit after : ℕ) (fault : Option DocFault) (next : Result Open DocFault) → Settled limit fault
    → NextFits limit after next → NextFits limit after (open_unless fault next)
unless limit after None next a b = b
unless limit after (Some fault) next a b = a

by_dash : (dash : Bool) (limit after : ℕ) (item : Item) (object other : Result Open DocFault) → item.line_end < limit
    → NextFits limit after object → NextFits limit after other
    → StepFits limit after (cond dash (record { whole = None; next = object })
    (record { whole = Some item; next = other }))
by_dash true limit after item object other lt a b = record { whole = tt; next = a }
by_dash false limit after item object other lt a b = record { whole = lt; next = b }

step_by : (limit after : ℕ) (fault : Option DocFault) (made : Step) → Settled limit fault → StepFits limit after made
    → StepFits limit after (step_unless fault made)
step_by limit after None made a b = b
step_by limit after (Some fault) made a b = record { whole = tt; next = a }

by_tests : (dash end_ body : Bool) (limit after begin place : ℕ) (whole : Item) (open_ : Open)
    → whole.line_end < limit → Fits after open_
    → StepFits limit after (cond dash (cond end_
    (cond body (record { whole = Some whole; next = Ok nothing })
    (record { whole = None; next = Err (at begin ObjectBase64) })) (record {
      whole = None;
      next = Err
          (at place ObjectEnd);
    })) (record { whole = None; next = Ok open_ }))
by_tests true true true limit after begin place whole open_ a b = record { whole = a; next = tt }
by_tests true true false limit after begin place whole open_ a b = record { whole = tt; next = refl }
by_tests true false body limit after begin place whole open_ a b = record { whole = tt; next = refl }
by_tests false end_ body limit after begin place whole open_ a b = record { whole = tt; next = b }

pub step_fits : (limit place : ℕ) (so_far : Open) (line : Line) → place < limit → line.ended ≡ true
    → Fits place so_far → StepFits limit (place + size line) (step limit place so_far line)
step_fits limit place nothing line lt e h = record { whole = tt; next = between limit place line e }
step_fits limit place (keyword_line item) line lt e h =
    let after = place + size line in
    by_dash (starts_dash line) limit after item
    (open_unless (line_fault limit place line) (first_object_line place item line (begin_words line.text)))
    (open_item (read_line limit place line))
    (omega (arith, lt, h))
    (unless limit after (line_fault limit place line) (first_object_line place item line (begin_words line.text))
    (settled limit place line e) (first_object_line_fits limit place item line (begin_words line.text) (omega (arith, h))))
    (between limit place line e)
step_fits limit place (object_lines item begin object) line lt e h =
    let room = max_object - (place - begin) in
    let after = place + size line in
    step_by limit after (object_line_fault limit begin place line) (object_step item begin object place line)
    (object_by (nat_lt room (min (limit - place) max_line) && nat_lt room (size line)) limit begin
    (line_fault limit place line) (settled limit place line e))
    (by_tests (starts_dash line) (is_end_line object.words line.text) (is_body object.text) limit after begin place
    (with_object item object after) (object_lines item begin (with_line object line.text)) (omega (arith, lt, h))
    (omega (arith, h)))

goes_on : (dash : Bool) (limit after : ℕ) (next : Result Open DocFault) (rest longer : Rest)
    → NextFits limit after next → ((open_ : Open) → Fits after open_ → longer open_ ≡ past dash limit (rest open_))
    → proceed next longer ≡ past dash limit (proceed next rest)
goes_on dash limit after (Ok open_) rest longer h more = more open_ h
goes_on dash limit after (Err fault) rest longer h more = ap failed_contents (sym h)

pub in_front : (dash : Bool) (limit : ℕ) (whole : Option Item) (rest : Contents)
    → IfSome whole (λ item. item.line_end < limit)
    → also whole (past dash limit rest) ≡ past dash limit (also whole rest)
in_front dash limit None rest h = refl
in_front dash limit (Some item) rest h =
    sym (ap (λ (l : List Item). record { items = l; fault = Some (over limit rest.fault) })
    (earlier dash limit item rest.items h))

pub after_step : (dash : Bool) (limit after : ℕ) (made : Step) (rest longer : Rest) → StepFits limit after made
    → ((open_ : Open) → Fits after open_ → longer open_ ≡ past dash limit (rest open_))
    → also made.whole (proceed made.next longer) ≡ past dash limit (also made.whole (proceed made.next rest))
after_step dash limit after made rest longer h more =
    ap (also made.whole) (goes_on dash limit after made.next rest longer h.next more)
    ∙ in_front dash limit made.whole (proceed made.next rest) h.whole
