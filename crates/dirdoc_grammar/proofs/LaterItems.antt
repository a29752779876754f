-- An item that is not known yet ends no earlier than the bytes that are there.
use Rattle.std.proofs.Common.{◌≡◌, ℕ, ◌+◌, ◌<◌, ◌≤◌, Bool, true, false, cond, List, [], ◌∷◌, ◌++◌, length, drop, Option}
use Rattle.std.proofs.Common.{Some, None, Result, Ok, Err, refl, sym, ap, subst, ◌∙◌, inl, inr, arith}
use Rattle.std.proofs.lemmas.{Bool.{cases_lt, lt-ltb, false≢true}, List.{length-append, length-drop, length-take}}
use Rattle.std.{proofs.lemmas.List.drop-append-le, specs.Prelude.nat_lt}
use Rattle.item_terms.specs.declared.fault.DocReason.TheVariants.{Keyword, ObjectTooLong, ObjectBase64, ObjectEnd}
use Rattle.item_terms.specs.{declared.fault.DocFault.DocFault, Lines.{Line, lines, size}, Words.is_blank_line}
use Rattle.item_terms.specs.{Words.{is_keyword_line, begin_words, is_end_line}, Base64Text.is_body, Faults.at}
use Rattle.item_terms.specs.{Faults.{line_fault, object_line_fault, max_object}, Steps.{Item, Open, Object, Step, step}}
use Rattle.item_terms.specs.Steps.{nothing, keyword_line, object_lines, keyword_item, begun_object, with_line}
use Rattle.item_terms.specs.Steps.{with_object, open_item, item_unless, open_unless, step_unless, object_step}
use Rattle.item_terms.specs.{Steps.{line_item, read_line, starts_dash, first_object_line}, Items.{Contents, contents}}
use Rattle.item_terms.specs.Items.{contents_of, also, proceed, at_end}
use Rattle.dirdoc_grammar.specs.declared.{cursor.Cursor.Cursor, front.{Stop.Stop, Found.TheVariants.Open as More}}
use Rattle.dirdoc_grammar.specs.{Cursors.{IsAt, IsOver, fed_by}, Feeding.{left_with, EndsNoEarlier}, Reading.first_line}
use Rattle.dirdoc_grammar.specs.Reading.{first_line_len, from_place, EndsFrom, Finds, InObject, IsCut, Stands}
use Rattle.dirdoc_grammar.proofs.{Endings.{cut_open, over_of}, FirstLine.at_first, LineSteps.{first_dash, dash_more}}
use Rattle.dirdoc_grammar.proofs.Quiet.{grows}
use Rattle.dirdoc_grammar.specs.declared.item.Item as found_item

-- the first of these items ends at this place or behind it
abbrev FirstFrom : ℕ → List Item → Type 0
FirstFrom n [] = Unit {0}
FirstFrom n (item ∷ items) = n ≤ item.after

weaken : (m n : ℕ) (items : List Item) → m ≤ n → FirstFrom n items → FirstFrom m items
weaken m n [] le h = tt
weaken m n (item ∷ items) le h = omega (arith, le, h)

-- ---- what a line makes

abbrev WholeFrom : ℕ → Option Item → Type 0
WholeFrom n None = Unit {0}
WholeFrom n (Some item) = n ≤ item.after

abbrev NextFrom : ℕ → Result Open DocFault → Type 0
NextFrom n (Ok open_) = EndsFrom n open_
NextFrom n (Err fault) = Unit {0}

abbrev ReadFrom : ℕ → Result (Option Item) DocFault → Type 0
ReadFrom n (Ok item) = WholeFrom n item
ReadFrom n (Err fault) = Unit {0}

opened : (n : ℕ) (read : Result (Option Item) DocFault) → ReadFrom n read → NextFrom n (open_item read)
opened n (Ok None) h = tt
opened n (Ok (Some item)) h = h
opened n (Err fault) h = tt

read_by : (n : ℕ) (fault : Option DocFault) (read : Result (Option Item) DocFault) → ReadFrom n read → ReadFrom n (item_unless fault read)
read_by n None read h = h
read_by n (Some fault) read h = tt

kinds : (blank is_kw : Bool) (n : ℕ) (item : Item) (fault : DocFault) → n ≤ item.after → ReadFrom n (cond blank (Ok None) (cond is_kw (Ok (Some item)) (Err fault)))
kinds true is_kw n item fault le = tt
kinds false true n item fault le = le
kinds false false n item fault le = tt

between : (limit place : ℕ) (line : Line) → NextFrom (place + size line) (open_item (read_line limit place line))
between limit place line =
    opened (place + size line) (read_line limit place line)
    (read_by (place + size line) (line_fault limit place line) (line_item place line)
    (kinds (is_blank_line line.text) (is_keyword_line line.text) (place + size line) (keyword_item place line) (at place Keyword) (omega arith)))

begun : (long : Bool) (n begin : ℕ) (fault : DocFault) (item : Item) (object : Object) → NextFrom n (cond long (Err fault) (Ok (object_lines item begin object)))
begun true n begin fault item object = tt
begun false n begin fault item object = tt

first_object_line_is_from : (n place : ℕ) (item : Item) (line : Line) (words : Option (List ℕ)) → NextFrom n (first_object_line place item line words)
first_object_line_is_from n place item line None = tt
first_object_line_is_from n place item line (Some words) = begun (nat_lt max_object (size line)) n place (at place ObjectTooLong) item (begun_object place line words)

unless : (n : ℕ) (fault : Option DocFault) (next : Result Open DocFault) → NextFrom n next → NextFrom n (open_unless fault next)
unless n None next h = h
unless n (Some fault) next h = tt

-- the item that is whole ends from one place on, and what is open from another
abbrev StepFrom : ℕ → ℕ → Step → Type 0
StepFrom m n made = WholeFrom m made.whole × NextFrom n made.next

by_dash : (dash : Bool) (m n : ℕ) (item : Item) (object other : Result Open DocFault) → (dash ≡ false → m ≤ item.after) → NextFrom n object → NextFrom n other
    → StepFrom m n (cond dash (record { whole = None; next = object }) (record { whole = Some item; next = other }))
by_dash true m n item object other le a b = (tt, a)
by_dash false m n item object other le a b = (le refl, b)

step_by : (m n : ℕ) (fault : Option DocFault) (made : Step) → StepFrom m n made → StepFrom m n (step_unless fault made)
step_by m n None made h = h
step_by m n (Some fault) made h = (tt, tt)

by_tests : (dash end_ body : Bool) (n begin : ℕ) (whole item : Item) (object : Object) (one other : DocFault) → n ≤ whole.after
    → StepFrom n n (cond dash (cond end_ (cond body (record { whole = Some whole; next = Ok nothing }) (record { whole = None; next = Err one })) (record { whole = None; next = Err other })) (record { whole = None; next = Ok (object_lines item begin object) }))
by_tests true true true n begin whole item object one other le = (le, tt)
by_tests true true false n begin whole item object one other le = (tt, tt)
by_tests true false body n begin whole item object one other le = (tt, tt)
by_tests false end_ body n begin whole item object one other le = (tt, tt)

object_from : (limit begin place : ℕ) (item : Item) (object : Object) (line : Line) → StepFrom (place + size line) (place + size line) (step limit place (object_lines item begin object) line)
object_from limit begin place item object line =
    step_by (place + size line) (place + size line) (object_line_fault limit begin place line) (object_step item begin object place line)
    (by_tests (starts_dash line) (is_end_line object.words line.text) (is_body object.text) (place + size line) begin (with_object item object (place + size line)) item (with_line object line.text) (at begin ObjectBase64) (at place ObjectEnd) (omega arith))

keyword_from : (m limit place : ℕ) (item : Item) (line : Line) → (starts_dash line ≡ false → m ≤ item.after) → StepFrom m (place + size line) (step limit place (keyword_line item) line)
keyword_from m limit place item line le =
    by_dash (starts_dash line) m (place + size line) item (open_unless (line_fault limit place line) (first_object_line place item line (begin_words line.text))) (open_item (read_line limit place line)) le
    (unless (place + size line) (line_fault limit place line) (first_object_line place item line (begin_words line.text)) (first_object_line_is_from (place + size line) place item line (begin_words line.text)))
    (between limit place line)

earlier : (m n : ℕ) (whole : Option Item) → m ≤ n → WholeFrom n whole → WholeFrom m whole
earlier m n None le h = tt
earlier m n (Some item) le h = omega (arith, le, h)

step_from : (limit place : ℕ) (so_far : Open) (line : Line) → EndsFrom place so_far → StepFrom place (place + size line) (step limit place so_far line)
step_from limit place nothing line h = (tt, between limit place line)
step_from limit place (keyword_line item) line h = keyword_from place limit place item line (λ plain. h)
step_from limit place (object_lines item begin object) line h =
    let there = object_from limit begin place item object line in
    (earlier place (place + size line) (step limit place (object_lines item begin object) line).whole (omega arith) there.0, there.1)

-- a line of an object, or between items
inside_from : (limit place : ℕ) (so_far : Open) (line : Line) → InObject so_far line → StepFrom (place + size line) (place + size line) (step limit place so_far line)
inside_from limit place nothing line h = (tt, between limit place line)
inside_from limit place (keyword_line item) line h = keyword_from (place + size line) limit place item line (λ plain. absurd (false≢true (sym plain ∙ h)))
inside_from limit place (object_lines item begin object) line h = object_from limit begin place item object line

-- ---- what a text holds

in_front : (n : ℕ) (whole : Option Item) (rest : Contents) → WholeFrom n whole → FirstFrom n rest.items → FirstFrom n (also whole rest).items
in_front n None rest a b = b
in_front n (Some item) rest a b = a

goes_on : (n : ℕ) (next : Result Open DocFault) (rest : Open → Contents) → NextFrom n next → ((open_ : Open) → EndsFrom n open_ → FirstFrom n (rest open_).items) → FirstFrom n (proceed next rest).items
goes_on n (Ok open_) rest h more = more open_ h
goes_on n (Err fault) rest h more = tt

at_last : (place : ℕ) (so_far : Open) → EndsFrom place so_far → FirstFrom place (at_end place so_far).items
at_last place nothing h = tt
at_last place (keyword_line item) h = h
at_last place (object_lines item begin object) h = tt

first_from : (limit place : ℕ) (so_far : Open) (list : List Line) → EndsFrom place so_far → FirstFrom place (contents_of limit place so_far list).items
unfolding contents_of
first_from limit place so_far [] h = at_last place so_far h
first_from limit place so_far (line ∷ rest) h =
    let made = step limit place so_far line in
    let more : Open → Contents = λ open_. contents_of limit (place + size line) open_ rest in
    let there = step_from limit place so_far line h in
    in_front place made.whole (proceed made.next more) there.0
    (weaken place (place + size line) (proceed made.next more).items (omega arith)
    (goes_on (place + size line) made.next more there.1 (λ open_ o. first_from limit (place + size line) open_ rest o)))

-- a first line that does not end in the bytes
behind_line : (limit place n : ℕ) (so_far : Open) (rest : List ℕ) → 0 < length rest → n ≤ place + size (first_line rest) → InObject so_far (first_line rest) → FirstFrom n (contents limit place so_far rest).items
behind_line limit place n so_far rest some le dash =
    let line = first_line rest in
    let made = step limit place so_far line in
    let more : Open → Contents = λ next. contents limit (place + size line) next (drop (size line) rest) in
    let there = inside_from limit place so_far line dash in
    let all : FirstFrom (place + size line) (also made.whole (proceed made.next more)).items =
    in_front (place + size line) made.whole (proceed made.next more) there.0
    (goes_on (place + size line) made.next more there.1 (λ open_ o. first_from limit (place + size line) open_ (lines (drop (size line) rest)) o)) in
    weaken n (place + size line) (contents limit place so_far rest).items le
    (subst (λ (c : Contents). FirstFrom (place + size line) c.items) (sym (at_first limit place so_far rest some)) all)

-- ---- bytes that end before a line, or within it

unended : (rest : List ℕ) → (first_line rest).ended ≡ false → length rest ≤ first_line_len rest
unended rest e = elim (cases_lt (first_line_len rest) (length rest)) [
  | inl lt ↦ absurd (false≢true (sym e ∙ lt-ltb _ _ lt))
  | inr le ↦ le
]

longer : (rest more : List ℕ) → (first_line rest).ended ≡ false → length rest ≤ size (first_line (rest ++ more))
longer rest more e =
    let all : List ℕ = rest ++ more in
    let text : length rest ≤ length (first_line all).text =
    omega (arith, unended rest e, grows rest more, length-append rest more, length-take (first_line_len all) all) in
    omega (arith, text)

dash_on : (limit line : ℕ) (open_ : Open) (bytes more : List ℕ) → IsCut limit line open_ bytes → InObject open_ (first_line (drop line (bytes ++ more)))
dash_on limit line nothing bytes more cut = tt
dash_on limit line (keyword_line item) bytes more cut =
    sym (first_dash (drop line (bytes ++ more))) ∙ dash_more line bytes more cut.inside ∙ first_dash (drop line bytes) ∙ cut.object
dash_on limit line (object_lines item begin object) bytes more cut = tt

over_from : (limit line : ℕ) (open_ : Open) (bytes more : List ℕ) → IsOver limit line open_ bytes → EndsFrom line open_ → FirstFrom (length bytes) (from_place limit line open_ (bytes ++ more)).items
over_from limit line open_ bytes more (inl e) h =
    weaken (length bytes) line (from_place limit line open_ (bytes ++ more)).items (omega (arith, e)) (first_from limit line open_ (lines (drop line (bytes ++ more))) h)
over_from limit line open_ bytes more (inr cut) h =
    let rest : List ℕ = drop line bytes in
    let inside = cut.inside in
    let same : drop line (bytes ++ more) ≡ rest ++ more = drop-append-le line bytes more (omega (arith, inside)) in
    let far : length rest ≤ size (first_line (drop line (bytes ++ more))) =
    subst (λ (l : List ℕ). length rest ≤ size (first_line l)) (sym same) (longer rest more (cut_open limit line open_ bytes cut)) in
    behind_line limit line (length bytes) open_ (drop line (bytes ++ more))
    (omega (arith, inside, length-drop line (bytes ++ more), length-append bytes more))
    (omega (arith, far, inside, length-drop line bytes))
    (dash_on limit line open_ bytes more cut)

-- what comes next ends no earlier than the bytes
pub later_of : (bytes : List ℕ) (cursor : Cursor) (stands : Stands cursor.limit cursor.place nothing bytes cursor.stop.line cursor.stop.phase) → IsOver cursor.limit cursor.stop.line stands.open_ bytes
    → EndsNoEarlier (length bytes) (fed_by cursor bytes false)
later_of bytes cursor stands over more item rest e =
    let le : cursor.place ≤ length bytes = omega (arith, stands.order, stands.within) in
    let here : left_with (fed_by cursor bytes false) more ≡ from_place cursor.limit cursor.stop.line stands.open_ (bytes ++ more) =
    ap (λ (l : List ℕ). contents cursor.limit cursor.place nothing l) (sym (drop-append-le cursor.place bytes more le)) ∙ stands.same more in
    subst (λ (c : Contents). FirstFrom (length bytes) c.items) (sym here ∙ e) (over_from cursor.limit cursor.stop.line stands.open_ bytes more over stands.behind)

-- the same where the reading of an item stops
pub later_at : (bytes : List ℕ) (cursor : Cursor) (stop : Stop) (last : Option found_item.Item) → IsAt bytes cursor → Finds cursor.limit cursor.stop.item bytes (More stop last)
    → EndsNoEarlier (length bytes) (fed_by (record cursor { stop = stop; scanned = length bytes }) bytes false)
later_at bytes cursor stop last is found =
    let s = found.3.stands in
    let there : Stands cursor.limit cursor.place nothing bytes stop.line stop.phase = record {
      open_ = s.open_;
      kind = s.kind;
      behind = s.behind;
      same = λ more. is.item more ∙ s.same more;
      order = omega (arith, is.taken, s.order);
      within = s.within;
    } in
    later_of bytes (record cursor { stop = stop; scanned = length bytes }) there (over_of cursor.limit stop.line s.open_ bytes last found.3.ends)
