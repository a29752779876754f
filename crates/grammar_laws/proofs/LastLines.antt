-- The lines up to the end of an item that has an object; and such an item that ends where the text ends is the last.
use Rattle.std.proofs.Common.{◌≡◌, ℕ, ◌+◌, ◌≤◌, Bool, true, false, List, [], ◌∷◌, ◌++◌, Option, Some, None, Result, Ok}
use Rattle.std.{proofs.Common.{Err, refl, sym, ap, subst, ◌∙◌, arith, append-nil}, specs.Prelude.if◌then◌else◌}
use Rattle.std.specs.Prelude.{nat_lt, is_some}
use Rattle.item_terms.specs.declared.fault.{DocFault.DocFault, DocReason.TheVariants.{Keyword, ObjectTooLong}}
use Rattle.item_terms.specs.{Base64Text.is_body, Faults.{at, line_fault, max_object, object_line_fault}}
use Rattle.item_terms.specs.{Words.{begin_words, is_blank_line, is_end_line, is_keyword_line}, Items.{Contents, also}}
use Rattle.item_terms.specs.{Items.{at_end, contents_of, proceed}, Lines.{Line, size}, Steps.{Item, Object, Open, Step}}
use Rattle.item_terms.specs.Steps.{begun_object, first_object_line, item_unless, keyword_item, keyword_line, nothing}
use Rattle.item_terms.specs.Steps.{object_lines, object_step, open_item, open_unless, read_line, starts_dash, step}
use Rattle.item_terms.specs.Steps.{step_unless}
use Rattle.grammar_laws.{specs.Moved.{Reads, sizes, with_whole}, proofs.MovedLines.{after_line, object_made}}

-- an item that is open after its line has no object
abbrev pub IsPlain : Open → Type 0
IsPlain nothing = Unit {0}
IsPlain (keyword_line item) = item.object ≡ None
IsPlain (object_lines item begin object) = Unit {0}

abbrev IsPlainNext : Result Open DocFault → Type 0
IsPlainNext (Ok open_) = IsPlain open_
IsPlainNext (Err fault) = Unit {0}

plain_read : (limit place : ℕ) (line : Line) → IsPlainNext (open_item (read_line limit place line))
plain_read limit place line = by (line_fault limit place line) (is_blank_line line.text) (is_keyword_line line.text)
  where
    by : (f : Option DocFault) (blank key : Bool)
        → IsPlainNext (open_item (item_unless f
        (if blank then Ok None else if key then Ok (Some (keyword_item place line)) else Err (at place Keyword))))
    by (Some f) blank key = tt
    by None true key = tt
    by None false true = refl
    by None false false = tt

plain_begun : (limit place : ℕ) (item : Item) (line : Line)
    → IsPlainNext (open_unless (line_fault limit place line)
    (first_object_line place item line (begin_words line.text)))
plain_begun limit place item line =
    by (line_fault limit place line) (begin_words line.text) (nat_lt max_object (size line))
  where
    by_size : (t : Bool) (words : List ℕ)
        → IsPlainNext (if t then Err (at place ObjectTooLong) else Ok
        (object_lines item place (begun_object place line words)))
    by_size true words = tt
    by_size false words = tt

    by : (f : Option DocFault) (words : Option (List ℕ)) (t : Bool)
        → IsPlainNext (open_unless f (first_object_line place item line words))
    by (Some f) words t = tt
    by None None t = tt
    by None (Some words) t = by_size (nat_lt max_object (size line)) words

-- What a line makes: nothing open may have an object, and an item that it makes whole and that has an object ends with
-- it, so that nothing is open.
record IsStep (place : ℕ) (line : Line) (made : Step) : Type 0 where
  plain : IsPlainNext made.next
  ends : (item : Item) → made.whole ≡ Some item → is_some item.object ≡ true
      → (made.next ≡ Ok nothing) × (item.after ≡ place + size line)

object_is : (place : ℕ) (line : Line) (item : Item) (begin : ℕ) (object : Object) (dash end_ body : Bool)
    → IsStep place line (object_made line place item begin object dash end_ body)
object_is place line item begin object true true true = record {
  plain = tt;
  ends = λ other is some. (refl, ap after_if (sym is));
}
  where
    after_if : Option Item → ℕ
    after_if None = 0
    after_if (Some other) = other.after
object_is place line item begin object true true false = record { plain = tt; ends = λ other is some. absurd (cc is) }
object_is place line item begin object true false body = record { plain = tt; ends = λ other is some. absurd (cc is) }
object_is place line item begin object false end_ body = record { plain = tt; ends = λ other is some. absurd (cc is) }

faulty_is : (place : ℕ) (line : Line) (item : Item) (begin : ℕ) (object : Object) (f : Option DocFault)
    → IsStep place line (step_unless f (object_step item begin object place line))
faulty_is place line item begin object None =
    object_is place line item begin object (starts_dash line) (is_end_line object.words line.text) (is_body object.text)
faulty_is place line item begin object (Some f) = record { plain = tt; ends = λ other is some. absurd (cc is) }

step_is : (limit place : ℕ) (open_ : Open) (line : Line) → IsPlain open_
    → IsStep place line (step limit place open_ line)
step_is limit place nothing line plain = record {
  plain = plain_read limit place line;
  ends = λ other is some. absurd (cc is);
}
step_is limit place (keyword_line item) line plain = by (starts_dash line)
  where
    none_there : (other : Item) → Some item ≡ Some other → is_some other.object ≡ true → ⊥
    none_there other is some =
        let same : is_some item.object ≡ is_some other.object = ap some_if is in
        let none : is_some item.object ≡ false = ap (λ (o : Option Object). is_some o) plain in
        cc (sym none ∙ same ∙ some)
      where
        some_if : Option Item → Bool
        some_if None = false
        some_if (Some one) = is_some one.object

    by : (dash : Bool) → IsStep place line
        (after_line dash (open_unless (line_fault limit place line)
        (first_object_line place item line (begin_words line.text))) item (open_item (read_line limit place line)))
    by true = record { plain = plain_begun limit place item line; ends = λ other is some. absurd (cc is) }
    by false = record { plain = plain_read limit place line; ends = λ other is some. absurd (none_there other is some) }
step_is limit place (object_lines item begin object) line plain =
    faulty_is place line item begin object (object_line_fault limit begin place line)

-- ---- lines

-- each has a byte
abbrev pub AllSome : List Line → Type 0
AllSome [] = Unit {0}
AllSome (line ∷ rest) = (1 ≤ size line) × AllSome rest

some_behind : (first more : List Line) → AllSome (first ++ more) → AllSome more
some_behind [] more all = all
some_behind (line ∷ first) more all = some_behind first more all.1

pub sizes_both : (first more : List Line) → sizes (first ++ more) ≡ sizes first + sizes more
sizes_both [] more = omega arith
sizes_both (line ∷ first) more = let e = sizes_both first more in omega (arith, e)

no_more : (rest : List Line) → AllSome rest → sizes rest ≡ 0 → rest ≡ []
no_more [] some e = refl
no_more (line ∷ rest) some e = absurd (omega (arith, e, some.0))

abbrev item_if : List Item → Option Item
item_if [] = None
item_if (item ∷ items) = Some item

abbrev items_behind : List Item → List Item
items_behind [] = []
items_behind (item ∷ items) = items

not_empty : (front : List Item) (item : Item) (back : List Item) → [] ≡ front ++ item ∷ back → ⊥
not_empty [] item back e = cc e
not_empty (f ∷ front) item back e = cc e

at_end_is : (place : ℕ) (open_ : Open) → IsPlain open_ → (front : List Item) (item : Item) (back : List Item)
    → (at_end place open_).items ≡ front ++ item ∷ back → is_some item.object ≡ true → ⊥
at_end_is place nothing plain front item back is some = not_empty front item back is
at_end_is place (keyword_line one) plain [] item back is some =
    let same : is_some one.object ≡ is_some item.object = ap (λ (l : List Item). some_of l) is in
    let none : is_some one.object ≡ false = ap (λ (o : Option Object). is_some o) plain in
    cc (sym none ∙ same ∙ some)
  where
    some_of : List Item → Bool
    some_of [] = false
    some_of (i ∷ items) = is_some i.object
at_end_is place (keyword_line one) plain (f ∷ front) item back is some =
    not_empty front item back (ap items_behind is)
at_end_is place (object_lines one begin object) plain front item back is some = not_empty front item back is

-- The lines up to the end of an item that has an object: they have no fault, make the items up to it, and nothing is
-- open behind them.
pub record IsCut (limit place : ℕ) (open_ : Open) (ls : List Line) (front : List Item) (item : Item)
    (back : List Item) : Type 0 where
  pub first : List Line
  pub more : List Line
  pub parts : ls ≡ first ++ more
  pub reads : Reads limit place open_ first (front ++ item ∷ []) nothing
  pub ends : item.after ≡ place + sizes first
  pub behind : (contents_of limit (place + sizes first) nothing more).items ≡ back

-- Where an item with an object is among the items of lines, those lines are cut behind it.
pub cut_lines : (limit place : ℕ) (open_ : Open) (ls : List Line) → IsPlain open_
    → (front : List Item) (item : Item) (back : List Item)
    → (contents_of limit place open_ ls).items ≡ front ++ item ∷ back → is_some item.object ≡ true
    → IsCut limit place open_ ls front item back
unfolding contents_of
cut_lines limit place open_ [] plain front item back is some =
    absurd (at_end_is place open_ plain front item back is some)
cut_lines limit place open_ (line ∷ rest) plain front item back is some =
    by (λ next plain front is. cut_lines limit (place + size line) next rest plain front item back is some)
    made.whole made.next refl refl front is
  where
    made : Step
    made = step limit place open_ line

    rests : Open → Contents
    rests next = contents_of limit (place + size line) next rest

    kept : IsStep place line made
    kept = step_is limit place open_ line plain

    -- one line more in front
    longer : (w : Option Item) (next : Open) (front others : List Item) → made.whole ≡ w → made.next ≡ Ok next
        → front ++ item ∷ [] ≡ with_whole w (others ++ item ∷ [])
        → IsCut limit (place + size line) next rest others item back
        → IsCut limit place open_ (line ∷ rest) front item back
    longer w next front others ew ex come cut =
        let ends : place + size line + sizes cut.first ≡ place + sizes (line ∷ cut.first) = omega arith in
        record {
          first = line ∷ cut.first;
          more = cut.more;
          parts = ap (λ (l : List Line). line ∷ l) cut.parts;
          reads = (w, next, others ++ item ∷ [], (λ i. record { whole = ew i; next = ex i }), come, cut.reads);
          ends = cut.ends ∙ ends;
          behind = ap (λ (k : ℕ). (contents_of limit k nothing cut.more).items) (sym ends) ∙ cut.behind;
        }

    by : ((next : Open) → IsPlain next → (front : List Item) → (rests next).items ≡ front ++ item ∷ back
        → IsCut limit (place + size line) next rest front item back)
        → (w : Option Item) (x : Result Open DocFault) → made.whole ≡ w → made.next ≡ x → (front : List Item)
        → (also w (proceed x rests)).items ≡ front ++ item ∷ back
        → IsCut limit place open_ (line ∷ rest) front item back
    by again None (Err f) ew ex front is = absurd (not_empty front item back is)
    by again (Some i) (Err f) ew ex [] is =
        let same : Some i ≡ Some item = ap item_if is in
        let there = kept.ends item (ew ∙ same) some in
        absurd (cc (sym ex ∙ there.0))
    by again (Some i) (Err f) ew ex (g ∷ front) is = absurd (not_empty front item back (ap items_behind is))
    by again None (Ok next) ew ex front is =
        longer None next front front ew ex refl (again next (subst IsPlainNext ex kept.plain) front is)
    by again (Some i) (Ok next) ew ex (g ∷ front) is =
        let same : Some i ≡ Some g = ap item_if is in
        longer (Some g) next (g ∷ front) front (ew ∙ same) ex refl
        (again next (subst IsPlainNext ex kept.plain) front (ap items_behind is))
    by again (Some i) (Ok next) ew ex [] is =
        let same : Some i ≡ Some item = ap item_if is in
        let there = kept.ends item (ew ∙ same) some in
        let n : Ok next ≡ Ok nothing = sym ex ∙ there.0 in
        let left : (rests next).items ≡ back = ap items_behind is in
        let end : place + size line ≡ place + sizes (line ∷ []) = omega arith in
        record {
          first = line ∷ [];
          more = rest;
          parts = refl;
          reads =
              (Some item, nothing, [], (λ j. record { whole = (ew ∙ same) j; next = there.0 j }), refl, (refl, refl));
          ends = there.1 ∙ end;
          behind =
              ap (λ (k : ℕ). (contents_of limit k nothing rest).items) (sym end)
              ∙ sym (ap (λ (x : Result Open DocFault). (proceed x rests).items) n) ∙ left;
        }

-- ---- the last item of a text

-- the lines have no fault, make these items, and none is behind them
pub record IsLast (limit place : ℕ) (ls : List Line) (front : List Item) (item : Item) (back : List Item) : Type 0 where
  pub reads : Reads limit place nothing ls (front ++ item ∷ []) nothing
  pub none : back ≡ []

-- Where an item with an object ends where the lines end, it is the last.
pub last_lines : (limit place : ℕ) (ls : List Line) → AllSome ls → (front : List Item) (item : Item) (back : List Item)
    → (contents_of limit place nothing ls).items ≡ front ++ item ∷ back → item.after ≡ place + sizes ls
    → is_some item.object ≡ true → IsLast limit place ls front item back
unfolding contents_of
last_lines limit place ls sizes_ front item back is ends some =
    let cut = cut_lines limit place nothing ls tt front item back is some in
    let size : place + sizes cut.first ≡ place + (sizes cut.first + sizes cut.more) =
    sym cut.ends ∙ ends ∙ ap (λ (l : List Line). place + sizes l) cut.parts
    ∙ ap (λ (n : ℕ). place + n) (sizes_both cut.first cut.more) in
    let nothing_left =
    no_more cut.more (some_behind cut.first cut.more (subst AllSome cut.parts sizes_)) (omega (arith, size)) in
    let whole : ls ≡ cut.first =
    cut.parts ∙ ap (λ (l : List Line). cut.first ++ l) nothing_left ∙ append-nil cut.first in
    record {
      reads = subst (λ (l : List Line). Reads limit place nothing l (front ++ item ∷ []) nothing) (sym whole) cut.reads;
      none =
          sym cut.behind
          ∙ ap (λ (l : List Line). (contents_of limit (place + sizes cut.first) nothing l).items) nothing_left;
    }
