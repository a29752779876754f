-- The items that are found are those of a front of the lines, and of all lines where no fault is found.
use Rattle.std.proofs.Common.{◌≡◌, ℕ, ◌+◌, Bool, true, false, cond, List, [], ◌∷◌, ◌++◌, drop, Option, Some, None, Ok}
use Rattle.std.proofs.{Common.{Err, refl, sym, ap, subst, ◌∙◌, append_assoc, arith}, lemmas.Bool.{ltb-true, ltb-false}}
use Rattle.std.{proofs.lemmas.List.append-nil, specs.Prelude.{nat_lt, ◌&&◌}}
use Rattle.item_terms.specs.declared.fault.{DocFault.DocFault, DocReason.TheVariants.{Keyword, ObjectWords}}
use Rattle.item_terms.specs.declared.fault.DocReason.TheVariants.{Unterminated, ObjectBase64, ObjectEnd, ObjectTooLong}
use Rattle.item_terms.specs.{Lines.{Line, lines, size}, Words.{is_blank_line, is_keyword_line, begin_words}}
use Rattle.item_terms.specs.{Words.is_end_line, Base64Text.is_body, Faults.{at, line_fault, object_line_fault}}
use Rattle.item_terms.specs.{Faults.max_object, Steps.{Item, Open, Step, Object, step, nothing, keyword_line}}
use Rattle.item_terms.specs.Steps.{object_lines, keyword_item, begun_object, with_line, with_object, open_item}
use Rattle.item_terms.specs.Steps.{item_unless, open_unless, step_unless, read_line, starts_dash, first_object_line}
use Rattle.item_terms.specs.Items.{Contents, contents_of, also, proceed, failed_contents, at_end, items_from}
use Rattle.grammar_laws.proofs.{BlockLines.{sizes_append, dash_no_keyword, last_append}, OpenFronts.{Left, HasFront}}
use Rattle.grammar_laws.proofs.OpenFronts.{stops, ends, front_blank, front_item, OpensItem, OpensObject, Opens}
use Rattle.grammar_laws.{proofs.OpenFronts.front_alone, specs.BlockFaults.{IsFaultBetween, IsFaultOfBegin}}
use Rattle.grammar_laws.specs.BlockFaults.{IsFaultInside, IsFaultAfter, HasFault, EndInFault, begin_with_dash}
use Rattle.grammar_laws.specs.{BlockFaults.end_in_keyword_line, Blocks.{sizes, text_of, IsBeginLine, IsBodyLine}}
use Rattle.grammar_laws.specs.Blocks.{IsEndLine, AreBodyLines, AreLinesOfObject, AreLinesOfItem, AreLinesOfItems}
use Rattle.grammar_laws.specs.Blocks.{ItemsAreThere}

text_more : (front : List Line) (line : Line) → text_of (front ++ line ∷ []) ≡ text_of front ++ line.text ++ 10 ∷ []
text_more [] line = refl
text_more (other ∷ front) line =
    ap (λ (t : List ℕ). other.text ++ 10 ∷ t) (text_more front line)
    ∙ sym (append_assoc other.text ((10 ∷ text_of front) ++ line.text) (10 ∷ []))
    ∙ ap (λ (t : List ℕ). t ++ 10 ∷ []) (sym (append_assoc other.text (10 ∷ text_of front) line.text))

body_more : (limit begin place : ℕ) (front : List Line) (line : Line) → AreBodyLines limit begin place front → IsBodyLine limit begin (place + sizes front) line → AreBodyLines limit begin place (front ++ line ∷ [])
body_more limit begin place [] line h l = (subst (λ (k : ℕ). IsBodyLine limit begin k line) (omega arith) l, tt)
body_more limit begin place (other ∷ front) line h l =
    (h.0, body_more limit begin (place + size other) front line h.1 (subst (λ (k : ℕ). IsBodyLine limit begin k line) (omega arith) l))

-- ---- a line between items

between : (limit place : ℕ) (line : Line) (rest : List Line) (more : Open → Contents) (fault : Option DocFault) (blank is_keyword : Bool) → line_fault limit place line ≡ fault → is_blank_line line.text ≡ blank → is_keyword_line line.text ≡ is_keyword
    → HasFront limit (place + size line) rest (more nothing)
    → (OpensItem limit place (place + size line) (line ∷ []) (keyword_item place line) → HasFront limit place (line ∷ rest) (more (keyword_line (keyword_item place line))))
    → HasFront limit place (line ∷ rest) (proceed (open_item (item_unless fault (cond blank (Ok None) (cond is_keyword (Ok (Some (keyword_item place line))) (Err (at place Keyword)))))) more)
between limit place line rest more (Some fault) blank is_keyword e b k n i = stops limit place (line ∷ rest) fault (HasFault.between line rest refl (IsFaultBetween.unsound e))
between limit place line rest more None true is_keyword e b k n i = front_blank limit place line rest (more nothing) (record { blank = b; sound = e }) n
between limit place line rest more None false true e b k n i = i (record { line = line; lines = refl; begins = record { keyword = k; sound = e }; made = refl; next = refl })
between limit place line rest more None false false e b k n i = stops limit place (line ∷ rest) (at place Keyword) (HasFault.between line rest refl (IsFaultBetween.neither e b k refl))

-- ---- the line after a keyword line, where it begins with '-'

-- the object that this line begins
begun : (limit p place : ℕ) (before : List Line) (item : Item) (line : Line) (words : List ℕ) → OpensItem limit p place before item → line_fault limit place line ≡ None → begin_words line.text ≡ Some words → nat_lt max_object (size line) ≡ false
    → OpensObject limit p (place + size line) (before ++ line ∷ []) item place (begun_object place line words)
begun limit p place before item line words o e w short = record {
  line = o.line;
  first = line;
  body = [];
  lines = ap (λ (b : List Line). b ++ line ∷ []) o.lines;
  keyword = o.begins;
  made = o.made;
  begin_is = o.next;
  begins = record { begins = w; sound = e; fits = ltb-false max_object (size line) short };
  start = refl;
  inside = tt;
  text = refl;
  next = omega arith;
}

-- the fault of a line that begins no object
no_object : (limit p place : ℕ) (before : List Line) (item : Item) (line : Line) (rest : List Line) (fault : DocFault) → OpensItem limit p place before item → starts_dash line ≡ true → IsFaultOfBegin limit place line fault
    → HasFront limit p ((before ++ line ∷ []) ++ rest) (failed_contents fault)
no_object limit p place before item line rest fault o d h =
    stops limit p ((before ++ line ∷ []) ++ rest) fault
    (HasFault.begin o.line line rest (ap (λ (b : List Line). (b ++ line ∷ []) ++ rest) o.lines) o.begins d (subst (λ (k : ℕ). IsFaultOfBegin limit k line fault) o.next h))

dashed : (limit p place : ℕ) (before : List Line) (item : Item) (line : Line) (rest : List Line) (more : Open → Contents) (fault : Option DocFault) (found : Option (List ℕ)) → OpensItem limit p place before item
    → starts_dash line ≡ true → line_fault limit place line ≡ fault → begin_words line.text ≡ found
    → ((words : List ℕ) → OpensObject limit p (place + size line) (before ++ line ∷ []) item place (begun_object place line words) → HasFront limit p ((before ++ line ∷ []) ++ rest) (more (object_lines item place (begun_object place line words))))
    → HasFront limit p ((before ++ line ∷ []) ++ rest) (proceed (open_unless fault (first_object_line place item line found)) more)
dashed limit p place before item line rest more (Some fault) found o d e w h = no_object limit p place before item line rest fault o d (IsFaultOfBegin.unsound e)
dashed limit p place before item line rest more None None o d e w h = no_object limit p place before item line rest (at place ObjectWords) o d (IsFaultOfBegin.no_begin e w refl)
dashed limit p place before item line rest more None (Some words) o d e w h =
    let object = begun_object place line words in
    elim (nat_lt max_object (size line)) as (λ long. nat_lt max_object (size line) ≡ long → HasFront limit p ((before ++ line ∷ []) ++ rest) (proceed (cond long (Err (at place ObjectTooLong)) (Ok (object_lines item place object))) more)) [
      | true ↦ λ long. no_object limit p place before item line rest (at place ObjectTooLong) o d (IsFaultOfBegin.too_long words e w (ltb-true max_object (size line) long) refl)
      | false ↦ λ short. h words (begun limit p place before item line words o e w short)
    ] refl

-- ---- a line of an object

-- the object with one more line
grown : (limit p place : ℕ) (before : List Line) (item : Item) (begin : ℕ) (object : Object) (line : Line) → OpensObject limit p place before item begin object → IsBodyLine limit begin place line
    → OpensObject limit p (place + size line) (before ++ line ∷ []) item begin (with_line object line.text)
grown limit p place before item begin object line o l = record {
  line = o.line;
  first = o.first;
  body = o.body ++ line ∷ [];
  lines = ap (λ (b : List Line). b ++ line ∷ []) o.lines;
  keyword = o.keyword;
  made = o.made;
  begin_is = o.begin_is;
  begins = o.begins;
  start = o.start;
  inside = body_more limit begin (begin + size o.first) o.body line o.inside (subst (λ (k : ℕ). IsBodyLine limit begin k line) o.next l);
  text = ap (λ (t : List ℕ). t ++ line.text ++ 10 ∷ []) o.text ∙ sym (text_more o.body line);
  next = omega (arith, o.next, sizes_append o.body (line ∷ []));
}

-- the object that this line ends
object_whole : (limit p place : ℕ) (before : List Line) (item : Item) (begin : ℕ) (object : Object) (line : Line) (o : OpensObject limit p place before item begin object) → is_body object.text ≡ true → IsEndLine limit begin place line object.words
    → AreLinesOfObject limit begin (o.first ∷ o.body ++ line ∷ []) object
object_whole limit p place before item begin object line o b l = record {
  first = o.first;
  body = o.body;
  last = line;
  lines = refl;
  begins = o.begins;
  inside = o.inside;
  base64 = ap is_body (sym o.text) ∙ b;
  ends = subst (λ (k : ℕ). IsEndLine limit begin k line object.words) o.next l;
  start = o.start;
  text = o.text;
}

item_whole : (limit p place : ℕ) (before : List Line) (item : Item) (begin : ℕ) (object : Object) (line : Line) → OpensObject limit p place before item begin object → is_body object.text ≡ true → IsEndLine limit begin place line object.words
    → AreLinesOfItem limit p (before ++ line ∷ []) (with_object item object (place + size line))
item_whole limit p place before item begin object line o b l = record {
  first = o.line;
  others = o.first ∷ o.body ++ line ∷ [];
  lines = ap (λ (f : List Line). f ++ line ∷ []) o.lines;
  begins = o.keyword;
  object = subst (λ (k : ℕ). AreLinesOfObject limit k (o.first ∷ o.body ++ line ∷ []) object) o.begin_is (object_whole limit p place before item begin object line o b l);
  keyword = ap (λ (i : Item). i.keyword) o.made;
  separator = ap (λ (i : Item). i.separator) o.made;
  arguments = ap (λ (i : Item). i.arguments) o.made;
  start = ap (λ (i : Item). i.start) o.made;
  line_end = ap (λ (i : Item). i.line_end) o.made;
  stands = ap (λ (i : Item). i.place) o.made;
  after = omega (arith, o.next, o.begin_is, ap sizes o.lines, sizes_append before (line ∷ []));
}

-- the fault of an object that has begun
object_fails : (limit p place : ℕ) (before : List Line) (item : Item) (begin : ℕ) (object : Object) (others : List Line) (fault : DocFault) (o : OpensObject limit p place before item begin object)
    → IsFaultAfter limit begin place object.words o.body others fault → HasFront limit p (before ++ others) (failed_contents fault)
object_fails limit p place before item begin object others fault o h =
    stops limit p (before ++ others) fault
    (HasFault.object (record {
      line = o.line;
      first = o.first;
      words = object.words;
      body = o.body;
      others = others;
      lines = ap (λ (b : List Line). b ++ others) o.lines;
      keyword = o.keyword;
      begins = subst (λ (k : ℕ). IsBeginLine limit k o.first object.words) o.begin_is o.begins;
      inside = subst (λ (k : ℕ). AreBodyLines limit k (k + size o.first) o.body) o.begin_is o.inside;
      is_fault = subst (λ (k : ℕ). IsFaultAfter limit k (k + size o.first + sizes o.body) object.words o.body others fault) o.begin_is
          (subst (λ (k : ℕ). IsFaultAfter limit begin k object.words o.body others fault) o.next h);
    }))

inside_fails : (limit p place : ℕ) (before : List Line) (item : Item) (begin : ℕ) (object : Object) (line : Line) (rest : List Line) (fault : DocFault) (o : OpensObject limit p place before item begin object)
    → IsFaultInside limit begin place object.words o.body line fault → HasFront limit p ((before ++ line ∷ []) ++ rest) (failed_contents fault)
inside_fails limit p place before item begin object line rest fault o h =
    subst (λ (l : List Line). HasFront limit p l (failed_contents fault)) (sym (append_assoc before (line ∷ []) rest)) (object_fails limit p place before item begin object (line ∷ rest) fault o h)

-- no keyword line is the last line of an object
end_apart : (before : List Line) (line : Line) (rest : List Line) → starts_dash line ≡ true → end_in_keyword_line (before ++ line ∷ []) && begin_with_dash rest ≡ false
end_apart before line rest d = ap (λ (t : Bool). t && begin_with_dash rest) (last_append before line [] ∙ dash_no_keyword line.text d)

inside : (limit p place : ℕ) (before : List Line) (item : Item) (begin : ℕ) (object : Object) (line : Line) (rest : List Line) (more : Open → Contents) (fault : Option DocFault) (dash end body : Bool) → OpensObject limit p place before item begin object
    → object_line_fault limit begin place line ≡ fault → starts_dash line ≡ dash → is_end_line object.words line.text ≡ end → is_body object.text ≡ body
    → (Opens limit p (place + size line) (before ++ line ∷ []) (object_lines item begin (with_line object line.text)) → HasFront limit p ((before ++ line ∷ []) ++ rest) (more (object_lines item begin (with_line object line.text))))
    → HasFront limit (place + size line) rest (more nothing)
    → (λ (made : Step). HasFront limit p ((before ++ line ∷ []) ++ rest) (also made.whole (proceed made.next more))) (step_unless fault (cond dash (cond end (cond body (record { whole = Some (with_object item object (place + size line)); next = Ok nothing }) (record { whole = None; next = Err (at begin ObjectBase64) })) (record { whole = None; next = Err (at place ObjectEnd) })) (record { whole = None; next = Ok (object_lines item begin (with_line object line.text)) })))
inside limit p place before item begin object line rest more (Some fault) dash end body o e d w b h n = inside_fails limit p place before item begin object line rest fault o (IsFaultInside.unsound e)
inside limit p place before item begin object line rest more None true true true o e d w b h n =
    front_item limit p (place + size line) (before ++ line ∷ []) rest (with_object item object (place + size line)) (more nothing) (item_whole limit p place before item begin object line o b (record { ends = w; sound = e })) refl (end_apart before line rest d) n
inside limit p place before item begin object line rest more None true true false o e d w b h n =
    inside_fails limit p place before item begin object line rest (at begin ObjectBase64) o (IsFaultInside.no_base64 (record { ends = w; sound = e }) (ap is_body (sym o.text) ∙ b) refl)
inside limit p place before item begin object line rest more None true false body o e d w b h n =
    inside_fails limit p place before item begin object line rest (at place ObjectEnd) o (IsFaultInside.no_end e d w refl)
inside limit p place before item begin object line rest more None false end body o e d w b h n = h (grown limit p place before item begin object line o (record { no_dash = d; sound = e }))

-- ---- all lines

at_last : (limit p place : ℕ) (before : List Line) (so_far : Open) → Opens limit p place before so_far → HasFront limit p (before ++ []) (at_end place so_far)
at_last limit p place before nothing o = subst (λ (b : List Line). HasFront limit p (b ++ []) (at_end place nothing)) (sym o.0) (ends limit p)
at_last limit p place before (keyword_line item) o = front_alone limit p place before [] item (record { items = []; fault = None }) o refl (ends limit place)
at_last limit p place before (object_lines item begin object) o = object_fails limit p place before item begin object [] (at place Unterminated) o refl

-- the line at this place, whatever the others hold
one_line : (limit p place : ℕ) (before : List Line) (so_far : Open) (line : Line) (rest : List Line) (more : Open → Contents)
    → ((q : ℕ) (front : List Line) (open_ : Open) → Opens limit q (place + size line) front open_ → HasFront limit q (front ++ rest) (more open_))
    → Opens limit p place before so_far → HasFront limit p (before ++ line ∷ rest) (also (step limit place so_far line).whole (proceed (step limit place so_far line).next more))
one_line limit p place before nothing line rest more h o =
    subst (λ (b : List Line). HasFront limit p (b ++ line ∷ rest) (proceed (open_item (read_line limit place line)) more)) (sym o.0)
    (subst (λ (k : ℕ). HasFront limit k (line ∷ rest) (proceed (open_item (read_line limit place line)) more)) (sym o.1)
    (between limit place line rest more (line_fault limit place line) (is_blank_line line.text) (is_keyword_line line.text) refl refl refl
    (h (place + size line) [] nothing (refl, refl))
    (h place (line ∷ []) (keyword_line (keyword_item place line)))))
one_line limit p place before (keyword_line item) line rest more h o =
    elim (starts_dash line) as (λ dash. starts_dash line ≡ dash → (λ (made : Step). HasFront limit p (before ++ line ∷ rest) (also made.whole (proceed made.next more))) (cond dash (record { whole = None; next = open_unless (line_fault limit place line) (first_object_line place item line (begin_words line.text)) }) (record { whole = Some item; next = open_item (read_line limit place line) }))) [
      | true ↦ λ d. subst (λ (l : List Line). HasFront limit p l (proceed (open_unless (line_fault limit place line) (first_object_line place item line (begin_words line.text))) more)) (append_assoc before (line ∷ []) rest)
          (dashed limit p place before item line rest more (line_fault limit place line) (begin_words line.text) o d refl refl
          (λ words opened. h p (before ++ line ∷ []) (object_lines item place (begun_object place line words)) opened))
      | false ↦ λ d. front_alone limit p place before (line ∷ rest) item (proceed (open_item (read_line limit place line)) more) o d
          (between limit place line rest more (line_fault limit place line) (is_blank_line line.text) (is_keyword_line line.text) refl refl refl
          (h (place + size line) [] nothing (refl, refl))
          (h place (line ∷ []) (keyword_line (keyword_item place line))))
    ] refl
one_line limit p place before (object_lines item begin object) line rest more h o =
    let made = step limit place (object_lines item begin object) line in
    subst (λ (l : List Line). HasFront limit p l (also made.whole (proceed made.next more))) (append_assoc before (line ∷ []) rest)
    (inside limit p place before item begin object line rest more (object_line_fault limit begin place line) (starts_dash line) (is_end_line object.words line.text) (is_body object.text) o refl refl refl refl
    (h p (before ++ line ∷ []) (object_lines item begin (with_line object line.text)))
    (h (place + size line) [] nothing (refl, refl)))

fronts : (limit p place : ℕ) (before : List Line) (so_far : Open) (list : List Line) → Opens limit p place before so_far → HasFront limit p (before ++ list) (contents_of limit place so_far list)
unfolding contents_of
fronts limit p place before so_far [] o = at_last limit p place before so_far o
fronts limit p place before so_far (line ∷ rest) o = one_line limit p place before so_far line rest (λ open_. contents_of limit (place + size line) open_ rest) (λ q front open_ opened. fronts limit q (place + size line) front open_ rest opened) o

-- the front is all there is
front_all : (limit place : ℕ) (all : List Line) (made : Contents) → HasFront limit place all made → made.fault ≡ None → AreLinesOfItems limit place all made.items
front_all limit place all made h e =
    let none : h.rest ≡ [] = subst (λ (f : Option DocFault). Left limit (place + sizes h.front) h.rest f) e h.left in
    subst (λ (l : List Line). AreLinesOfItems limit place l made.items) (sym (h.lines ∙ ap (λ (r : List Line). h.front ++ r) none ∙ append-nil h.front)) h.items

all_fronts : (start limit : ℕ) (bytes : List ℕ) → HasFront (start + limit) start (lines (drop start bytes)) (items_from start limit bytes)
all_fronts start limit bytes = fronts (start + limit) start start [] nothing (lines (drop start bytes)) (refl, refl)

pub items_are_there : ItemsAreThere
items_are_there start limit bytes e = front_all (start + limit) start (lines (drop start bytes)) (items_from start limit bytes) (all_fronts start limit bytes) e

front_fails : (limit place : ℕ) (all : List Line) (items : List Item) (fault : DocFault) → HasFront limit place all (record { items = items; fault = Some fault }) → EndInFault limit place all items fault
front_fails limit place all items fault h = record { front = h.front; rest = h.rest; lines = h.lines; before = h.items; apart = h.apart; is_fault = h.left }

-- a fault that is found is the fault of the lines after those of the items
pub fault_is_there : (start limit : ℕ) (bytes : List ℕ) (items : List Item) (fault : DocFault) → items_from start limit bytes ≡ record { items = items; fault = Some fault } → EndInFault (start + limit) start (lines (drop start bytes)) items fault
fault_is_there start limit bytes items fault e =
    front_fails (start + limit) start (lines (drop start bytes)) items fault (subst (λ (c : Contents). HasFront (start + limit) start (lines (drop start bytes)) c) e (all_fronts start limit bytes))
