-- A document of some items is read as these items.
use Rattle.std.proofs.Common.{◌≡◌, ℕ, ◌+◌, Bool, true, false, cond, List, [], ◌∷◌, ◌++◌, drop, Option, Some, None, Ok}
use Rattle.std.proofs.{Common.{Err, refl, sym, ap, ◌∙◌, append_assoc, arith}, lemmas.{Bool.lt-ltb, List.append-nil}}
use Rattle.std.specs.Prelude.{◌&&◌}
use Rattle.item_terms.specs.declared.fault.{DocFault.DocFault, DocReason.TheVariants.{Keyword, ObjectTooLong}}
use Rattle.item_terms.specs.{Lines.{Line, lines, size}, Words.{is_keyword_line, keyword, separator, arguments}}
use Rattle.item_terms.specs.Words.{argument_start, begins_dash, begins, ends, strip, begin_words, is_end_line}
use Rattle.item_terms.specs.{Base64Text.is_body, Faults.{at, line_fault, max_object}, Steps.{Item, Open, Step, Object}}
use Rattle.item_terms.specs.Steps.{step, nothing, keyword_line, object_lines, keyword_item, begun_object, open_item}
use Rattle.item_terms.specs.Steps.{item_unless, open_unless, step_unless, object_step, line_item, read_line}
use Rattle.item_terms.specs.{Steps.first_object_line, Items.{Contents, contents_of, also, proceed, failed_contents}}
use Rattle.item_terms.specs.Items.{items_from}
use Rattle.grammar_laws.specs.Blocks.{sizes, text_of, AreLinesOfObjectIf, AreLinesOfItem, AreLinesOfItems, NoOthersAre}
use Rattle.grammar_laws.specs.BlockFaults.{IsFaultBetween, IsFaultOfBegin, IsFaultInside, IsFaultAfter}
use Rattle.grammar_laws.specs.BlockFaults.{HasFaultInObject, HasFault, EndInFault, begin_with_dash, end_in_keyword_line}
use Rattle.grammar_laws.proofs.BlockLines.{sizes_append, and_false, end_dash, items_no_dash, last_append}
use Rattle.grammar_laws.proofs.LineReading.{reads, keyword_step, dash_step, begin_made, begin_step, made_by, sound_step}
use Rattle.grammar_laws.proofs.LineReading.{blanks_read, body_read, object_read}

-- ---- items

-- where no '-' follows a keyword line, its item is whole
no_object : (limit place : ℕ) (item : Item) (rest : List Line) → begin_with_dash rest ≡ false → contents_of limit place (keyword_line item) rest ≡ also (Some item) (contents_of limit place nothing rest)
unfolding contents_of
no_object limit place item [] e = refl
no_object limit place item (line ∷ rest) e =
    ap (λ (b : Bool). (λ (s : Step). also s.whole (proceed s.next (λ open_. contents_of limit (place + size line) open_ rest))) (cond b (record { whole = None; next = open_unless (line_fault limit place line) (first_object_line place item line (begin_words line.text)) }) (record { whole = Some item; next = open_item (read_line limit place line) }))) e

-- the item that a line and what follows it say
abbrev item_with : ℕ → Line → Option Object → ℕ → Item
item_with place line object after = record {
  keyword = keyword line.text;
  separator = separator line.text;
  arguments = arguments line.text;
  start = argument_start place line.text;
  line_end = place + size line;
  object = object;
  place = place;
  after = after;
}

abbrev item_of : List ℕ → Option ℕ → List ℕ → ℕ → ℕ → Option Object → ℕ → ℕ → Item
item_of word after_word args start line_end object place after = record { keyword = word; separator = after_word; arguments = args; start = start; line_end = line_end; object = object; place = place; after = after }

item_is : (limit place : ℕ) (own : List Line) (item : Item) (object : Option Object) (h : AreLinesOfItem limit place own item) → item.object ≡ object → item ≡ item_with place h.first object (place + sizes own)
item_is limit place own item object h o =
    let text = h.first.text in
    let start = argument_start place text in
    let line_end = place + size h.first in
    ap (λ (k : List ℕ). item_of k item.separator item.arguments item.start item.line_end item.object item.place item.after) h.keyword
    ∙ ap (λ (s : Option ℕ). item_of (keyword text) s item.arguments item.start item.line_end item.object item.place item.after) h.separator
    ∙ ap (λ (a : List ℕ). item_of (keyword text) (separator text) a item.start item.line_end item.object item.place item.after) h.arguments
    ∙ ap (λ (n : ℕ). item_of (keyword text) (separator text) (arguments text) n item.line_end item.object item.place item.after) h.start
    ∙ ap (λ (n : ℕ). item_of (keyword text) (separator text) (arguments text) start n item.object item.place item.after) h.line_end
    ∙ ap (λ (x : Option Object). item_of (keyword text) (separator text) (arguments text) start line_end x item.place item.after) o
    ∙ ap (λ (n : ℕ). item_of (keyword text) (separator text) (arguments text) start line_end object n item.after) h.stands
    ∙ ap (λ (n : ℕ). item_of (keyword text) (separator text) (arguments text) start line_end object place n) h.after

-- what a keyword line and the lines of an object leave, if there is one
after_keyword_line : (limit place : ℕ) (first : Line) (others rest : List Line) (object : Option Object) → AreLinesOfObjectIf limit (place + size first) others object
    → is_keyword_line first.text ≡ true → end_in_keyword_line (first ∷ others) && begin_with_dash rest ≡ false
    → contents_of limit (place + size first) (keyword_line (keyword_item place first)) (others ++ rest)
    ≡ also (Some (item_with place first object (place + size first + sizes others))) (contents_of limit (place + size first + sizes others) nothing rest)
after_keyword_line limit place first others rest None h k apart =
    let dash : begin_with_dash rest ≡ false = sym (ap (λ (t : Bool). t && begin_with_dash rest) (ap (λ (l : List Line). end_in_keyword_line (first ∷ l)) h ∙ k)) ∙ apart in
    ap (λ (l : List Line). contents_of limit (place + size first) (keyword_line (keyword_item place first)) (l ++ rest)) h
    ∙ no_object limit (place + size first) (keyword_item place first) rest dash
    ∙ ap (λ (n : ℕ). also (Some (item_with place first None n)) (contents_of limit n nothing rest)) (omega (arith, ap sizes h))
after_keyword_line limit place first others rest (Some object) h k apart = object_read limit (place + size first) (keyword_item place first) others rest object h

item_read : (limit place : ℕ) (own rest : List Line) (item : Item) → AreLinesOfItem limit place own item → end_in_keyword_line own && begin_with_dash rest ≡ false
    → contents_of limit place nothing (own ++ rest) ≡ also (Some item) (contents_of limit item.after nothing rest)
item_read limit place own rest item h apart =
    ap (λ (l : List Line). contents_of limit place nothing (l ++ rest)) h.lines
    ∙ reads limit place nothing h.first (h.others ++ rest) None (keyword_line (keyword_item place h.first)) (keyword_step limit place h.first h.begins)
    ∙ after_keyword_line limit place h.first h.others rest item.object h.object h.begins.keyword (ap (λ (l : List Line). end_in_keyword_line l && begin_with_dash rest) (sym h.lines) ∙ apart)
    ∙ ap (λ (k : ℕ). also (Some (item_with place h.first item.object k)) (contents_of limit k nothing rest)) (omega (arith, ap sizes h.lines))
    ∙ ap (λ (i : Item). also (Some i) (contents_of limit (place + sizes own) nothing rest)) (sym (item_is limit place own item item.object h refl))
    ∙ ap (λ (k : ℕ). also (Some item) (contents_of limit k nothing rest)) (sym h.after)

-- what follows the lines of an item does not begin with '-' right after a keyword line
own_apart : (limit place after : ℕ) (blanks own others rest : List Line) (item : Item) (items : List Item) → AreLinesOfItem limit place own item → AreLinesOfItems limit after others items
    → end_in_keyword_line ((blanks ++ own) ++ others) && begin_with_dash rest ≡ false → end_in_keyword_line own && begin_with_dash (others ++ rest) ≡ false
own_apart limit place after blanks own [] rest item items i h apart =
    let last : end_in_keyword_line own ≡ end_in_keyword_line ((blanks ++ own) ++ []) =
    ap end_in_keyword_line i.lines
    ∙ sym (last_append blanks i.first i.others)
    ∙ ap (λ (l : List Line). end_in_keyword_line (blanks ++ l)) (sym i.lines)
    ∙ ap end_in_keyword_line (sym (append-nil (blanks ++ own))) in
    ap (λ (t : Bool). t && begin_with_dash rest) last ∙ apart
own_apart limit place after blanks own (line ∷ others) rest item items i h apart =
    ap (λ (t : Bool). end_in_keyword_line own && t) (items_no_dash limit after (line ∷ others) items h) ∙ and_false (end_in_keyword_line own)

others_apart : (front others rest : List Line) → end_in_keyword_line (front ++ others) && begin_with_dash rest ≡ false → end_in_keyword_line others && begin_with_dash rest ≡ false
others_apart front [] rest apart = refl
others_apart front (line ∷ others) rest apart = ap (λ (t : Bool). t && begin_with_dash rest) (sym (last_append front line others)) ∙ apart

-- these items, and then what is found
abbrev before : List Item → Contents → Contents
before items found = record { items = items ++ found.items; fault = found.fault }

-- the items are the first that are found, and what follows is read as it would be alone
items_first : (limit place : ℕ) (front rest : List Line) (items : List Item) → AreLinesOfItems limit place front items → end_in_keyword_line front && begin_with_dash rest ≡ false
    → contents_of limit place nothing (front ++ rest) ≡ before items (contents_of limit (place + sizes front) nothing rest)
items_first limit place front rest [] h apart = blanks_read limit place front rest h
items_first limit place front rest (item ∷ items) h apart =
    let here : end_in_keyword_line ((h.blanks ++ h.own) ++ h.others) && begin_with_dash rest ≡ false = ap (λ (l : List Line). end_in_keyword_line l && begin_with_dash rest) (sym h.lines) ∙ apart in
    ap (λ (l : List Line). contents_of limit place nothing l) (ap (λ (l : List Line). l ++ rest) h.lines ∙ append_assoc (h.blanks ++ h.own) h.others rest ∙ append_assoc h.blanks h.own (h.others ++ rest))
    ∙ blanks_read limit place h.blanks (h.own ++ (h.others ++ rest)) h.are_blank
    ∙ item_read limit (place + sizes h.blanks) h.own (h.others ++ rest) item h.are_its (own_apart limit (place + sizes h.blanks) item.after h.blanks h.own h.others rest item items h.are_its h.go_on here)
    ∙ ap (λ (c : Contents). also (Some item) c) (items_first limit item.after h.others rest items h.go_on (others_apart (h.blanks ++ h.own) h.others rest here))
    ∙ ap (λ (k : ℕ). before (item ∷ items) (contents_of limit k nothing rest))
    (omega (arith, h.are_its.after, ap sizes h.lines, sizes_append (h.blanks ++ h.own) h.others, sizes_append h.blanks h.own))

ends_there : (limit place : ℕ) → contents_of limit place nothing [] ≡ record { items = []; fault = None }
unfolding contents_of
ends_there limit place = refl

items_read : (limit place : ℕ) (all : List Line) (items : List Item) → AreLinesOfItems limit place all items → contents_of limit place nothing all ≡ record { items = items; fault = None }
items_read limit place all items h =
    ap (λ (l : List Line). contents_of limit place nothing l) (sym (append-nil all))
    ∙ items_first limit place all [] items h (and_false (end_in_keyword_line all))
    ∙ ap (before items) (ends_there limit (place + sizes all))
    ∙ ap (λ (l : List Item). record { items = l; fault = None }) (append-nil items)

pub no_others_are : NoOthersAre
no_others_are start limit bytes items h = items_read (start + limit) start (lines (drop start bytes)) items h

-- ---- faults

-- a line with a fault ends the reading
fails : (limit place : ℕ) (so_far : Open) (line : Line) (rest : List Line) (fault : DocFault) → step limit place so_far line ≡ record { whole = None; next = Err fault } → contents_of limit place so_far (line ∷ rest) ≡ failed_contents fault
unfolding contents_of
fails limit place so_far line rest fault e = ap (λ (s : Step). also s.whole (proceed s.next (λ open_. contents_of limit (place + size line) open_ rest))) e

between_fails : (limit place : ℕ) (line : Line) (fault : DocFault) → IsFaultBetween limit place line fault → step limit place nothing line ≡ record { whole = None; next = Err fault }
between_fails limit place line fault (IsFaultBetween.unsound e) = ap (λ (f : Option DocFault). record { whole = None; next = open_item (item_unless f (line_item place line)) }) e
between_fails limit place line fault (IsFaultBetween.neither e b k f) =
    ap (λ (o : Option DocFault). record { whole = None; next = open_item (item_unless o (line_item place line)) }) e
    ∙ ap (λ (t : Bool). record { whole = None; next = open_item (cond t (Ok None) (cond (is_keyword_line line.text) (Ok (Some (keyword_item place line))) (Err (at place Keyword)))) }) b
    ∙ ap (λ (t : Bool). record { whole = None; next = open_item (cond t (Ok (Some (keyword_item place line))) (Err (at place Keyword))) }) k
    ∙ ap (λ (o : DocFault). record { whole = None; next = Err o }) (sym f)

begin_fails : (limit place : ℕ) (item : Item) (line : Line) (fault : DocFault) → begins_dash line.text ≡ true → IsFaultOfBegin limit place line fault → step limit place (keyword_line item) line ≡ record { whole = None; next = Err fault }
begin_fails limit place item line fault d (IsFaultOfBegin.unsound e) = dash_step limit place item line d ∙ ap (λ (o : Option DocFault). record { whole = None; next = open_unless o (first_object_line place item line (begin_words line.text)) }) e
begin_fails limit place item line fault d (IsFaultOfBegin.no_begin e w f) = begin_made limit place item line None d e w ∙ ap (λ (o : DocFault). record { whole = None; next = Err o }) (sym f)
begin_fails limit place item line fault d (IsFaultOfBegin.too_long words e w long f) =
    begin_made limit place item line (Some words) d e w
    ∙ ap (λ (b : Bool). record { whole = None; next = cond b (Err (at place ObjectTooLong)) (Ok (object_lines item place (begun_object place line words))) }) (lt-ltb max_object (size line) long)
    ∙ ap (λ (o : DocFault). record { whole = None; next = Err o }) (sym f)

inside_fails : (limit begin place start : ℕ) (item : Item) (words : List ℕ) (body : List Line) (line : Line) (fault : DocFault) → IsFaultInside limit begin place words body line fault
    → step limit place (object_lines item begin (record { words = words; start = start; text = text_of body })) line ≡ record { whole = None; next = Err fault }
inside_fails limit begin place start item words body line fault (IsFaultInside.unsound e) =
    ap (λ (f : Option DocFault). step_unless f (object_step item begin (record { words = words; start = start; text = text_of body }) place line)) e
inside_fails limit begin place start item words body line fault (IsFaultInside.no_end e d w f) =
    let object : Object = record { words = words; start = start; text = text_of body } in
    sound_step limit place item begin object line e
    ∙ ap (λ (b : Bool). made_by item begin object place line b (is_end_line words line.text) (is_body (text_of body))) d
    ∙ ap (λ (b : Bool). made_by item begin object place line true b (is_body (text_of body))) w
    ∙ ap (λ (o : DocFault). record { whole = None; next = Err o }) (sym f)
inside_fails limit begin place start item words body line fault (IsFaultInside.no_base64 l b f) =
    let object : Object = record { words = words; start = start; text = text_of body } in
    sound_step limit place item begin object line l.sound
    ∙ ap (λ (t : Bool). made_by item begin object place line t (is_end_line words line.text) (is_body (text_of body))) (end_dash words line.text (strip ends line.text) refl l.ends)
    ∙ ap (λ (t : Bool). made_by item begin object place line true t (is_body (text_of body))) l.ends
    ∙ ap (λ (t : Bool). made_by item begin object place line true true t) b
    ∙ ap (λ (o : DocFault). record { whole = None; next = Err o }) (sym f)

after_fails : (limit begin place start : ℕ) (item : Item) (words : List ℕ) (body others : List Line) (fault : DocFault) → IsFaultAfter limit begin place words body others fault
    → contents_of limit place (object_lines item begin (record { words = words; start = start; text = text_of body })) others ≡ failed_contents fault
unfolding contents_of
after_fails limit begin place start item words body [] fault h = ap failed_contents (sym h)
after_fails limit begin place start item words body (line ∷ rest) fault h =
    fails limit place (object_lines item begin (record { words = words; start = start; text = text_of body })) line rest fault (inside_fails limit begin place start item words body line fault h)

object_fails : (limit place : ℕ) (all : List Line) (fault : DocFault) → HasFaultInObject limit place all fault → contents_of limit place nothing all ≡ failed_contents fault
object_fails limit place all fault h =
    let begin = place + size h.line in
    let start = begin + size h.first in
    let item = keyword_item place h.line in
    ap (λ (l : List Line). contents_of limit place nothing l) h.lines
    ∙ reads limit place nothing h.line (h.first ∷ h.body ++ h.others) None (keyword_line item) (keyword_step limit place h.line h.keyword)
    ∙ reads limit begin (keyword_line item) h.first (h.body ++ h.others) None (object_lines item begin (begun_object begin h.first h.words)) (begin_step limit begin item h.first h.words h.begins)
    ∙ body_read limit start item begin (begun_object begin h.first h.words) h.body h.others h.inside
    ∙ after_fails limit begin (start + sizes h.body) start item h.words h.body h.others fault h.is_fault

all_fail : (limit place : ℕ) (all : List Line) (fault : DocFault) → HasFault limit place all fault → contents_of limit place nothing all ≡ failed_contents fault
all_fail limit place all fault (HasFault.between line others e h) = ap (λ (l : List Line). contents_of limit place nothing l) e ∙ fails limit place nothing line others fault (between_fails limit place line fault h)
all_fail limit place all fault (HasFault.begin line first others e k d h) =
    ap (λ (l : List Line). contents_of limit place nothing l) e
    ∙ reads limit place nothing line (first ∷ others) None (keyword_line (keyword_item place line)) (keyword_step limit place line k)
    ∙ fails limit (place + size line) (keyword_line (keyword_item place line)) first others fault (begin_fails limit (place + size line) (keyword_item place line) first fault d h)
all_fail limit place all fault (HasFault.object h) = object_fails limit place all fault h

fault_read : (limit place : ℕ) (all : List Line) (items : List Item) (fault : DocFault) → EndInFault limit place all items fault → contents_of limit place nothing all ≡ record { items = items; fault = Some fault }
fault_read limit place all items fault h =
    ap (λ (l : List Line). contents_of limit place nothing l) h.lines
    ∙ items_first limit place h.front h.rest items h.before h.apart
    ∙ ap (before items) (all_fail limit (place + sizes h.front) h.rest fault h.is_fault)
    ∙ ap (λ (l : List Item). record { items = l; fault = Some fault }) (append-nil items)

-- the fault of the lines after those of some items is found, and the items before it
pub fault_is_found : (start limit : ℕ) (bytes : List ℕ) (items : List Item) (fault : DocFault) → EndInFault (start + limit) start (lines (drop start bytes)) items fault → items_from start limit bytes ≡ record { items = items; fault = Some fault }
fault_is_found start limit bytes items fault h = fault_read (start + limit) start (lines (drop start bytes)) items fault h
