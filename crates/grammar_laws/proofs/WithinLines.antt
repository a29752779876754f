-- The rests of lines and the objects of items lie within the lines that make them.
use Rattle.std.proofs.Common.{◌≡◌, ℕ, ◌+◌, ◌-◌, ◌≤◌, Bool, true, false, List, [], ◌∷◌, ◌++◌, length, Option, Some, None}
use Rattle.std.proofs.Common.{Result, Ok, Err, sym, ap, subst, arith, length-append, length-take, length-drop}
use Rattle.std.{proofs.lemmas.List.Sums.prefix_len-le-length, specs.Prelude.{IfSome, nat_lt, if◌then◌else◌}}
use Rattle.std.specs.List.{AllByRecursion, prefix_len, suffix_len}
use Rattle.item_terms.specs.declared.fault.{DocFault.DocFault, DocReason.TheVariants.{ObjectTooLong, Keyword}}
use Rattle.item_terms.specs.{Base64Text.is_body, Faults.{at, line_fault, max_object, object_line_fault}, Lines.Line}
use Rattle.item_terms.specs.{Lines.size, Words.{after_keyword, begin_words, is_blank, is_blank_line, is_end_line}}
use Rattle.item_terms.specs.{Words.{is_keyword_line, is_word_byte, keyword_len, trim, trim_front}, Steps.{Item, Object}}
use Rattle.item_terms.specs.Steps.{Open, Step, begun_object, first_object_line, item_unless, keyword_item, keyword_line}
use Rattle.item_terms.specs.Steps.{line_item, nothing, object_lines, object_step, open_item, open_unless, read_line}
use Rattle.item_terms.specs.Steps.{starts_dash, step, step_unless}
use Rattle.grammar_laws.{specs.Moved.{Reads, sizes, with_whole}, proofs.MovedLines.{after_line, object_made}}
use Rattle.grammar_laws.proofs.SoundLines.{has_end, step_sound}

-- an item lies within so many bytes
pub record IsIn (end : ℕ) (item : Item) : Type 0 where
  pub place : item.place ≤ end
  pub line : item.line_end ≤ end
  pub after : item.after ≤ end
  pub rest : item.start + length item.arguments ≤ end
  pub object : IfSome item.object (λ (o : Object). o.start + length o.text ≤ end)

abbrev IsOpenIn : ℕ → Open → Type 0
IsOpenIn end nothing = Unit {0}
IsOpenIn end (keyword_line item) = IsIn end item
IsOpenIn end (object_lines item begin object) = IsIn end item × (object.start + length object.text ≤ end)

abbrev IsNextIn : ℕ → Result Open DocFault → Type 0
IsNextIn end (Ok open_) = IsOpenIn end open_
IsNextIn end (Err f) = Unit {0}

abbrev IsWholeIn : ℕ → Option Item → Type 0
IsWholeIn end None = Unit {0}
IsWholeIn end (Some item) = IsIn end item

record IsMadeIn (end : ℕ) (made : Step) : Type 0 where
  next : IsNextIn end made.next
  whole : IsWholeIn end made.whole

later_object : (a b : ℕ) → a ≤ b → (o : Option Object) → IfSome o (λ (o : Object). o.start + length o.text ≤ a)
    → IfSome o (λ (o : Object). o.start + length o.text ≤ b)
later_object a b le None is = is
later_object a b le (Some o) is = omega (arith, le, is)

pub later : (a b : ℕ) → a ≤ b → (item : Item) → IsIn a item → IsIn b item
later a b le item is = record {
  place = omega (arith, le, is.place);
  line = omega (arith, le, is.line);
  after = omega (arith, le, is.after);
  rest = omega (arith, le, is.rest);
  object = later_object a b le item.object is.object;
}

trimmed_size : (text : List ℕ) → prefix_len is_blank text + length (trim text) ≤ length text
trimmed_size text =
    let front = trim_front text in
    let p = prefix_len-le-length is_blank text in
    let d = length-drop (prefix_len is_blank text) text in
    let t = length-take (length front - suffix_len is_blank front) front in
    omega (arith, p, d, t)

item_in : (place : ℕ) (line : Line) → IsIn (place + size line) (keyword_item place line)
item_in place line =
    let k = prefix_len-le-length is_word_byte line.text in
    let d = length-drop (keyword_len line.text) line.text in
    let t = trimmed_size (after_keyword line.text) in
    record { place = omega arith; line = omega arith; after = omega arith; rest = omega (arith, k, d, t); object = tt }

read_in : (f : Option DocFault) (place : ℕ) (line : Line)
    → IsNextIn (place + size line) (open_item (item_unless f (line_item place line)))
read_in (Some f) place line = tt
read_in None place line = by (is_blank_line line.text) (is_keyword_line line.text)
  where
    by : (blank key : Bool) → IsNextIn (place + size line)
        (open_item (if blank then Ok None else if key then Ok (Some (keyword_item place line)) else Err
        (at place Keyword)))
    by true key = tt
    by false true = item_in place line
    by false false = tt

begun_in : (f : Option DocFault) (place : ℕ) (item : Item) (line : Line) (words : Option (List ℕ))
    → IsIn (place + size line) item
    → IsNextIn (place + size line) (open_unless f (first_object_line place item line words))
begun_in (Some f) place item line words is = tt
begun_in None place item line None is = tt
begun_in None place item line (Some words) is = by (nat_lt max_object (size line))
  where
    by : (t : Bool) → IsNextIn (place + size line)
        (if t then Err (at place ObjectTooLong) else Ok (object_lines item place (begun_object place line words)))
    by true = tt
    by false = (is, omega arith)

object_in : (f : Option DocFault) (place : ℕ) (item : Item) (begin : ℕ) (object : Object) (line : Line)
    → line.ended ≡ true
    → IsIn place item → object.start + length object.text ≤ place
    → IsMadeIn (place + size line) (step_unless f (object_step item begin object place line))
object_in (Some f) place item begin object line ended is fits = record { next = tt; whole = tt }
object_in None place item begin object line ended is fits =
    by (starts_dash line) (is_end_line object.words line.text) (is_body object.text)
  where
    one : size line ≡ length line.text + 1
    one = ap (λ (t : Bool). length line.text + (if t then 1 else 0)) ended

    longer : object.start + length (object.text ++ line.text ++ 10 ∷ []) ≤ place + size line
    longer =
        let o = object.text in
        let t = line.text in
        let a = length-append o (t ++ 10 ∷ []) in
        let b = length-append t (10 ∷ []) in
        let c = length-append (o ++ t) (10 ∷ []) in
        let d = length-append o t in
        omega (arith, fits, one, a, b, c, d)

    by : (dash end_ body : Bool) → IsMadeIn (place + size line)
        (object_made line place item begin object dash end_ body)
    by true true true = record {
      next = tt;
      whole = record {
        place = omega (arith, is.place);
        line = omega (arith, is.line);
        after = omega arith;
        rest = omega (arith, is.rest);
        object = omega (arith, fits);
      };
    }
    by true true false = record { next = tt; whole = tt }
    by true false body = record { next = tt; whole = tt }
    by false end_ body = record { next = (later place (place + size line) (omega arith) item is, longer); whole = tt }

step_in : (limit place : ℕ) (open_ : Open) (line : Line) → line.ended ≡ true → IsOpenIn place open_
    → IsMadeIn (place + size line) (step limit place open_ line)
step_in limit place nothing line ended is = record {
  next = read_in
      (line_fault limit place line) place line;
  whole = tt;
}
step_in limit place (keyword_line item) line ended is = by (starts_dash line)
  where
    further : IsIn (place + size line) item
    further = later place (place + size line) (omega arith) item is

    by : (dash : Bool) → IsMadeIn (place + size line)
        (after_line dash (open_unless (line_fault limit place line)
        (first_object_line place item line (begin_words line.text))) item (open_item (read_line limit place line)))
    by true = record {
      next = begun_in (line_fault limit place line) place item line
          (begin_words line.text) further;
      whole = tt;
    }
    by false = record { next = read_in (line_fault limit place line) place line; whole = further }
step_in limit place (object_lines item begin object) line ended is =
    object_in (object_line_fault limit begin place line) place item begin object line ended is.0 is.1

-- Items of lines without a fault lie within them.
pub items_in : (limit place : ℕ) (open_ : Open) (ls : List Line) (items : List Item) (last : Open) (end : ℕ)
    → Reads limit place open_ ls items last
    → IsOpenIn place open_ → place + sizes ls ≤ end → AllByRecursion (IsIn end) items
items_in limit place open_ [] items last end is before fits = subst (AllByRecursion (IsIn end)) (sym is.0) tt
items_in limit place open_ (line ∷ rest) items last end (whole, next, others, made, come, more) before fits =
    let ended = has_end limit place line (step_sound limit place open_ line whole next made) in
    let not_ = subst (IsMadeIn (place + size line)) made (step_in limit place open_ line ended before) in
    let all = items_in limit (place + size line) next rest others last end more not_.next (omega (arith, fits)) in
    subst (AllByRecursion (IsIn end)) (sym come) (by whole not_.whole all)
  where
    by : (w : Option Item) → IsWholeIn (place + size line) w → AllByRecursion (IsIn end) others
        → AllByRecursion (IsIn end) (with_whole w others)
    by None e all = all
    by (Some item) e all = (later (place + size line) end (omega (arith, fits)) item e, all)
