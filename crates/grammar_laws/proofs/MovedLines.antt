-- Lines without a fault make the same items further on, under any limit that they do not pass.
use Rattle.std.proofs.Common.{◌≡◌, ℕ, ◌+◌, ◌≤◌, Bool, true, false, List, [], ◌∷◌, Option, Some, None, Result, Ok, Err}
use Rattle.std.{proofs.Common.{refl, sym, ap, subst, ◌∙◌, arith}, specs.Prelude.{nat_lt, map, option_map}}
use Rattle.std.specs.Prelude.{if◌then◌else◌}
use Rattle.item_terms.specs.declared.fault.{DocFault.DocFault, DocReason.TheVariants.{Keyword, ObjectBase64, ObjectEnd}}
use Rattle.item_terms.specs.{declared.fault.DocReason.TheVariants.ObjectTooLong, Base64Text.is_body, Faults.at}
use Rattle.item_terms.specs.{Faults.{line_fault, max_object, object_line_fault}, Lines.{Line, size}}
use Rattle.item_terms.specs.Words.{argument_start, arguments, begin_words, is_blank_line, is_end_line, is_keyword_line}
use Rattle.item_terms.specs.{Words.{keyword, separator}, Steps.{Item, Object, Open, Step, begun_object}}
use Rattle.item_terms.specs.Steps.{first_object_line, item_unless, keyword_item, keyword_line, line_item, nothing}
use Rattle.item_terms.specs.Steps.{object_lines, object_step, open_item, open_unless, read_line, starts_dash, step}
use Rattle.item_terms.specs.Steps.{step_unless, with_line, with_object}
use Rattle.grammar_laws.specs.Moved.{Reads, moved_item, moved_object, moved_open, sizes, with_whole}
use Rattle.grammar_laws.proofs.MovedFaults.{object_sound_moved, sound_moved}

-- ---- a line between items

abbrev moved_next : ℕ → Result Open DocFault → Result Open DocFault
moved_next n (Ok open_) = Ok (moved_open n open_)
moved_next n (Err fault) = Err fault

abbrev moved_step : ℕ → Step → Step
moved_step n made = record { whole = option_map (moved_item n) made.whole; next = moved_next n made.next }

keyword_moved : (place n : ℕ) (line : Line) → keyword_item (place + n) line ≡ moved_item n (keyword_item place line)
keyword_moved place n line =
    let start : argument_start (place + n) line.text ≡ argument_start place line.text + n = omega arith in
    let end : place + n + size line ≡ place + size line + n = omega arith in
    λ i. record {
      keyword = keyword line.text;
      separator = separator line.text;
      arguments = arguments line.text;
      start = start i;
      line_end = end i;
      object = None;
      place = place + n;
      after = end i;
    }

item_moved : (place n : ℕ) (line : Line) (next : Open) → open_item (line_item place line) ≡ Ok next
    → open_item (line_item (place + n) line) ≡ Ok (moved_open n next)
item_moved place n line next is = by (is_blank_line line.text) (is_keyword_line line.text) is
  where
    by : (blank key : Bool)
        → open_item (if blank then Ok None else if key then Ok (Some (keyword_item place line)) else Err
        (at place Keyword)) ≡ Ok next
        → open_item (if blank then Ok None else if key then Ok (Some (keyword_item (place + n) line)) else Err
        (at (place + n) Keyword))
        ≡ Ok (moved_open n next)
    by true key is = ap (moved_next n) is
    by false true is =
        ap (λ (i : Item). Ok (keyword_line i)) (keyword_moved place n line) ∙ ap (moved_next n) is
    by false false is = absurd (cc is)

read_moved : (limit limit' place n : ℕ) (line : Line) (next : Open) → open_item (read_line limit place line) ≡ Ok next
    → place + n + size line ≤ limit' → open_item (read_line limit' (place + n) line) ≡ Ok (moved_open n next)
read_moved limit limit' place n line next is fits = by (line_fault limit place line) refl is
  where
    by : (f : Option DocFault) → line_fault limit place line ≡ f
        → open_item (item_unless f (line_item place line)) ≡ Ok next
        → open_item (read_line limit' (place + n) line) ≡ Ok (moved_open n next)
    by (Some f) e is = absurd (cc is)
    by None e is =
        ap (λ (f : Option DocFault). open_item (item_unless f (line_item (place + n) line)))
        (sound_moved limit limit' place n line e fits)
        ∙ item_moved place n line next is

-- ---- objects

begun_moved : (limit limit' place n : ℕ) (item : Item) (line : Line) (next : Open)
    → open_unless (line_fault limit place line) (first_object_line place item line (begin_words line.text)) ≡ Ok next
    → place + n + size line ≤ limit'
    → open_unless (line_fault limit' (place + n) line)
    (first_object_line (place + n) (moved_item n item) line (begin_words line.text))
    ≡ Ok (moved_open n next)
begun_moved limit limit' place n item line next is fits = by (line_fault limit place line) refl is
  where
    object_moved : (words : List ℕ)
        → begun_object (place + n) line words ≡ moved_object n (begun_object place line words)
    object_moved words =
        let end : place + n + size line ≡ place + size line + n = omega arith in
        λ i. record { words = words; start = end i; text = [] }

    by_size : (t : Bool) (words : List ℕ)
        → (if t then Err (at place ObjectTooLong) else Ok (object_lines item place (begun_object place line words)))
        ≡ Ok next
        → (if t then Err (at (place + n) ObjectTooLong) else Ok
        (object_lines (moved_item n item) (place + n) (begun_object (place + n) line words)))
        ≡ Ok (moved_open n next)
    by_size true words is = absurd (cc is)
    by_size false words is =
        ap (λ (o : Object). Ok (object_lines (moved_item n item) (place + n) o)) (object_moved words) ∙ ap (moved_next n) is

    by_words : (words : Option (List ℕ)) → first_object_line place item line words ≡ Ok next
        → first_object_line (place + n) (moved_item n item) line words ≡ Ok (moved_open n next)
    by_words None is = absurd (cc is)
    by_words (Some words) is = by_size (nat_lt max_object (size line)) words is

    by : (f : Option DocFault) → line_fault limit place line ≡ f
        → open_unless f (first_object_line place item line (begin_words line.text)) ≡ Ok next
        → open_unless (line_fault limit' (place + n) line)
        (first_object_line (place + n) (moved_item n item) line (begin_words line.text))
        ≡ Ok (moved_open n next)
    by (Some f) e is = absurd (cc is)
    by None e is =
        ap (λ (f : Option DocFault). open_unless f
        (first_object_line (place + n) (moved_item n item) line (begin_words line.text)))
        (sound_moved limit limit' place n line e fits)
        ∙ by_words (begin_words line.text) is

pub not_faulty : (fault : DocFault) (next : Open) (made : Step) (whole : Option Item) → made.next ≡ Err fault
    → made ≡ record { whole = whole; next = Ok next } → ⊥
not_faulty fault next made whole e is =
    let r : made.next ≡ Ok next = ap (λ (s : Step). s.next) is in
    cc (sym e ∙ r)

abbrev pub object_made : Line → ℕ → Item → ℕ → Object → Bool → Bool → Bool → Step
object_made line at_ item_ begin_ object_ dash end_ body =
    if dash then
    (if end_ then
    (if body then record { whole = Some (with_object item_ object_ (at_ + size line)); next = Ok nothing }
    else record { whole = None; next = Err (at begin_ ObjectBase64) })
    else record { whole = None; next = Err (at at_ ObjectEnd) })
    else record { whole = None; next = Ok (object_lines item_ begin_ (with_line object_ line.text)) }

object_step_moved : (place n : ℕ) (item : Item) (begin : ℕ) (object : Object) (line : Line) (whole : Option Item)
    (next : Open)
    → object_step item begin object place line ≡ record { whole = whole; next = Ok next }
    → object_step (moved_item n item) (begin + n) (moved_object n object) (place + n) line
    ≡ record { whole = option_map (moved_item n) whole; next = Ok (moved_open n next) }
object_step_moved place n item begin object line whole next is =
    by (starts_dash line) (is_end_line object.words line.text) (is_body object.text) is
  where
    whole_moved : with_object (moved_item n item) (moved_object n object) (place + n + size line)
        ≡ moved_item n (with_object item object (place + size line))
    whole_moved =
        let end : place + n + size line ≡ place + size line + n = omega arith in
        λ i. record {
          keyword = item.keyword;
          separator = item.separator;
          arguments = item.arguments;
          start = item.start + n;
          line_end = item.line_end + n;
          object = Some (moved_object n object);
          place = item.place + n;
          after = end i;
        }

    by : (dash end_ body : Bool) → object_made line place item begin object dash end_ body
        ≡ record { whole = whole; next = Ok next }
        → object_made line (place + n) (moved_item n item) (begin + n) (moved_object n object) dash end_ body
        ≡ record { whole = option_map (moved_item n) whole; next = Ok (moved_open n next) }
    by true true true is =
        ap (λ (i : Item). record { whole = Some i; next = Ok nothing }) whole_moved ∙ ap (moved_step n) is
    by true true false is =
        absurd (not_faulty (at begin ObjectBase64) next
        (object_made line place item begin object true true false) whole refl is)
    by true false body is =
        absurd (not_faulty (at place ObjectEnd) next
        (object_made line place item begin object true false body) whole refl is)
    by false end_ body is = ap (moved_step n) is

object_moved : (limit limit' place n : ℕ) (item : Item) (begin : ℕ) (object : Object) (line : Line)
    (whole : Option Item) (next : Open)
    → step_unless (object_line_fault limit begin place line) (object_step item begin object place line)
    ≡ record { whole = whole; next = Ok next }
    → place + n + size line ≤ limit'
    → step_unless (object_line_fault limit' (begin + n) (place + n) line)
    (object_step (moved_item n item) (begin + n) (moved_object n object) (place + n) line)
    ≡ record { whole = option_map (moved_item n) whole; next = Ok (moved_open n next) }
object_moved limit limit' place n item begin object line whole next is fits =
    by (object_line_fault limit begin place line) refl is
  where
    by : (f : Option DocFault) → object_line_fault limit begin place line ≡ f
        → step_unless f (object_step item begin object place line) ≡ record { whole = whole; next = Ok next }
        → step_unless (object_line_fault limit' (begin + n) (place + n) line)
        (object_step (moved_item n item) (begin + n) (moved_object n object) (place + n) line)
        ≡ record { whole = option_map (moved_item n) whole; next = Ok (moved_open n next) }
    by (Some f) e is =
        absurd (not_faulty f next (step_unless (Some f) (object_step item begin object place line)) whole refl is)
    by None e is =
        ap (λ (f : Option DocFault). step_unless f
        (object_step (moved_item n item) (begin + n) (moved_object n object) (place + n) line))
        (object_sound_moved limit limit' begin place n line e fits)
        ∙ object_step_moved place n item begin object line whole next is

-- ---- a line

-- what the line after a keyword line makes
abbrev pub after_line : Bool → Result Open DocFault → Item → Result Open DocFault → Step
after_line dash begun item next =
    if dash then record { whole = None; next = begun } else record { whole = Some item; next = next }

pub step_moved : (limit limit' place n : ℕ) (open_ : Open) (line : Line) (whole : Option Item) (next : Open)
    → step limit place open_ line ≡ record { whole = whole; next = Ok next } → place + n + size line ≤ limit'
    → step limit' (place + n) (moved_open n open_) line
    ≡ record { whole = option_map (moved_item n) whole; next = Ok (moved_open n next) }
step_moved limit limit' place n nothing line whole next is fits =
    let w : None ≡ whole = ap (λ (s : Step). s.whole) is in
    let r : open_item (read_line limit place line) ≡ Ok next = ap (λ (s : Step). s.next) is in
    ap (λ (o : Result Open DocFault). record { whole = None; next = o })
    (read_moved limit limit' place n line next r fits)
    ∙ ap (λ (i : Option Item). record { whole = option_map (moved_item n) i; next = Ok (moved_open n next) }) w
step_moved limit limit' place n (keyword_line item) line whole next is fits = by (starts_dash line) is
  where
    by : (dash : Bool)
        → after_line dash (open_unless (line_fault limit place line)
        (first_object_line place item line (begin_words line.text))) item (open_item (read_line limit place line))
        ≡ record { whole = whole; next = Ok next }
        → after_line dash (open_unless (line_fault limit' (place + n) line)
        (first_object_line (place + n) (moved_item n item) line (begin_words line.text)))
        (moved_item n item) (open_item (read_line limit' (place + n) line))
        ≡ record { whole = option_map (moved_item n) whole; next = Ok (moved_open n next) }
    by true is =
        let w : None ≡ whole = ap (λ (s : Step). s.whole) is in
        let r : open_unless (line_fault limit place line) (first_object_line place item line (begin_words line.text))
        ≡ Ok next = ap (λ (s : Step). s.next) is in
        ap (λ (o : Result Open DocFault). record { whole = None; next = o })
        (begun_moved limit limit' place n item line next r fits)
        ∙ ap (λ (i : Option Item). record { whole = option_map (moved_item n) i; next = Ok (moved_open n next) }) w
    by false is =
        let w : Some item ≡ whole = ap (λ (s : Step). s.whole) is in
        let r : open_item (read_line limit place line) ≡ Ok next = ap (λ (s : Step). s.next) is in
        ap (λ (o : Result Open DocFault). record { whole = Some (moved_item n item); next = o })
        (read_moved limit limit' place n line next r fits)
        ∙ ap (λ (i : Option Item). record { whole = option_map (moved_item n) i; next = Ok (moved_open n next) }) w
step_moved limit limit' place n (object_lines item begin object) line whole next is fits =
    object_moved limit limit' place n item begin object line whole next is fits

-- ---- lines

whole_map : (n : ℕ) (whole : Option Item) (others : List Item)
    → map (moved_item n) (with_whole whole others) ≡ with_whole (option_map (moved_item n) whole) (map (moved_item n) others)
whole_map n None others = refl
whole_map n (Some item) others = refl

-- Lines without a fault make the same items so many bytes further on, where they do not pass the limit there.
pub reads_moved : (limit limit' place n : ℕ) (open_ : Open) (lines : List Line) (items : List Item) (last : Open)
    → Reads limit place open_ lines items last → place + n + sizes lines ≤ limit'
    → Reads limit' (place + n) (moved_open n open_) lines (map (moved_item n) items) (moved_open n last)
reads_moved limit limit' place n open_ [] items last is fits =
    (ap (map (moved_item n)) is.0, ap (moved_open n) is.1)
reads_moved limit limit' place n open_ (line ∷ rest) items last (whole, next, others, made, come, more) fits =
    let here : place + size line + n ≡ place + n + size line = omega arith in (
      option_map (moved_item n) whole,
      moved_open n next,
      map (moved_item n) others,
      step_moved limit limit' place n open_ line whole next made (omega (arith, fits)),
      ap (map (moved_item n)) come ∙ whole_map n whole others,
      subst (λ (k : ℕ). Reads limit' k (moved_open n next) rest (map (moved_item n) others) (moved_open n last)) here
          (reads_moved limit limit' (place + size line) n next rest others last more (omega (arith, fits))),
    )
