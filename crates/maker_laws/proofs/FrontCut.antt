-- Lines are cut in front of an item.
use Rattle.std.proofs.Common.{◌≡◌, ◌⊎◌, ℕ, ◌+◌, Bool, true, false, List, [], ◌∷◌, ◌++◌, Option, Some, None, inl, inr}
use Rattle.std.{proofs.Common.{Ok, Err, refl, sym, ap, subst, ◌∙◌, arith}, specs.Prelude.if◌then◌else◌}
use Rattle.item_terms.specs.{declared.fault.{DocFault.DocFault, DocReason.TheVariants.Keyword}, Base64Text.is_body}
use Rattle.item_terms.specs.{Faults.{at, line_fault, object_line_fault}, Lines.{Line, size}, Words.begin_words}
use Rattle.item_terms.specs.{Words.{is_blank_line, is_end_line, is_keyword_line}, Steps.{Item, Open, Step}}
use Rattle.item_terms.specs.Steps.{first_object_line, item_unless, keyword_item, keyword_line, nothing, object_lines}
use Rattle.item_terms.specs.Steps.{object_step, open_item, open_unless, read_line, starts_dash, step, step_unless}
use Rattle.grammar_laws.{specs.Moved.{Reads, sizes, with_whole}, proofs.MovedLines.{after_line, object_made}}
use Rattle.maker_laws.proofs.Backwards.{open_or}

-- ---- what a line between items opens

-- what is open is the item of this line
record IsBegun (limit place : ℕ) (line : Line) (next : Open) : Type 0 where
  keyword : is_keyword_line line.text ≡ true
  is_open : open_item (read_line limit place line) ≡ Ok next

-- a line between items is blank, or begins an item
either : (limit place : ℕ) (line : Line) (next : Open) → open_item (read_line limit place line) ≡ Ok next
    → (next ≡ nothing) ⊎ IsBegun limit place line next
either limit place line next is =
    by (line_fault limit place line) (is_blank_line line.text) (is_keyword_line line.text) refl is
  where
    by : (f : Option DocFault) (blank key : Bool) → is_keyword_line line.text ≡ key
        → open_item (item_unless f (if blank then Ok None else if key then Ok (Some (keyword_item place line)) else Err
        (at place Keyword))) ≡ Ok next
        → (next ≡ nothing) ⊎ IsBegun limit place line next
    by (Some f) blank key e found = absurd (cc (found))
    by None true key e found = inl (sym (ap open_or found))
    by None false true e found = inr (record { keyword = e; is_open = is })
    by None false false e found = absurd (cc (found))

-- ---- a line that makes an item whole

-- what is open behind it: nothing, or the item that the line begins as it begins it where nothing is open
whole_then : (limit place : ℕ) (open_ : Open) (line : Line) (item : Item) (next : Open)
    → step limit place open_ line ≡ record { whole = Some item; next = Ok next }
    → (next ≡ nothing) ⊎ IsBegun limit place line next
whole_then limit place nothing line item next is =
    let w : None ≡ Some item = ap (λ (s : Step). s.whole) is in
    absurd (cc (w))
whole_then limit place (keyword_line one) line item next is = by (starts_dash line) is
  where
    by : (dash : Bool)
        → after_line dash (open_unless (line_fault limit place line)
        (first_object_line place one line (begin_words line.text))) one (open_item (read_line limit place line))
        ≡ record { whole = Some item; next = Ok next } → (next ≡ nothing) ⊎ IsBegun limit place line next
    by true found =
        let w : None ≡ Some item = ap (λ (s : Step). s.whole) found in
        absurd (cc (w))
    by false found =
        let n : open_item (read_line limit place line) ≡ Ok next = ap (λ (s : Step). s.next) found in
        either limit place line next n
whole_then limit place (object_lines one begin object) line item next is =
    inl (by_fault (object_line_fault limit begin place line) is)
  where
    by_made : (dash end_ body : Bool)
        → object_made line place one begin object dash end_ body ≡ record { whole = Some item; next = Ok next }
        → next ≡ nothing
    by_made true true true found =
        let n : Ok nothing ≡ Ok next = ap (λ (s : Step). s.next) found in
        sym (ap open_or n)
    by_made true true false found =
        let w : None ≡ Some item = ap (λ (s : Step). s.whole) found in
        absurd (cc (w))
    by_made true false body found =
        let w : None ≡ Some item = ap (λ (s : Step). s.whole) found in
        absurd (cc (w))
    by_made false end_ body found =
        let w : None ≡ Some item = ap (λ (s : Step). s.whole) found in
        absurd (cc (w))

    by_fault : (f : Option DocFault)
        → step_unless f (object_step one begin object place line) ≡ record { whole = Some item; next = Ok next }
        → next ≡ nothing
    by_fault (Some f) found =
        let w : None ≡ Some item = ap (λ (s : Step). s.whole) found in
        absurd (cc (w))
    by_fault None found =
        by_made (starts_dash line) (is_end_line object.words line.text) (is_body object.text) found

-- ---- lines

-- The lines before an item, and those from its line on: these make it and those behind it where nothing is open.
pub record IsFrontCut (limit place : ℕ) (ls : List Line) (item : Item) (items : List Item) : Type 0 where
  pub first : List Line
  pub line : Line
  pub more : List Line
  pub parts : ls ≡ first ++ line ∷ more
  pub keyword : is_keyword_line line.text ≡ true
  pub reads : Reads limit (place + sizes first) nothing (line ∷ more) (item ∷ items) nothing

-- one line more in front
longer : (limit place : ℕ) (line : Line) (rest : List Line) (item : Item) (items : List Item)
    → IsFrontCut limit (place + size line) rest item items → IsFrontCut limit place (line ∷ rest) item items
longer limit place line rest item items cut =
    let ends : place + size line + sizes cut.first ≡ place + sizes (line ∷ cut.first) = omega arith in
    record {
      first = line ∷ cut.first;
      line = cut.line;
      more = cut.more;
      parts = ap (λ (l : List Line). line ∷ l) cut.parts;
      keyword = cut.keyword;
      reads = subst (λ (k : ℕ). Reads limit k nothing (cut.line ∷ cut.more) (item ∷ items) nothing) ends cut.reads;
    }

-- the line begins it
here : (limit place : ℕ) (line : Line) (rest : List Line) (item : Item) (items : List Item) (next : Open)
    → IsBegun limit place line next → Reads limit (place + size line) next rest (item ∷ items) nothing
    → IsFrontCut limit place (line ∷ rest) item items
here limit place line rest item items next begun more =
    let none : place ≡ place + 0 = omega arith in
    let made : step limit place nothing line ≡ record { whole = None; next = Ok next } =
    λ i. record { whole = None; next = begun.is_open i } in
    record {
      first = [];
      line = line;
      more = rest;
      parts = refl;
      keyword = begun.keyword;
      reads = subst (λ (k : ℕ). Reads limit k nothing (line ∷ rest) (item ∷ items) nothing) none
          (None, next, item ∷ items, made, refl, more);
    }

-- the first of items, and those behind it
abbrev pub first_or : Item → List Item → Item
first_or other [] = other
first_or other (item ∷ items) = item

abbrev pub items_behind : List Item → List Item
items_behind [] = []
items_behind (item ∷ items) = items

-- where nothing is open
cut_here : (limit place : ℕ) (ls : List Line) (item : Item) (items : List Item)
    → Reads limit place nothing ls (item ∷ items) nothing → IsFrontCut limit place ls item items
cut_here limit place [] item items is = absurd (cc (is.0))
cut_here limit place (line ∷ rest) item items (whole, next, others, made, come, more) =
    let w : None ≡ whole = ap (λ (s : Step). s.whole) made in
    let n : open_item (read_line limit place line) ≡ Ok next = ap (λ (s : Step). s.next) made in
    let all : item ∷ items ≡ others = come ∙ ap (λ (o : Option Item). with_whole o others) (sym w) in
    let behind = subst (λ (l : List Item). Reads limit (place + size line) next rest l nothing) (sym all) more in
    by (either limit place line next n) behind
    (λ behind. cut_here limit (place + size line) rest item items behind)
  where
    by : (next ≡ nothing) ⊎ IsBegun limit place line next
        → Reads limit (place + size line) next rest (item ∷ items) nothing
        → (Reads limit (place + size line) nothing rest (item ∷ items) nothing
        → IsFrontCut limit (place + size line) rest item items)
        → IsFrontCut limit place (line ∷ rest) item items
    by (inl none) behind again =
        longer limit place line rest item items
        (again (subst (λ (o : Open). Reads limit (place + size line) o rest (item ∷ items) nothing) none behind))
    by (inr begun) behind again = here limit place line rest item items next begun behind

-- behind other items, whatever is open
pub cut_front : (limit place : ℕ) (open_ : Open) (ls : List Line) (one : Item) (before : List Item) (item : Item)
    (items : List Item) → Reads limit place open_ ls (one ∷ (before ++ item ∷ items)) nothing
    → IsFrontCut limit place ls item items
cut_front limit place open_ [] one before item items is = absurd (cc (is.0))
cut_front limit place open_ (line ∷ rest) one before item items (whole, next, others, made, come, more) =
    by (λ one before reads. cut_front limit
    (place + size line) next rest one before item items reads) whole before refl come
  where
    step_of : (w : Option Item) → whole ≡ w → step limit place open_ line ≡ record { whole = w; next = Ok next }
    step_of w e = made ∙ ap (λ (o : Option Item). record { whole = o; next = Ok next }) e

    then_ : (i : Item) → whole ≡ Some i → Reads limit (place + size line) next rest (item ∷ items) nothing
        → (next ≡ nothing) ⊎ IsBegun limit place line next → IsFrontCut limit place (line ∷ rest) item items
    then_ i e behind (inl none) =
        longer limit place line rest item items
        (cut_here limit (place + size line) rest item items
        (subst (λ (o : Open). Reads limit (place + size line) o rest (item ∷ items) nothing) none behind))
    then_ i e behind (inr begun) = here limit place line rest item items next begun behind

    by : ((one : Item) (before : List Item)
        → Reads limit (place + size line) next rest (one ∷ (before ++ item ∷ items)) nothing
        → IsFrontCut limit (place + size line) rest item items)
        → (w : Option Item) (before : List Item) → whole ≡ w → one ∷ (before ++ item ∷ items) ≡ with_whole w others
        → IsFrontCut limit place (line ∷ rest) item items
    by again None before e come =
        longer limit place line rest item items
        (again one before
        (subst (λ (l : List Item). Reads limit (place + size line) next rest l nothing) (sym come) more))
    by again (Some i) [] e come =
        let behind : item ∷ items ≡ others = ap items_behind come in
        then_ i e (subst (λ (l : List Item). Reads limit (place + size line) next rest l nothing) (sym behind) more)
        (whole_then limit place open_ line i next (step_of (Some i) e))
    by again (Some i) (two ∷ before) e come =
        let behind : two ∷ (before ++ item ∷ items) ≡ others = ap items_behind come in
        longer limit place line rest item items
        (again two before
        (subst (λ (l : List Item). Reads limit (place + size line) next rest l nothing) (sym behind) more))
