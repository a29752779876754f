-- The items of a document stand one behind the other, each with its keyword line.
use Rattle.std.proofs.Common.{◌≡◌, ℕ, ◌+◌, ◌≤◌, Bool, true, false, cond, eqb, List, [], ◌∷◌, ◌++◌, length, drop, Option}
use Rattle.std.proofs.{Common.{Some, None, refl, sym, ap, subst, ◌∙◌, arith, append_assoc}, lemmas.Bool.and_from}
use Rattle.std.{proofs.lemmas.{Bool.eqb-true, List.{append-nil, drop-drop, drop_at, length-append}}, specs.Prelude.◌==◌}
use Rattle.std.specs.{Prelude.not, List.list_all}
use Rattle.item_terms.specs.{declared.fault.DocFault.DocFault, Items.{Item, items_from}, Lines.{Line, lines, onto}}
use Rattle.item_terms.specs.Lines.{size}
use Rattle.item_terms.specs.Words as word
use Rattle.grammar_laws.{specs.Blocks.{AreLinesOfItem, AreLinesOfItems, sizes}, proofs.BlockFronts.fault_is_there}
use Rattle.grammar_laws.proofs.{BlockFronts.items_are_there, SoundLines.has_end}

-- ---- the lines of a text, joined, are the text

abbrev end_of : Bool → List ℕ
end_of ended = cond ended (10 ∷ []) []

-- the bytes of a line, with its NL
abbrev whole_line : Line → List ℕ
whole_line line = line.text ++ end_of line.ended

abbrev joined : List Line → List ℕ
joined [] = []
joined (line ∷ rest) = whole_line line ++ joined rest

joined_onto : (b : ℕ) (list : List Line) → joined (onto b list) ≡ b ∷ joined list
joined_onto b [] = refl
joined_onto b (line ∷ rest) = refl

joined_by : (is_nl : Bool) (b : ℕ) (bytes : List ℕ) → is_nl ≡ eqb b 10 → joined (lines bytes) ≡ bytes
    → joined (cond is_nl (record { text = []; ended = true } ∷ lines bytes) (onto b (lines bytes))) ≡ b ∷ bytes
joined_by true b bytes e h =
    ap (λ (l : List ℕ). 10 ∷ l) h ∙ ap (λ (x : ℕ). x ∷ bytes) (sym (eqb-true b 10 (sym e)))
joined_by false b bytes e h = joined_onto b (lines bytes) ∙ ap (λ (l : List ℕ). b ∷ l) h

joined_lines : (bytes : List ℕ) → joined (lines bytes) ≡ bytes
joined_lines [] = refl
joined_lines (b ∷ bytes) = joined_by (eqb b 10) b bytes refl (joined_lines bytes)

joined_append : (front rest : List Line) → joined (front ++ rest) ≡ joined front ++ joined rest
joined_append [] rest = refl
joined_append (line ∷ front) rest =
    ap (λ (l : List ℕ). whole_line line ++ l) (joined_append front rest)
    ∙ sym (append_assoc (whole_line line) (joined front) (joined rest))

length_line : (text : List ℕ) (ended : Bool) → length (text ++ end_of ended) ≡ size (record { text = text; ended = ended })
length_line text true = length-append text (10 ∷ [])
length_line text false = length-append text []

length_joined : (list : List Line) → length (joined list) ≡ sizes list
length_joined [] = refl
length_joined (line ∷ rest) =
    omega (arith, length-append (whole_line line) (joined rest), length_line line.text line.ended, length_joined rest)

-- ---- no line has a NL in its text

abbrev is_inside : ℕ → Bool
is_inside b = not (b == 10)

abbrev AreClean : List Line → Type 0
AreClean [] = Unit {0}
AreClean (line ∷ rest) = (list_all is_inside line.text ≡ true) × AreClean rest

clean_onto : (b : ℕ) (list : List Line) → is_inside b ≡ true → AreClean list → AreClean (onto b list)
clean_onto b [] is clean = (and_from _ _ is refl, tt)
clean_onto b (line ∷ rest) is clean = (and_from _ _ is clean.0, clean.1)

clean_by : (is_nl : Bool) (b : ℕ) (list : List Line) → (b == 10) ≡ is_nl → AreClean list
    → AreClean (cond is_nl (record { text = []; ended = true } ∷ list) (onto b list))
clean_by true b list e clean = (refl, clean)
clean_by false b list e clean = clean_onto b list (ap not e) clean

clean_lines : (bytes : List ℕ) → AreClean (lines bytes)
clean_lines [] = tt
clean_lines (b ∷ bytes) = clean_by (b == 10) b (lines bytes) refl (clean_lines bytes)

clean_parts : (front rest : List Line) → AreClean (front ++ rest) → AreClean front × AreClean rest
clean_parts [] rest clean = (tt, clean)
clean_parts (line ∷ front) rest clean =
    let parts = clean_parts front rest clean.1 in ((clean.0, parts.0), parts.1)

-- ---- an item

-- an item begins at a place or behind it, and its keyword line stands there
pub record StandsFrom (bytes : List ℕ) (place : ℕ) (item : Item) : Type 0 where
  pub later : place ≤ item.place
  pub text : List ℕ
  pub rest : List ℕ
  pub there : drop item.place bytes ≡ text ++ 10 ∷ rest
  pub one_line : list_all is_inside text ≡ true
  pub line_end : item.line_end ≡ item.place + (length text + 1)
  pub until : item.line_end ≤ item.after
  pub keyword : item.keyword ≡ word.keyword text
  pub separator : item.separator ≡ word.separator text

-- each of these items stands behind the one before it, and the first at a place or behind it
abbrev pub Follow : List ℕ → ℕ → List Item → Type 0
Follow bytes place [] = Unit {0}
Follow bytes place (item ∷ items) = StandsFrom bytes place item × Follow bytes item.after items

-- what stands behind these lines
rest_behind_lines : (place : ℕ) (bytes : List ℕ) (list : List Line) (more : List ℕ) → drop place bytes ≡ joined list ++ more
    → drop (place + sizes list) bytes ≡ more
rest_behind_lines place bytes list more e =
    sym (drop-drop (sizes list) place bytes) ∙ ap (drop (sizes list)) e
    ∙ drop_at (joined list) more (sizes list) (length_joined list)

-- the keyword line of an item, of whose lines it is known where they stand
item_stands : (limit start place : ℕ) (bytes : List ℕ) (own : List Line) (item : Item) (more : List ℕ) → start ≤ place
    → AreLinesOfItem limit place own item → AreClean own → drop place bytes ≡ joined own ++ more
    → StandsFrom bytes start item
item_stands limit start place bytes own item more later its clean there =
    let first = its.first in
    let ended : first.ended ≡ true = has_end limit place first its.begins.sound in
    let rest = joined its.others ++ more in
    let own_is : joined own ≡ whole_line first ++ joined its.others = ap joined its.lines in
    let whole_is : whole_line first ≡ first.text ++ 10 ∷ [] = ap (λ (b : Bool). first.text ++ end_of b) ended in
    let one_more : size first ≡ length first.text + 1 =
    ap (λ (b : Bool). size (record { text = first.text; ended = b })) ended in
    let all_sizes : sizes own ≡ size first + sizes its.others = ap sizes its.lines in
    let first_clean : AreClean (first ∷ its.others) = subst AreClean its.lines clean in
    record {
      later = omega (arith, later, its.stands);
      text = first.text;
      rest = rest;
      there = ap (λ (n : ℕ). drop n bytes) its.stands ∙ there
          ∙ ap (λ (l : List ℕ). l ++ more) own_is
          ∙ append_assoc (whole_line first) (joined its.others) more
          ∙ ap (λ (l : List ℕ). l ++ rest) whole_is
          ∙ append_assoc first.text (10 ∷ []) rest;
      one_line = first_clean.0;
      line_end = omega (arith, its.line_end, its.stands, one_more);
      until = omega (arith, its.line_end, its.after, all_sizes);
      keyword = its.keyword;
      separator = its.separator;
    }

-- ---- items one behind the other

follow : (limit place : ℕ) (bytes : List ℕ) (all : List Line) (more : List ℕ) (items : List Item)
    → AreLinesOfItems limit place all items → AreClean all → drop place bytes ≡ joined all ++ more
    → Follow bytes place items
follow limit place bytes all more [] are clean there = tt
follow limit place bytes all more (item ∷ items) are clean there =
    let front = are.blanks ++ are.own in
    let here = place + sizes are.blanks in
    let cleans = clean_parts front are.others (subst AreClean are.lines clean) in
    let own_clean = (clean_parts are.blanks are.own cleans.0).1 in
    let left = joined are.others ++ more in
    let all_is : drop place bytes ≡ joined are.blanks ++ (joined are.own ++ left) =
    there
    ∙ ap (λ (l : List Line). joined l ++ more) are.lines
    ∙ ap (λ (l : List ℕ). l ++ more) (joined_append front are.others)
    ∙ append_assoc (joined front) (joined are.others) more
    ∙ ap (λ (l : List ℕ). l ++ left) (joined_append are.blanks are.own)
    ∙ append_assoc (joined are.blanks) (joined are.own) left in
    let at_item : drop here bytes ≡ joined are.own ++ left =
    rest_behind_lines place bytes are.blanks (joined are.own ++ left) all_is in
    let at_others : drop item.after bytes ≡ left =
    ap (λ (n : ℕ). drop n bytes) are.are_its.after ∙ rest_behind_lines here bytes are.own left at_item in (
      item_stands limit place here bytes are.own item left (omega arith) are.are_its own_clean at_item,
      follow limit item.after bytes are.others more items are.go_on cleans.1 at_others,
    )

by_fault : (start limit : ℕ) (bytes : List ℕ) (fault : Option DocFault) → (items_from start limit bytes).fault ≡ fault
    → Follow bytes start (items_from start limit bytes).items
by_fault start limit bytes None e =
    let text = drop start bytes in
    follow (start + limit) start bytes (lines text) [] (items_from start limit bytes).items
    (items_are_there start limit bytes e) (clean_lines text)
    (sym (joined_lines text) ∙ sym (append-nil (joined (lines text))))
by_fault start limit bytes (Some fault) e =
    let text = drop start bytes in
    let items = (items_from start limit bytes).items in
    let ends = fault_is_there start limit bytes items fault
    (ap (λ (f : Option DocFault). record { items = items; fault = f }) e) in
    let cleans = clean_parts ends.front ends.rest (subst AreClean ends.lines (clean_lines text)) in
    follow (start + limit) start bytes ends.front (joined ends.rest) items ends.before cleans.0
    (sym (joined_lines text) ∙ ap joined ends.lines ∙ joined_append ends.front ends.rest)

-- the items of what stands from a place on
pub items_follow : (start limit : ℕ) (bytes : List ℕ) → Follow bytes start (items_from start limit bytes).items
items_follow start limit bytes = by_fault start limit bytes (items_from start limit bytes).fault refl
