-- The rest of each item's line has no NL, no NUL and no outer blanks.
use Rattle.std.proofs.Common.{◌≡◌, ℕ, zero, suc, ◌+◌, ◌-◌, ◌≤◌, Bool, true, false, cond, List, [], ◌∷◌, ◌++◌, length}
use Rattle.std.proofs.Common.{take, drop, get_or, reverse, Option, Some, None, refl, sym, ap, subst, ◌∙◌, arith, inl}
use Rattle.std.proofs.{Common.inr, lemmas.{Bool.{and_from, and_parts, cases_lt, ltb-false}, List.get_or-reverse}}
use Rattle.std.proofs.lemmas.List.{length-reverse, take_all, Sums.{prefix_len_stops, suffix_len-le-length}}
use Rattle.std.{proofs.lemmas.List.Sums.suffix_len-take_no, specs.Prelude.{◌==◌, ◌&&◌, nat_lt, not, if◌then◌else◌}}
use Rattle.std.specs.List.{list_all, prefix_len, suffix_len}
use Rattle.item_terms.specs.{declared.fault.DocFault.DocFault, Faults.{line_fault, nul_fault, or_else, too_long}}
use Rattle.item_terms.specs.{Faults.unterminated_fault, Items.{Contents, Item, items_from}, Lines.{Line, lines, onto}}
use Rattle.item_terms.specs.{Lines.size, Words.{after_keyword, arguments, is_blank, keyword_len, nul_in, trim}}
use Rattle.item_terms.specs.Words.{trim_end, trim_front}
use Rattle.dirdoc_grammar.specs.Writing.{IsLineRest}
use Rattle.grammar_laws.{specs.Blocks.AreLinesOfItems, proofs.BlockFronts.{fault_is_there, items_are_there}}

-- ---- lines have no NL

abbrev no_nl : ℕ → Bool
no_nl b = not (b == 10)

abbrev no_nul : ℕ → Bool
no_nul b = not (b == 0)

abbrev EachLine : List Line → Type 0
EachLine [] = Unit {0}
EachLine (line ∷ rest) = (list_all no_nl line.text ≡ true) × EachLine rest

onto_line : (b : ℕ) (list : List Line) → no_nl b ≡ true → EachLine list → EachLine (onto b list)
onto_line b [] is each = (and_from _ _ is refl, tt)
onto_line b (line ∷ rest) is each = (and_from _ _ is each.0, each.1)

all_lines : (bytes : List ℕ) → EachLine (lines bytes)
all_lines [] = tt
all_lines (b ∷ bytes) = by (b == 10) refl (all_lines bytes)
  where
    by : (t : Bool) → (b == 10) ≡ t → EachLine (lines bytes)
        → EachLine (if t then record { text = []; ended = true } ∷ lines bytes else onto b (lines bytes))
    by true is each = (refl, each)
    by false is each = onto_line b (lines bytes) (ap not is) each

line_parts : (front rest : List Line) → EachLine (front ++ rest) → EachLine front × EachLine rest
line_parts [] rest each = (tt, each)
line_parts (line ∷ front) rest each =
    let more = line_parts front rest each.1 in ((each.0, more.0), more.1)

-- ---- and no NUL

all_pass : (p : ℕ → Bool) (text : List ℕ) → length text ≤ prefix_len p text → list_all p text ≡ true
all_pass p [] long = refl
all_pass p (b ∷ text) long = by (p b) refl long (all_pass p text)
  where
    by : (t : Bool) → p b ≡ t → length (b ∷ text) ≤ cond t (1 + prefix_len p text) 0
        → (length text ≤ prefix_len p text → list_all p text ≡ true) → (p b && list_all p text) ≡ true
    by true is more rest = and_from _ _ is (rest (omega (arith, more)))
    by false is more rest = absurd (omega (arith, more))

none_found : (text : List ℕ) → nul_in text ≡ None → list_all no_nul text ≡ true
none_found text none = by (nat_lt (prefix_len no_nul text) (length text)) refl none
  where
    by : (t : Bool) → nat_lt (prefix_len no_nul text) (length text) ≡ t
        → cond t (Some (prefix_len no_nul text)) None ≡ None → list_all no_nul text ≡ true
    by true is e = absurd (cc e)
    by false is e = all_pass no_nul text (ltb-false (prefix_len no_nul text) (length text) is)

lacks_nul : (place : ℕ) (text : List ℕ) → nul_fault place (nul_in text) ≡ None → list_all no_nul text ≡ true
lacks_nul place text none = by (nul_in text) refl none
  where
    by : (found : Option ℕ) → nul_in text ≡ found → nul_fault place found ≡ None → list_all no_nul text ≡ true
    by None is e = none_found text is
    by (Some i) is e = absurd (cc e)

last_fault : (a b c : Option DocFault) → or_else a (or_else b c) ≡ None → c ≡ None
last_fault None None c e = e
last_fault None (Some fault) c e = absurd (cc e)
last_fault (Some fault) b c e = absurd (cc e)

sound_line : (limit place : ℕ) (line : Line) → line_fault limit place line ≡ None → list_all no_nul line.text ≡ true
sound_line limit place line sound =
    lacks_nul place line.text
    (last_fault (too_long limit place (size line)) (unterminated_fault place line)
    (nul_fault place (nul_in line.text)) sound)

-- ---- parts of a line

all_drop : (p : ℕ → Bool) (n : ℕ) (text : List ℕ) → list_all p text ≡ true → list_all p (drop n text) ≡ true
all_drop p zero text all = all
all_drop p (suc n) [] all = refl
all_drop p (suc n) (b ∷ text) all = all_drop p n text (and_parts (p b) (list_all p text) all).1

all_take : (p : ℕ → Bool) (n : ℕ) (text : List ℕ) → list_all p text ≡ true → list_all p (take n text) ≡ true
all_take p zero text all = refl
all_take p (suc n) [] all = refl
all_take p (suc n) (b ∷ text) all =
    let parts = and_parts (p b) (list_all p text) all in and_from _ _ parts.0 (all_take p n text parts.1)

all_trim : (p : ℕ → Bool) (text : List ℕ) → list_all p text ≡ true → list_all p (trim text) ≡ true
all_trim p text all =
    let front = trim_front text in
    all_take p (length front - suffix_len is_blank front) front (all_drop p (prefix_len is_blank text) text all)

-- ---- a trimmed text is trimmed

-- no byte in front passes
front_done : (p : ℕ → Bool) (text : List ℕ) → prefix_len p (drop (prefix_len p text) text) ≡ 0
front_done p [] = refl
front_done p (b ∷ text) = by (p b) refl (front_done p text)
  where
    by : (t : Bool) → p b ≡ t → prefix_len p (drop (prefix_len p text) text) ≡ 0
        → prefix_len p (drop (cond t (1 + prefix_len p text) 0) (b ∷ text)) ≡ 0
    by true is more =
        let one : suc (prefix_len p text) ≡ 1 + prefix_len p text = omega arith in
        subst (λ (n : ℕ). prefix_len p (drop n (b ∷ text)) ≡ 0) one more
    by false is more = ap (λ (t : Bool). cond t (1 + prefix_len p text) 0) is

-- so too in a front of it
front_of_front : (p : ℕ → Bool) (n : ℕ) (text : List ℕ) → prefix_len p text ≡ 0 → prefix_len p (take n text) ≡ 0
front_of_front p zero text none = refl
front_of_front p (suc n) [] none = refl
front_of_front p (suc n) (b ∷ text) none = by (p b) refl none
  where
    by : (t : Bool) → p b ≡ t → cond t (1 + prefix_len p text) 0 ≡ 0
        → cond t (1 + prefix_len p (take n text)) 0 ≡ 0
    by true is e = absurd (omega (arith, e))
    by false is e = refl

-- no byte at the end passes
back_done : (p : ℕ → Bool) (text : List ℕ) → suffix_len p (take (length text - suffix_len p text) text) ≡ 0
back_done p text =
    let k = suffix_len p text in
    let n = length text - k in
    let within = suffix_len-le-length p text in
    elim (cases_lt k (length text)) [
      | inl some ↦
          let long = length-reverse text in
          let stops = prefix_len_stops p (reverse text) 0 (omega (arith, some, long)) in
          let at : length text - 1 - k ≡ n - 1 = omega arith in
          let ends : p (get_or text (n - 1) 0) ≡ false =
          ap (λ (i : ℕ). p (get_or text i 0)) (sym at) ∙ ap p (sym (get_or-reverse text k 0 some)) ∙ stops in
          suffix_len-take_no p text n 0 (omega (arith, some)) (omega arith) ends
      | inr all ↦
          let none : n ≡ 0 = omega (arith, all) in
          ap (λ (i : ℕ). suffix_len p (take i text)) none
    ]

trim_again : (text : List ℕ) → trim (trim text) ≡ trim text
trim_again text =
    let front = trim_front text in
    let whole = trim text in
    let none : prefix_len is_blank whole ≡ 0 =
    front_of_front is_blank (length front - suffix_len is_blank front) front (front_done is_blank text) in
    ap (λ (n : ℕ). trim_end (drop n whole)) none
    ∙ ap (λ (n : ℕ). take (length whole - n) whole) (back_done is_blank front)
    ∙ take_all (length whole - 0) whole (omega arith)

-- the rest of a keyword line without an NL and a NUL
line_rest : (text : List ℕ) → list_all no_nl text ≡ true → list_all no_nul text ≡ true → IsLineRest (arguments text)
line_rest text nl nul =
    let after = after_keyword text in
    record {
      no_nl = all_trim no_nl after (all_drop no_nl (keyword_len text) text nl);
      no_nul = all_trim no_nul after (all_drop no_nul (keyword_len text) text nul);
      trimmed = trim_again after;
    }

-- ---- items

-- the rest of each item's line is such
abbrev pub HaveRests : List Item → Type 0
HaveRests [] = Unit {0}
HaveRests (item ∷ items) = IsLineRest item.arguments × HaveRests items

of_lines : (limit place : ℕ) (all : List Line) (items : List Item) → EachLine all
    → AreLinesOfItems limit place all items
    → HaveRests items
of_lines limit place all [] each are = tt
of_lines limit place all (item ∷ items) each are =
    let parts =
    line_parts (are.blanks ++ are.own) are.others (subst (λ (l : List Line). EachLine l) are.lines each) in
    let own =
    subst (λ (l : List Line). EachLine l) are.are_its.lines (line_parts are.blanks are.own parts.0).1 in
    let first = are.are_its.first in
    let nul = sound_line _ _ first are.are_its.begins.sound in (
      subst (λ (l : List ℕ). IsLineRest l) (sym are.are_its.arguments) (line_rest first.text own.0 nul),
      of_lines limit item.after are.others items parts.1 are.go_on,
    )

-- of each input, be there a fault or not
pub have_rests : (start limit : ℕ) (bytes : List ℕ) → HaveRests (items_from start limit bytes).items
have_rests start limit bytes = by (items_from start limit bytes) refl
  where
    all : List Line
    all = lines (drop start bytes)

    by : (found : Contents) → items_from start limit bytes ≡ found → HaveRests found.items
    by found is = by_fault found.fault refl
      where
        by_fault : (fault : Option DocFault) → found.fault ≡ fault → HaveRests found.items
        by_fault None none =
            subst (λ (c : Contents). HaveRests c.items) is
            (of_lines (start + limit) start all (items_from start limit bytes).items (all_lines (drop start bytes))
            (items_are_there start limit bytes (ap (λ (c : Contents). c.fault) is ∙ none)))
        by_fault (Some fault) some =
            let ends =
            fault_is_there start limit bytes found.items fault
            (is ∙ ap (λ (f : Option DocFault). record { items = found.items; fault = f }) some) in
            let each = subst (λ (l : List Line). EachLine l) ends.lines (all_lines (drop start bytes)) in
            of_lines (start + limit) start ends.front found.items (line_parts ends.front ends.rest each).0 ends.before
