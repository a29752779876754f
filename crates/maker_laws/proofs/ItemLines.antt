-- The line of each item of an input is no longer than a line may be, also where its keyword and its rest are written
-- anew.
use Rattle.std.proofs.Common.{◌≡◌, ℕ, ◌+◌, ◌-◌, ◌≤◌, Bool, true, false, cond, List, [], ◌∷◌, ◌++◌, length, drop, Option}
use Rattle.std.proofs.{Common.{Some, None, refl, sym, ap, subst, ◌∙◌, arith, length-append}, lemmas.Bool.and_parts}
use Rattle.std.proofs.lemmas.{Bool.false≢true, List.{length-drop, length-take, Sums.prefix_len-le-length}}
use Rattle.std.specs.{Prelude.if◌then◌else◌, List.{prefix_len, suffix_len}}
use Rattle.item_terms.specs.{declared.fault.DocFault.DocFault, Faults.{line_fault, max_line}, Items.{Contents, Item}}
use Rattle.item_terms.specs.{Items.items_from, Lines.{Line, lines, size}, Words.{after_keyword, arguments}}
use Rattle.item_terms.specs.Words.{ends_or_blank, first_is, is_blank, is_keyword_line, is_letter_or_digit, keyword}
use Rattle.item_terms.specs.Words.{keyword_len, trim, trim_front}
use Rattle.dirdoc_grammar.specs.Writing.{tail}
use Rattle.grammar_laws.{specs.Blocks.AreLinesOfItems, proofs.BlockFronts.{fault_is_there, items_are_there}}
use Rattle.grammar_laws.proofs.SoundLines.{has_end}
use Rattle.range_laws.proofs.TextSizes.{tail_short}
use Rattle.maker_laws.proofs.SoundBack.{line_fits}

-- a line of this keyword and this rest is no longer than a line may be, with its NL
abbrev pub FitsLine : List ℕ → List ℕ → Type 0
FitsLine keyword rest = length (keyword ++ tail rest) + 1 ≤ max_line

-- ---- the rest of a line

no_tail : (rest : List ℕ) → length rest ≤ 0 → length (tail rest) ≤ 0
no_tail [] none = omega arith
no_tail (b ∷ rest) none = absurd (omega (arith, none))

-- a shorter rest makes a shorter line
pub shorter_fits : (keyword rest other : List ℕ) → length other ≤ length rest → FitsLine keyword rest
    → FitsLine keyword other
shorter_fits keyword rest other less fits =
    omega (arith, fits, tails rest other less, length-append keyword (tail rest), length-append keyword (tail other))
  where
    tails : (rest other : List ℕ) → length other ≤ length rest → length (tail other) ≤ length (tail rest)
    tails rest [] less = omega arith
    tails [] (b ∷ other) less = absurd (omega (arith, less))
    tails (c ∷ rest) (b ∷ other) less = omega (arith, less)

trimmed : (text : List ℕ) → length (trim text) + prefix_len is_blank text ≤ length text
trimmed text =
    let front = trim_front text in
    omega (
      arith,
      length-take (length front - suffix_len is_blank front) front,
      length-drop (prefix_len is_blank text) text,
      prefix_len-le-length is_blank text,
    )

-- where a blank stands in front, the text without its outer blanks is shorter
trim_size : (text : List ℕ) → ends_or_blank text ≡ true → length (tail (trim text)) ≤ length text
trim_size [] is = no_tail (trim []) (omega (arith, trimmed []))
trim_size (b ∷ text) is =
    by (is_blank b) is (trimmed (b ∷ text))
  where
    by : (t : Bool) → t ≡ true → length (trim (b ∷ text)) + cond t (1 + prefix_len is_blank text) 0 ≤ length (b ∷ text)
        → length (tail (trim (b ∷ text))) ≤ length (b ∷ text)
    by true its short = omega (arith, short, tail_short (trim (b ∷ text)))
    by false its short = absurd (false≢true its)

-- ---- a line without a fault

line_size : (limit place : ℕ) (line : Line) → line_fault limit place line ≡ None → length line.text + 1 ≤ max_line
line_size limit place line sound =
    let whole : size line ≡ length line.text + 1 =
    ap (λ (t : Bool). length line.text + (if t then 1 else 0)) (has_end limit place line sound) in
    omega (arith, line_fits limit place line sound, whole)

item_line : (text : List ℕ) → is_keyword_line text ≡ true → length text + 1 ≤ max_line
    → FitsLine (keyword text) (arguments text)
item_line text is short =
    let blank = and_parts (first_is is_letter_or_digit text) (ends_or_blank (after_keyword text)) is in
    omega (
      arith,
      short,
      length-append (keyword text) (tail (arguments text)),
      length-take (keyword_len text) text,
      length-drop (keyword_len text) text,
      trim_size (after_keyword text) blank.1,
    )

-- ---- the items of an input

abbrev pub IsShortItem : Item → Type 0
IsShortItem item = FitsLine item.keyword item.arguments

abbrev pub EachShort : List Item → Type 0
EachShort [] = Unit {0}
EachShort (item ∷ items) = IsShortItem item × EachShort items

of_lines : (limit place : ℕ) (all : List Line) (items : List Item) → AreLinesOfItems limit place all items
    → EachShort items
of_lines limit place all [] are = tt
of_lines limit place all (item ∷ items) are =
    let its = are.are_its in
    let first = its.first in
    let short = item_line first.text its.begins.keyword (line_size _ _ first its.begins.sound) in (
      subst (λ (k : List ℕ). FitsLine k item.arguments) (sym its.keyword)
          (subst (λ (a : List ℕ). FitsLine (keyword first.text) a) (sym its.arguments) short),
      of_lines limit item.after are.others items are.go_on,
    )

-- of each input, be there a fault or not
pub each_short : (start limit : ℕ) (bytes : List ℕ) → EachShort (items_from start limit bytes).items
each_short start limit bytes = by (items_from start limit bytes) refl
  where
    by : (found : Contents) → items_from start limit bytes ≡ found → EachShort found.items
    by found is = by_fault found.fault refl
      where
        by_fault : (fault : Option DocFault) → found.fault ≡ fault → EachShort found.items
        by_fault None none =
            subst (λ (c : Contents). EachShort c.items) is
            (of_lines (start + limit) start (lines (drop start bytes)) (items_from start limit bytes).items
            (items_are_there start limit bytes (ap (λ (c : Contents). c.fault) is ∙ none)))
        by_fault (Some fault) some =
            let ends =
            fault_is_there start limit bytes found.items fault
            (is ∙ ap (λ (f : Option DocFault). record { items = found.items; fault = f }) some) in
            of_lines (start + limit) start ends.front found.items ends.before
