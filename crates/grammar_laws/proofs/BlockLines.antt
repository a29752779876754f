-- How lines of each kind begin and end, and lines in front of lines.
use Rattle.std.proofs.Common.{◌≡◌, ℕ, ◌+◌, Bool, true, false, cond, List, [], ◌∷◌, ◌++◌, length, take, drop, Option}
use Rattle.std.proofs.{Common.{Some, None, refl, sym, ap, ◌∙◌, arith}, lemmas.Bool.{false≢true, Decides.nat_tests}}
use Rattle.std.{proofs.lemmas.List.append-nil, specs.Prelude.{nat_eq, codes, ◌&&◌, ◌==◌, option_and_then}}
use Rattle.std.specs.List.{list_all}
use lib.Pointwise.{pointwise}
use Rattle.item_terms.specs.{Lines.Line, Words.{is_blank, is_blank_line, is_letter_or_digit, is_keyword_line}}
use Rattle.item_terms.specs.Words.{ends_or_blank, after_keyword, begins_dash, begins, ends, strip, strip_end, dashes}
use Rattle.item_terms.specs.{Words.{if_words, is_dashes}, Items.Item}
use Rattle.grammar_laws.specs.Blocks.{sizes, IsBlankLine, AreBlankLines, AreLinesOfItem, AreLinesOfItems}
use Rattle.grammar_laws.specs.BlockFaults.{begin_with_dash, end_in_keyword_line}

-- ---- lines in front of lines

pub sizes_append : (front rest : List Line) → sizes (front ++ rest) ≡ sizes front + sizes rest
sizes_append [] rest = omega arith
sizes_append (line ∷ front) rest = omega (arith, sizes_append front rest)

-- ---- how lines of each kind begin

letter_no_blank : (b : ℕ) → is_letter_or_digit b ≡ true → is_blank b ≡ false
letter_no_blank b e = grind (arith, nat_tests)

letter_no_dash : (b : ℕ) → is_letter_or_digit b ≡ true → (b == 45) ≡ false
letter_no_dash b e = grind (arith, nat_tests)

blank_no_dash : (b : ℕ) → is_blank b ≡ true → (b == 45) ≡ false
blank_no_dash b e = grind (arith, nat_tests)

first_of_both : (a b : Bool) → a && b ≡ true → a ≡ true
first_of_both true b e = refl
first_of_both false b e = absurd (false≢true e)

pub keyword_not_blank : (text : List ℕ) → is_keyword_line text ≡ true → is_blank_line text ≡ false
keyword_not_blank [] e = absurd (false≢true e)
keyword_not_blank (b ∷ text) e = ap (λ (t : Bool). t && list_all is_blank text) (letter_no_blank b (first_of_both (is_letter_or_digit b) (ends_or_blank (after_keyword (b ∷ text))) e))

pub keyword_no_dash : (text : List ℕ) → is_keyword_line text ≡ true → begins_dash text ≡ false
keyword_no_dash [] e = absurd (false≢true e)
keyword_no_dash (b ∷ text) e = letter_no_dash b (first_of_both (is_letter_or_digit b) (ends_or_blank (after_keyword (b ∷ text))) e)

pub blank_line_no_dash : (text : List ℕ) → is_blank_line text ≡ true → begins_dash text ≡ false
blank_line_no_dash [] e = refl
blank_line_no_dash (b ∷ text) e = blank_no_dash b (first_of_both (is_blank b) (list_all is_blank text) e)

-- a text that has a prefix with '-' in front begins with '-'
prefix_dash : (same more : Bool) (found rest : List ℕ) → cond (same && more) (Some rest) None ≡ Some found → same ≡ true
prefix_dash true more found rest e = refl
prefix_dash false more found rest e = absurd cc

strip_dash : (prefix text found : List ℕ) → strip (45 ∷ prefix) text ≡ Some found → begins_dash text ≡ true
strip_dash prefix [] found e = absurd cc
strip_dash prefix (b ∷ text) found e = prefix_dash (b == 45) (pointwise nat_eq (take (length prefix) text) prefix) found (drop (length prefix) text) e

pub end_dash : (words text : List ℕ) (found : Option (List ℕ)) → strip ends text ≡ found → is_dashes (option_and_then (strip words) found) ≡ true → begins_dash text ≡ true
end_dash words text None e h = absurd (false≢true h)
end_dash words text (Some rest) e h = strip_dash (codes "----END ") text rest e

pub begin_dash : (words text : List ℕ) (found : Option (List ℕ)) → strip begins text ≡ found → option_and_then if_words (option_and_then (strip_end dashes) found) ≡ Some words → begins_dash text ≡ true
begin_dash words text None e h = absurd cc
begin_dash words text (Some rest) e h = strip_dash (codes "----BEGIN ") text rest e

blanks_no_dash : (limit place : ℕ) (all : List Line) → AreBlankLines limit place all → begin_with_dash all ≡ false
blanks_no_dash limit place [] h = refl
blanks_no_dash limit place (line ∷ rest) h = blank_line_no_dash line.text h.0.blank

lead_no_dash : (limit place : ℕ) (blanks own others : List Line) (item : Item) → AreBlankLines limit place blanks → AreLinesOfItem limit (place + sizes blanks) own item → begin_with_dash ((blanks ++ own) ++ others) ≡ false
lead_no_dash limit place [] own others item b i = ap (λ (l : List Line). begin_with_dash (l ++ others)) i.lines ∙ keyword_no_dash i.first.text i.begins.keyword
lead_no_dash limit place (line ∷ blanks) own others item b i = blank_line_no_dash line.text b.0.blank

pub items_no_dash : (limit place : ℕ) (all : List Line) (items : List Item) → AreLinesOfItems limit place all items → begin_with_dash all ≡ false
items_no_dash limit place all [] h = blanks_no_dash limit place all h
items_no_dash limit place all (item ∷ items) h = ap begin_with_dash h.lines ∙ lead_no_dash limit place h.blanks h.own h.others item h.are_blank h.are_its

-- ---- the last line

pub and_false : (b : Bool) → b && false ≡ false
and_false true = refl
and_false false = refl

not_true : (b : Bool) → (b ≡ true → ⊥) → b ≡ false
not_true true h = absurd (h refl)
not_true false h = refl

-- a blank line is no keyword line, and nor is one that begins with '-'
blank_no_keyword : (text : List ℕ) → is_blank_line text ≡ true → is_keyword_line text ≡ false
blank_no_keyword text e = not_true (is_keyword_line text) (λ k. false≢true (sym (keyword_not_blank text k) ∙ e))

pub dash_no_keyword : (text : List ℕ) → begins_dash text ≡ true → is_keyword_line text ≡ false
dash_no_keyword text e = not_true (is_keyword_line text) (λ k. false≢true (sym (keyword_no_dash text k) ∙ e))

-- the last line is that of the lines at the end
pub last_append : (front : List Line) (line : Line) (rest : List Line) → end_in_keyword_line (front ++ line ∷ rest) ≡ end_in_keyword_line (line ∷ rest)
last_append [] line rest = refl
last_append (other ∷ []) line rest = refl
last_append (other ∷ next ∷ front) line rest = last_append (next ∷ front) line rest

-- a blank line in front leaves no keyword line at the end
pub blank_apart : (limit place : ℕ) (line : Line) (front rest : List Line) → IsBlankLine limit place line → end_in_keyword_line front && begin_with_dash rest ≡ false → end_in_keyword_line (line ∷ front) && begin_with_dash rest ≡ false
blank_apart limit place line [] rest b e = ap (λ (t : Bool). t && begin_with_dash rest) (blank_no_keyword line.text b.blank)
blank_apart limit place line (other ∷ front) rest b e = e

-- the lines of an item in front
pub item_apart : (own all front rest : List Line) → all ≡ front ++ rest → end_in_keyword_line own && begin_with_dash all ≡ false → end_in_keyword_line front && begin_with_dash rest ≡ false → end_in_keyword_line (own ++ front) && begin_with_dash rest ≡ false
item_apart own all [] rest split e h =
    ap (λ (l : List Line). end_in_keyword_line l && begin_with_dash rest) (append-nil own) ∙ ap (λ (l : List Line). end_in_keyword_line own && begin_with_dash l) (sym split) ∙ e
item_apart own all (line ∷ front) rest split e h = ap (λ (t : Bool). t && begin_with_dash rest) (last_append own line front) ∙ h
