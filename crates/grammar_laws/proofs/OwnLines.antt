-- The lines of a text's own part: those that were cut, and what they hold alone.
use Rattle.std.proofs.Common.{◌≡◌, ℕ, suc, ◌+◌, Bool, true, false, List, [], ◌∷◌, ◌++◌, take, None, refl, sym, ap, ◌∙◌}
use Rattle.std.{proofs.Common.{arith, append-nil}, specs.Prelude.{◌==◌, if◌then◌else◌}}
use Rattle.item_terms.specs.{Items.{Item, contents_of, nothing}, Lines.{Line, lines, onto, size}}
use Rattle.grammar_laws.{specs.Moved.{Reads, sizes}, proofs.LinesTogether.{AllEnded, both_read}}

abbrev line_or : Line → List Line → Line
line_or other [] = other
line_or other (line ∷ ls) = line

abbrev lines_behind : List Line → List Line
lines_behind [] = []
lines_behind (line ∷ ls) = ls

abbrev empty : Line
empty = record { text = []; ended = true }

-- so many bytes of a text as its first lines have, which are ended, have these lines
pub lines_cut : (text : List ℕ) (first more : List Line) → AllEnded first → lines text ≡ first ++ more
    → lines (take (sizes first) text) ≡ first
lines_cut text [] more all is = refl
lines_cut [] (line ∷ first) more all is = absurd (cc is)
lines_cut (b ∷ text) (line ∷ first) more all is =
    by (λ first all is. lines_cut text first more all is) (b == 10) refl is
  where
    grown : (ls : List Line) → lines text ≡ ls → onto b ls ≡ line ∷ (first ++ more)
        → ((first : List Line) → AllEnded first → lines text ≡ first ++ more → lines (take (sizes first) text) ≡ first)
        → (b == 10) ≡ false → lines (take (sizes (line ∷ first)) (b ∷ text)) ≡ line ∷ first
    grown [] e is again dark = absurd (cc (sym all.0 ∙ sym (ap (λ (l : List Line). (line_or line l).ended) is)))
    grown (l ∷ ls) e is again dark =
        let same : record { text = b ∷ l.text; ended = l.ended } ≡ line = ap (line_or line) is in
        let ended : l.ended ≡ true = ap (λ (x : Line). x.ended) same ∙ all.0 in
        let there = again (l ∷ first) (ended, all.1) (e ∙ ap (λ (k : List Line). l ∷ k) (ap lines_behind is)) in
        let one : size (record { text = b ∷ l.text; ended = l.ended }) + sizes first ≡ suc (size l + sizes first) =
        omega arith in
        let count : sizes (line ∷ first) ≡ suc (sizes (l ∷ first)) =
        ap (λ (x : Line). size x + sizes first) (sym same) ∙ one in
        ap (λ (n : ℕ). lines (take n (b ∷ text))) count
        ∙ ap (λ (t : Bool). if t then empty ∷ lines (take (sizes (l ∷ first)) text) else onto b
        (lines (take (sizes (l ∷ first)) text))) dark
        ∙ ap (onto b) there
        ∙ ap (λ (x : Line). x ∷ first) same

    by : ((first : List Line) → AllEnded first → lines text ≡ first ++ more → lines (take (sizes first) text) ≡ first)
        → (nl : Bool) → (b == 10) ≡ nl
        → (if nl then empty ∷ lines text else onto b (lines text)) ≡ line ∷ (first ++ more)
        → lines (take (sizes (line ∷ first)) (b ∷ text)) ≡ line ∷ first
    by again true e is =
        let same : empty ≡ line = ap (line_or line) is in
        let there = again first all.1 (ap lines_behind is) in
        let count : sizes (line ∷ first) ≡ suc (sizes first) =
        ap (λ (x : Line). size x + sizes first) (sym same) ∙ one_more (sizes first) in
        ap (λ (n : ℕ). lines (take n (b ∷ text))) count
        ∙ ap (λ (t : Bool). if t then empty ∷ lines (take (sizes first) text) else onto b
        (lines (take (sizes first) text))) e
        ∙ ap (λ (l : List Line). empty ∷ l) there
        ∙ ap (λ (x : Line). x ∷ first) same
      where
        one_more : (a : ℕ) → 0 + 1 + a ≡ suc a
        one_more a = omega arith
    by again false e is = grown (lines text) refl is again e

-- lines without a fault, behind which nothing is open, hold these items alone
pub hold : (limit place : ℕ) (first : List Line) (items : List Item) → Reads limit place nothing first items nothing
    → contents_of limit place nothing first ≡ record { items = items; fault = None }
unfolding contents_of
hold limit place first items is =
    ap (λ (l : List Line). contents_of limit place nothing l) (sym (append-nil first))
    ∙ both_read limit place nothing first [] items nothing is
    ∙ ap (λ (l : List Item). record { items = l; fault = None }) (append-nil items)
