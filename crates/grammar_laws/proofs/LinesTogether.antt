-- The items of a text put together from texts are the items one behind the other.
use Rattle.std.proofs.Common.{◌≡◌, ℕ, suc, ◌+◌, ◌≤◌, Bool, true, false, List, [], ◌∷◌, ◌++◌, length, Option, Some, None}
use Rattle.std.{proofs.Common.{refl, sym, ap, subst, ◌∙◌, arith}, specs.Prelude.{map, ◌==◌, if◌then◌else◌}}
use Rattle.item_terms.specs.{Items.{Contents, also, contents, contents_of, proceed}, Lines.{Line, lines, onto, size}}
use Rattle.item_terms.specs.Steps.{Item, Open, Step, nothing}
use Rattle.dirdoc_grammar.specs.Writing.{in_front}
use Rattle.grammar_laws.{specs.Moved.{Reads, moved_item, sizes, with_whole}, proofs.MovedLines.reads_moved}

-- lines that have no fault, and then others
also_front : (whole : Option Item) (others : List Item) (rest : Contents)
    → also whole (in_front others rest) ≡ in_front (with_whole whole others) rest
also_front None others rest = refl
also_front (Some item) others rest = refl

pub both_read : (limit place : ℕ) (open_ : Open) (first more : List Line) (items : List Item) (last : Open)
    → Reads limit place open_ first items last
    → contents_of limit place open_ (first ++ more) ≡ in_front items (contents_of limit (place + sizes first) last more)
unfolding contents_of
both_read limit place open_ [] more items last is =
    let none : place ≡ place + 0 = omega arith in
    ap (λ (o : Open). contents_of limit place o more) is.1
    ∙ ap (λ (k : ℕ). contents_of limit k last more) none
    ∙ ap (λ (l : List Item). in_front l (contents_of limit (place + 0) last more)) (sym is.0)
both_read limit place open_ (line ∷ rest) more items last (whole, next, others, made, come, is) =
    let here : place + size line + sizes rest ≡ place + sizes (line ∷ rest) = omega arith in
    ap (λ (s : Step). also s.whole (proceed s.next (λ o. contents_of limit (place + size line) o (rest ++ more)))) made
    ∙ ap (also whole) (both_read limit (place + size line) next rest more others last is)
    ∙ also_front whole others (contents_of limit (place + size line + sizes rest) last more)
    ∙ ap (λ (l : List Item). in_front l (contents_of limit (place + size line + sizes rest) last more)) (sym come)
    ∙ ap (λ (k : ℕ). in_front items (contents_of limit k last more)) here

-- ---- lines of texts

-- each line has its NL
abbrev pub AllEnded : List Line → Type 0
AllEnded [] = Unit {0}
AllEnded (line ∷ rest) = (line.ended ≡ true) × AllEnded rest

-- the lines of two texts, of which the first ends with an NL
onto_both : (b : ℕ) (ls more : List Line) → (ls ≡ [] → ⊥) → onto b (ls ++ more) ≡ onto b ls ++ more
onto_both b [] more some = absurd (some refl)
onto_both b (line ∷ ls) more some = refl

ended_tail : (b : ℕ) (ls : List Line) → (ls ≡ [] → ⊥) → AllEnded (onto b ls) → AllEnded ls
ended_tail b [] some all = absurd (some refl)
ended_tail b (line ∷ ls) some all = all

some_lines : (b : ℕ) (ls : List Line) → AllEnded (onto b ls) → ls ≡ [] → ⊥
some_lines b [] all e = cc all.0
some_lines b (line ∷ ls) all e = cc e

pub lines_both : (text more : List ℕ) → AllEnded (lines text) → lines (text ++ more) ≡ lines text ++ lines more
lines_both [] more all = refl
lines_both (b ∷ text) more all = by (λ ended. lines_both text more ended) (b == 10) all
  where
    by : (AllEnded (lines text) → lines (text ++ more) ≡ lines text ++ lines more) → (nl : Bool)
        → AllEnded (if nl then record { text = []; ended = true } ∷ lines text else onto b (lines text))
        → (if nl then record { text = []; ended = true } ∷ lines (text ++ more) else onto b (lines (text ++ more)))
        ≡ (if nl then record { text = []; ended = true } ∷ lines text else onto b (lines text)) ++ lines more
    by again true all =
        ap (λ (l : List Line). record { text = []; ended = true } ∷ l) (again all.1)
    by again false all =
        let some = some_lines b (lines text) all in
        ap (onto b) (again (ended_tail b (lines text) some all))
        ∙ onto_both b (lines text) (lines more) some

-- their sizes are the text's
pub sizes_all : (text : List ℕ) → sizes (lines text) ≡ length text
sizes_all [] = refl
sizes_all (b ∷ text) = by (sizes_all text) (b == 10)
  where
    grown : (ls : List Line) → sizes (onto b ls) ≡ suc (sizes ls)
    grown [] = refl
    grown (line ∷ ls) = omega arith

    by : sizes (lines text) ≡ length text → (nl : Bool)
        → sizes (if nl then record { text = []; ended = true } ∷ lines text else onto b (lines text))
        ≡ suc (length text)
    by more true = omega (arith, more)
    by more false = grown (lines text) ∙ ap suc more

-- The items of a text that is put together from a text without a fault, after which nothing is open, and another, are
-- those of the first and then those of the other; so many bytes further on, under any limit that the first does not
-- pass there.
pub together : (limit limit' n : ℕ) (text more : List ℕ) (items : List Item) → AllEnded (lines text)
    → Reads limit 0 nothing (lines text) items nothing → n + length text ≤ limit'
    → contents limit' n nothing (text ++ more)
    ≡ in_front (map (moved_item n) items) (contents limit' (n + length text) nothing more)
together limit limit' n text more items ended is fits =
    let long = sizes_all text in
    let from_zero : 0 + n ≡ n = omega arith in
    let there = subst (λ (k : ℕ). Reads limit' k nothing (lines text) (map (moved_item n) items) nothing) from_zero
    (reads_moved limit limit' 0 n nothing (lines text) items nothing is (omega (arith, long, fits))) in
    ap (λ (l : List Line). contents_of limit' n nothing l) (lines_both text more ended)
    ∙ both_read limit' n nothing (lines text) (lines more) (map (moved_item n) items) nothing there
    ∙ ap (λ (k : ℕ). in_front (map (moved_item n) items) (contents_of limit' (n + k) nothing (lines more))) long
