-- Lines without a fault have none nearer to the first byte, under any limit that they do not pass, and make the same
-- items.
use Rattle.std.proofs.Common.{◌≡◌, ℕ, ◌+◌, ◌≤◌, List, [], ◌∷◌, Option, Some, None, Result, Ok, Err, refl, sym, ap}
use Rattle.std.{proofs.Common.{subst, ◌∙◌, arith}, specs.Prelude.{map, option_map}}
use Rattle.item_terms.specs.{declared.fault.DocFault.DocFault, Lines.{Line, size}, Steps.{Item, Open, Step}}
use Rattle.item_terms.specs.Steps.{keyword_line, nothing, object_lines, step}
use Rattle.grammar_laws.{specs.Moved.{Reads, moved_item, moved_open, sizes, with_whole}, proofs.MovedLines.step_moved}
use Rattle.grammar_laws.proofs.SoundLines.{step_sound}
use Rattle.maker_laws.proofs.SoundBack.{line_fits, IsOpened, opened, step_opened}

-- ---- what a line makes

-- what a line makes here is what it makes further on
record IsBack (n : ℕ) (made : Step) (whole : Option Item) (next : Open) : Type 0 where
  was_whole : Option Item
  was_next : Open
  made_is : made ≡ record { whole = was_whole; next = Ok was_next }
  whole_is : option_map (moved_item n) was_whole ≡ whole
  next_is : moved_open n was_next ≡ next

abbrev made_step : Option Item → Open → Step
made_step whole next = record { whole = whole; next = Ok next }

-- what is open
abbrev pub open_or : Result Open DocFault → Open
open_or (Ok open_) = open_
open_or (Err fault) = nothing

step_back : (limit limit' place n : ℕ) (open_ : Open) (line : Line) (whole : Option Item) (next : Open)
    → step limit (place + n) (moved_open n open_) line ≡ made_step whole next → place + size line ≤ limit'
    → place + n + size line ≤ limit → IsBack n (step limit' place open_ line) whole next
step_back limit limit' place n open_ line whole next is fits room =
    let n_is : (step limit (place + n) (moved_open n open_) line).next ≡ Ok next = ap (λ (s : Step). s.next) is in
    by made.next refl
    (step_opened limit limit' place n open_ line
    (opened (step limit (place + n) (moved_open n open_) line).next next n_is) fits)
  where
    made : Step
    made = step limit' place open_ line

    by : (r : Result Open DocFault) → made.next ≡ r → IsOpened r → IsBack n made whole next
    by (Err fault) e open_is = absurd open_is
    by (Ok was) e open_is =
        let made_is : made ≡ made_step made.whole was = λ i. record { whole = made.whole; next = e i } in
        let there : step limit (place + n) (moved_open n open_) line
        ≡ made_step (option_map (moved_item n) made.whole) (moved_open n was) =
        step_moved limit' limit place n open_ line made.whole was made_is room in
        let same : made_step (option_map (moved_item n) made.whole) (moved_open n was) ≡ made_step whole next =
        sym there ∙ is in
        record {
          was_whole = made.whole;
          was_next = was;
          made_is = made_is;
          whole_is = ap (λ (s : Step). s.whole) same;
          next_is = ap (λ (s : Step). open_or s.next) same;
        }

-- ---- lines

-- items of lines that stand so many bytes further on: the same here, from these
pub record AreBack (limit place n : ℕ) (open_ : Open) (ls : List Line) (items : List Item) : Type 0 where
  pub was : List Item
  pub reads : Reads limit place open_ ls was nothing
  pub are : map (moved_item n) was ≡ items

whole_map : (n : ℕ) (whole : Option Item) (others : List Item)
    → map (moved_item n) (with_whole whole others) ≡ with_whole (option_map (moved_item n) whole) (map (moved_item n) others)
whole_map n None others = refl
whole_map n (Some item) others = refl

none_open : (n : ℕ) (open_ : Open) → moved_open n open_ ≡ nothing → open_ ≡ nothing
none_open n nothing is = refl
none_open n (keyword_line item) is = absurd (cc (is))
none_open n (object_lines item begin object) is = absurd (cc (is))

pub reads_back : (limit limit' place n : ℕ) (open_ : Open) (ls : List Line) (items : List Item)
    → Reads limit (place + n) (moved_open n open_) ls items nothing → place + sizes ls ≤ limit' → place + n ≤ limit
    → AreBack limit' place n open_ ls items
reads_back limit limit' place n open_ [] items is fits below =
    record { was = []; reads = (refl, none_open n open_ is.1); are = sym is.0 }
reads_back limit limit' place n open_ (line ∷ rest) items (whole, next, others, made, come, more) fits below =
    let sound = step_sound limit (place + n) (moved_open n open_) line whole next made in
    let size_ = line_fits limit (place + n) line sound in
    let room : place + n + size line ≤ limit = omega (arith, size_, below) in
    let back = step_back limit limit' place n open_ line whole next made (omega (arith, fits)) room in
    let here : place + n + size line ≡ place + size line + n = omega arith in
    let behind =
    subst (λ (k : ℕ). Reads limit k (moved_open n back.was_next) rest others nothing) here
    (subst (λ (o : Open). Reads limit (place + n + size line) o rest others nothing) (sym back.next_is) more) in
    let later =
    reads_back limit limit' (place + size line) n back.was_next rest others behind (omega (arith, fits))
    (omega (arith, room)) in
    record {
      was = with_whole back.was_whole later.was;
      reads = (back.was_whole, back.was_next, later.was, back.made_is, refl, later.reads);
      are = whole_map n back.was_whole later.was
          ∙ ap (λ (o : Option Item). with_whole o (map (moved_item n) later.was)) back.whole_is
          ∙ ap (λ (l : List Item). with_whole whole l) later.are
          ∙ sym come;
    }
