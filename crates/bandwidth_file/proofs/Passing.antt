-- The lines that were passed over, none of which ends the bandwidth file.
use Rattle.std.proofs.Common.{◌≡◌, ℕ, ◌+◌, ◌-◌, ◌<◌, ◌≤◌, Bool, true, false, List, [], ◌∷◌, ◌++◌, length, take, drop}
use Rattle.std.proofs.Common.{Some, None, refl, sym, ap, ap₂, ◌∙◌, arith, append_assoc, append-nil}
use Rattle.std.proofs.lemmas.List.{length-drop, length-take, Folds.list_any-append, Sums.take_while-cons}
use Rattle.std.{proofs.{lemmas.Slice.Eq.bytes_eq-Decides, Math.ListN.drop_of_length-le}, specs.Prelude.{◌&&◌, ◌||◌}}
use Rattle.std.specs.{Prelude.{not, codes, if◌then◌else◌}, List.list_any}
use Rattle.memchr.specs.Find.{IsFirstByte, is_byte}
use Rattle.item_terms.specs.Lines.{Line, lines, size}
use Rattle.dirdoc_grammar.proofs.FirstLine.{whole_rest}
use Rattle.bandwidth_file.proofs.{FirstLines.{ended_line, open_line}, Lineage.split_at, Sections.place_grows}
use Rattle.bandwidth_file.specs.{Lines.place_of, Fronts.{end_among, end_place, end_size, is_end, is_end_text}}
use Rattle.bandwidth_file.specs.Fronts.{lines_before}

-- Lines before a place were passed over.
pub record IsPassed (bytes : List ℕ) (place : ℕ) : Type 0 where
  pub before : List Line
  pub split : lines bytes ≡ before ++ lines (drop place bytes)
  pub there : place ≡ place_of before
  pub inside : place ≤ length bytes
  pub none : list_any is_end before ≡ false

abbrev rest_of : List ℕ → ℕ → List ℕ
rest_of bytes place = take (length bytes - place) (drop place bytes)

abbrev line_with : List ℕ → Bool → Line
line_with text ended = record { text = text; ended = ended }

-- the lines before the first that ends it, with one more in front
lines_before_one_more_in_front : (line : Line) (rest : List Line)
    → lines_before (line ∷ rest) ≡ (if not (is_end line) then line ∷ lines_before rest else [])
lines_before_one_more_in_front line rest = take_while-cons (λ (other : Line). not (is_end other)) line rest

-- none of some lines ends it: all of them stand before the first that does
all_before : (before rest : List Line) → list_any is_end before ≡ false
    → lines_before (before ++ rest) ≡ before ++ lines_before rest
all_before [] rest none = refl
all_before (line ∷ before) rest none = by (is_end line) refl none (all_before before rest)
  where
    by : (b : Bool) → is_end line ≡ b → (b || list_any is_end before) ≡ false
        → (list_any is_end before ≡ false → lines_before (before ++ rest) ≡ before ++ lines_before rest)
        → lines_before ((line ∷ before) ++ rest) ≡ (line ∷ before) ++ lines_before rest
    by true is wrong later = absurd cc
    by false is none later =
        lines_before_one_more_in_front line (before ++ rest)
        ∙ ap (λ (b : Bool). if not b then line ∷ lines_before (before ++ rest) else []) is
        ∙ ap (λ (l : List Line). line ∷ l) (later none)

any_behind : (before rest : List Line) → list_any is_end before ≡ false
    → list_any is_end (before ++ rest) ≡ list_any is_end rest
any_behind before rest none =
    list_any-append is_end before rest ∙ ap (λ (b : Bool). b || list_any is_end rest) none

-- the first of the lines behind is it
found_there : (before rest : List Line) (line : Line) → list_any is_end before ≡ false → is_end line ≡ true
    → end_among (before ++ line ∷ rest) ≡ Some (place_of before)
found_there before rest line none is =
    let any : list_any is_end (before ++ line ∷ rest) ≡ true =
    any_behind before (line ∷ rest) none ∙ ap (λ (b : Bool). b || list_any is_end rest) is in
    let front : lines_before (before ++ line ∷ rest) ≡ before =
    all_before before (line ∷ rest) none ∙ ap (λ (l : List Line). before ++ l) (lines_before_one_more_in_front line rest)
    ∙ ap (λ (b : Bool). before ++ (if not b then line ∷ lines_before rest else [])) is ∙ append-nil before in
    ap₂ (λ (b : Bool) (l : List Line). if b then Some (place_of l) else None) any front

-- there is none
none_there : (input : List Line) → list_any is_end input ≡ false → end_among input ≡ None
none_there input none =
    ap (λ (b : Bool). if b then Some (place_of (lines_before input)) else None) none

-- ---- from one line to the next

-- there is a line
some_left : (bytes : List ℕ) (place : ℕ) → place < length bytes → 0 < length (rest_of bytes place)
some_left bytes place there =
    let whole = ap (λ (l : List ℕ). length l) (whole_rest place bytes) in
    omega (arith, whole, length-drop place bytes, there)

module _ (bytes : List ℕ) (place k : ℕ) (passed : IsPassed bytes place) (there : place < length bytes)
    (found : IsFirstByte (is_byte 10) (rest_of bytes place) (Some k)) where
  line_there : lines bytes ≡ passed.before ++ line_with (take k (rest_of bytes place)) true
      ∷ lines (drop (place + size (line_with (take k (rest_of bytes place)) true)) bytes)
  line_there =
      split_at bytes place (line_with (take k (rest_of bytes place)) true) passed.before passed.split
      (ended_line (rest_of bytes place) (take k (rest_of bytes place)) k (some_left bytes place there) found refl)

  -- it ends the file
  pub ends_there : is_end_text (take k (rest_of bytes place)) ≡ true → end_place bytes ≡ Some place
  ends_there is =
      let line = line_with (take k (rest_of bytes place)) true in
      ap end_among line_there
      ∙ found_there passed.before (lines (drop (place + size line) bytes)) line passed.none
      (ap (λ (b : Bool). b && true) is)
      ∙ ap Some (sym passed.there)

  count : length (take k (rest_of bytes place)) ≡ k
  count = omega (arith, length-take k (rest_of bytes place), found.0.high)

  -- it goes on
  pub passes_on : is_end_text (take k (rest_of bytes place)) ≡ false → IsPassed bytes (place + (k + 1))
  passes_on is =
      let line = line_with (take k (rest_of bytes place)) true in
      let next : place + size line ≡ place + (k + 1) = ap (λ (n : ℕ). place + (n + 1)) count in
      let whole = ap (λ (l : List ℕ). length l) (whole_rest place bytes) in
      record {
        before = passed.before ++ line ∷ [];
        split = line_there ∙ sym (append_assoc passed.before (line ∷ []) (lines (drop (place + size line) bytes)))
            ∙ ap (λ (n : ℕ). (passed.before ++ line ∷ []) ++ lines (drop n bytes)) next;
        there = sym next ∙ ap (λ (n : ℕ). n + size line) passed.there ∙ sym (place_grows passed.before line);
        inside = omega (arith, found.0.high, whole, length-drop place bytes, passed.inside);
        none = list_any-append is_end passed.before (line ∷ [])
            ∙ ap₂ (λ (a b : Bool). a || ((b && true) || false)) passed.none is;
      }

  -- that line is inside
  pub within_there : is_end_text (take k (rest_of bytes place)) ≡ true → place + end_size ≤ length bytes
  within_there is =
      let same = (bytes_eq-Decides (take k (rest_of bytes place)) (codes "end-bandwidth-file")).0 is in
      let eighteen : length (codes "end-bandwidth-file") ≡ 18 = refl in
      let long = ap (λ (l : List ℕ). length l) same in
      let whole = ap (λ (l : List ℕ). length l) (whole_rest place bytes) in
      omega (arith, found.0.high, whole, length-drop place bytes, passed.inside, count, long, eighteen)

-- no line is ended
pub none_ended : (bytes : List ℕ) (place : ℕ) → IsPassed bytes place → place < length bytes
    → IsFirstByte (is_byte 10) (rest_of bytes place) None → end_place bytes ≡ None
none_ended bytes place passed some none =
    let rest = rest_of bytes place in
    let line = line_with rest false in
    let there = split_at bytes place line passed.before passed.split
    (open_line rest (some_left bytes place some) none) in
    let long = length-drop place bytes in
    let whole = ap (λ (l : List ℕ). length l) (whole_rest place bytes) in
    let over : length bytes ≤ place + size line = omega (arith, long, whole, passed.inside) in
    let last : lines (drop (place + size line) bytes) ≡ [] =
    ap (λ (l : List ℕ). lines l) (drop_of_length-le bytes over) in
    none_there (lines bytes)
    (ap (list_any is_end) (there ∙ ap (λ (l : List Line). passed.before ++ line ∷ l) last)
    ∙ any_behind passed.before (line ∷ []) passed.none
    ∙ ap (λ (b : Bool). b || false) (not_ended (is_end_text rest)))
  where
    not_ended : (b : Bool) → (b && false) ≡ false
    not_ended true = refl
    not_ended false = refl

-- no line is left
pub none_left : (bytes : List ℕ) (place : ℕ) → IsPassed bytes place → length bytes ≤ place → end_place bytes ≡ None
none_left bytes place passed over =
    none_there (lines bytes)
    (ap (list_any is_end) (passed.split ∙ ap (λ (r : List ℕ). passed.before ++ lines r) (drop_of_length-le bytes over)
    ∙ append-nil passed.before) ∙ passed.none)

-- nothing was passed over yet
pub none_passed : (bytes : List ℕ) → IsPassed bytes 0
none_passed bytes = record { before = []; split = refl; there = refl; inside = omega arith; none = refl }
