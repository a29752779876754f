-- Texts between places of the bytes, and the keyword lines of items one behind the other.
use Rattle.std.proofs.Common.{◌≡◌, ℕ, ◌+◌, ◌-◌, ◌≤◌, List, [], ◌∷◌, ◌++◌, length, take, drop, Some, refl, sym, ap, ◌∙◌}
use Rattle.std.proofs.{Common.{arith, append_assoc}, lemmas.List.{drop-drop, drop-take, length-append, length-drop}}
use Rattle.std.proofs.{lemmas.List.{take-append-drop, take-take, take_at}, Math.Seq.take-add}
use Rattle.std.specs.{Prelude.slice_range, List.slice_get}
use Rattle.item_terms.specs.Items.{Item}
use Rattle.item_terms.specs.Words as word
use Rattle.vote_laws.{specs.Texts.{IsLineOf, text_before}, proofs.Lines.{Follow, StandsFrom}}

-- ---- texts between places

-- a text from one place to another, and from there on
pub slices : (bytes : List ℕ) (from middle until : ℕ) → from ≤ middle → middle ≤ until
    → slice_range bytes from middle ++ slice_range bytes middle until ≡ slice_range bytes from until
slices bytes from middle until first second =
    let parts : until - from ≡ (middle - from) + (until - middle) = omega (arith, first, second) in
    let there : drop (middle - from) (drop from bytes) ≡ drop middle bytes =
    drop-drop (middle - from) from bytes ∙ ap (λ (n : ℕ). drop n bytes) (omega (arith, first)) in
    sym (ap (λ (n : ℕ). take n (drop from bytes)) parts
    ∙ take-add (middle - from) (until - middle) (drop from bytes)
    ∙ ap (λ (l : List ℕ). slice_range bytes from middle ++ take (until - middle) l) there)

-- a text that ends before bytes are cut off
pub cut_off : (bytes : List ℕ) (used from until : ℕ) → from ≤ used → until ≤ used
    → slice_range (take used bytes) from until ≡ slice_range bytes from until
cut_off bytes used from until begins ends =
    let parts : used ≡ from + (used - from) = omega (arith, begins) in
    ap (λ (n : ℕ). take (until - from) (drop from (take n bytes))) parts
    ∙ ap (take (until - from)) (drop-take from (used - from) bytes)
    ∙ take-take (until - from) (used - from) (drop from bytes) (omega (arith, ends))

-- what stands at a place
pub slice_of : (bytes : List ℕ) (from until : ℕ) (text rest : List ℕ) → drop from bytes ≡ text ++ rest
    → until ≡ from + length text → slice_range bytes from until ≡ text
slice_of bytes from until text rest there end =
    ap (take (until - from)) there ∙ take_at text rest (until - from) (omega (arith, end))

-- ---- items one behind the other

module _ (bytes : List ℕ) where
  earlier : (place before : ℕ) (item : Item) → before ≤ place → StandsFrom bytes place item → StandsFrom bytes before item
  earlier place before item le from = record {
    later = omega (arith, le, from.later);
    text = from.text;
    rest = from.rest;
    there = from.there;
    one_line = from.one_line;
    line_end = from.line_end;
    until = from.until;
    keyword = from.keyword;
    separator = from.separator;
  }

  -- an item among others, and those behind it
  pub among : (place : ℕ) (front : List Item) (item : Item) (items : List Item) → Follow bytes place (front ++ item ∷ items)
      → StandsFrom bytes place item × Follow bytes item.after items
  among place [] item items follow = follow
  among place (other ∷ front) item items follow =
      let found = among other.after front item items follow.1 in
      let here = follow.0 in
      let le : place ≤ other.after = omega (arith, here.later, here.line_end, here.until) in
      (earlier other.after place item le found.0, found.1)

  module _ (place : ℕ) (item : Item) (from : StandsFrom bytes place item) where
    -- an item does not end before it begins
    pub begins_before : item.place ≤ item.after
    begins_before = omega (arith, from.line_end, from.until)

    -- its keyword line
    abbrev pub line : List ℕ
    line = from.text ++ 10 ∷ []

    line_there : drop item.place bytes ≡ line ++ from.rest
    line_there = from.there ∙ sym (append_assoc from.text (10 ∷ []) from.rest)

    length_line : length line ≡ length from.text + 1
    length_line = length-append from.text (10 ∷ [])

    pub line_is : IsLineOf bytes item line
    line_is = record {
      text = from.text;
      ends = refl;
      one_line = from.one_line;
      keyword = sym from.keyword;
      stands = ap (take (length line)) line_there ∙ take_at line from.rest (length line) refl;
    }

    -- the text from an item before it through its line
    pub through_line : (first : Item) → first.place ≤ item.place
        → slice_range bytes first.place item.line_end ≡ text_before bytes first item ++ line
    through_line first le =
        let end : item.line_end ≡ item.place + length line = omega (arith, from.line_end, length_line) in
        sym (slices bytes first.place item.place item.line_end le (omega (arith, from.line_end)))
        ∙ ap (λ (l : List ℕ). text_before bytes first item ++ l)
        (slice_of bytes item.place item.line_end line from.rest line_there end)

    -- ---- an item with a space behind its keyword

    spaced_rest : (rest : List ℕ) → slice_get rest 0 ≡ Some 32 → (more : List ℕ) × (rest ≡ 32 ∷ more)
    spaced_rest [] e = absurd (cc (e))
    spaced_rest (b ∷ more) e =
        let is : b ≡ 32 = cc (e) in (more, ap (λ (n : ℕ). n ∷ more) is)

    -- the keyword and the space stand there
    pub spaced : item.separator ≡ Some 32
        → (slice_range bytes item.place (item.place + length item.keyword + 1) ≡ item.keyword ++ 32 ∷ [])
        × (item.place + length item.keyword + 1 ≤ length bytes)
        × (item.place + length item.keyword + 1 ≤ item.after)
    spaced space =
        let text = from.text in
        let n = word.keyword_len text in
        let found = spaced_rest (drop n text) (sym from.separator ∙ space) in
        let text_is : text ≡ item.keyword ++ 32 ∷ found.0 =
        sym (take-append-drop n text) ∙ ap (λ (l : List ℕ). take n text ++ l) found.1
        ∙ ap (λ (l : List ℕ). l ++ 32 ∷ found.0) (sym from.keyword) in
        let there : drop item.place bytes ≡ (item.keyword ++ 32 ∷ []) ++ (found.0 ++ 10 ∷ from.rest) =
        from.there ∙ ap (λ (l : List ℕ). l ++ 10 ∷ from.rest) text_is
        ∙ append_assoc item.keyword (32 ∷ found.0) (10 ∷ from.rest)
        ∙ sym (append_assoc item.keyword (32 ∷ []) (found.0 ++ 10 ∷ from.rest)) in
        let long : length text ≡ length item.keyword + length (32 ∷ found.0) =
        ap length text_is ∙ length-append item.keyword (32 ∷ found.0) in
        let whole : length bytes - item.place ≡ length text + length (10 ∷ from.rest) =
        sym (length-drop item.place bytes) ∙ ap length from.there ∙ length-append text (10 ∷ from.rest) in
        let size : length (item.keyword ++ 32 ∷ []) ≡ length item.keyword + 1 = length-append item.keyword (32 ∷ []) in (
          slice_of bytes item.place (item.place + length item.keyword + 1) (item.keyword ++ 32 ∷ [])
              (found.0 ++ 10 ∷ from.rest) there (omega (arith, size)),
          omega (arith, long, whole),
          omega (arith, long, from.line_end, from.until),
        )
