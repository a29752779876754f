-- How long joined texts, lines of Base64 and names of keywords are.
use Rattle.std.proofs.Common.{◌≡◌, ℕ, suc, ◌+◌, ◌*◌, ◌/◌, ◌%◌, ◌^◌, ◌≤◌, ◌<◌, Bool, true, false, List, [], ◌∷◌, ◌++◌}
use Rattle.std.proofs.{Common.{length, length-append, refl, arith, ⊎_elim}, lemmas.Bool.{cases_lt, eqb-true, eqb-false}}
use Rattle.std.proofs.lemmas.{Bool.leb-true, Fmt.length-decimal-le, List.Elements.{All-head, All-tail}}
use Rattle.std.specs.{Prelude.{◌==◌, All, decimal, nat_le}, List.join_with_byte}
use Rattle.dir_bytes.specs.FieldTexts.{address_text}
use Rattle.dirdoc_grammar.specs.{Bodies.in_lines, Writing.tail}
use Rattle.frame_terms.specs.{Keywords.text_of, declared.keyword.Keyword.{Keyword, TheVariants.NetworkStatusVersion}}

-- ---- texts with a byte between each two

abbrev pub IsAtMost : ℕ → List ℕ → Type 0
IsAtMost most text = length text ≤ most

pub join_short : (most byte : ℕ) (texts : List (List ℕ)) → All (IsAtMost most) texts
    → length (join_with_byte byte texts) ≤ (most + 1) * length texts
join_short most byte [] all = omega arith
join_short most byte (text ∷ []) all = omega (arith, All-head (IsAtMost most) text [] all)
join_short most byte (text ∷ next ∷ rest) all =
    let first = All-head (IsAtMost most) text (next ∷ rest) all in
    let later = join_short most byte (next ∷ rest) (All-tail (IsAtMost most) text (next ∷ rest) all) in
    let size = length-append text (byte ∷ join_with_byte byte (next ∷ rest)) in
    let more : (most + 1) * suc (length (next ∷ rest)) ≡ (most + 1) + (most + 1) * length (next ∷ rest) =
    times_suc (most + 1) (length (next ∷ rest)) in
    omega (arith, first, later, size, more)
  where
    times_suc : (a b : ℕ) → a * suc b ≡ a + a * b
    times_suc a b = grind arith

-- ---- lines of Base64

-- one byte more for each 64
pub lines_fit : (count : ℕ) (text : List ℕ) → count < 64
    → 64 * length (in_lines count text) ≤ 65 * length text + count + 64
lines_fit count [] few = by (count == 0) refl
  where
    by : (t : Bool) → (count == 0) ≡ t → 64 * length (in_lines count []) ≤ 65 * 0 + count + 64
    by true is = rw is (omega arith)
    by false is = rw is (omega arith)
lines_fit count (b ∷ text) few = by (λ count few. lines_fit count text few) (count + 1 == 64) refl
  where
    by : ((count : ℕ) → count < 64 → 64 * length (in_lines count text) ≤ 65 * length text + count + 64)
        → (t : Bool) → (count + 1 == 64) ≡ t
        → 64 * length (in_lines count (b ∷ text)) ≤ 65 * suc (length text) + count + 64
    by again true is =
        let full = eqb-true (count + 1) 64 is in
        let rest = again 0 (omega arith) in
        rw is (omega (arith, full, rest))
    by again false is =
        let more : count + 1 < 64 =
        ⊎_elim (λ less. less) (λ past.
        let full : count + 1 ≡ 64 = omega (arith, few, past) in
        absurd (eqb-false (count + 1) 64 is full)) (cases_lt (count + 1) 64) in
        let rest = again (count + 1) more in
        rw is (omega (arith, rest))

-- ---- lines of items

-- the name of each keyword is short
pub keyword_short : (keyword : Keyword) → length (text_of keyword) ≤ 64
keyword_short keyword = leb-true (length (text_of keyword)) 64 (small keyword)
  where
    small : (k : Keyword) → nat_le (length (text_of k)) 64 ≡ true
    small NetworkStatusVersion = refl
    small _ = refl

-- the rest of a line with the byte before it
pub tail_short : (rest : List ℕ) → length (tail rest) ≤ 1 + length rest
tail_short [] = omega arith
tail_short (b ∷ rest) = omega arith

-- ---- addresses

byte_short : (n : ℕ) → n < 256 → length (decimal n) ≤ 3
byte_short n small = length-decimal-le 3 n (omega arith) (omega (arith, small)) (omega (arith, small))

-- an address in four numbers
pub address_short : (ip : ℕ) → ip < 2 ^ 32 → length (address_text ip) ≤ 15
unfolding address_text
address_short ip small =
    let a = decimal (ip / 16777216) in
    let b = decimal (ip / 65536 % 256) in
    let c = decimal (ip / 256 % 256) in
    let d = decimal (ip % 256) in
    omega (
      arith,
      length-append (a ++ 46 ∷ b ++ 46 ∷ c) (46 ∷ d),
      length-append (a ++ 46 ∷ b) (46 ∷ c),
      length-append a (46 ∷ b),
      byte_short (ip / 16777216) (omega (arith, small)),
      byte_short (ip / 65536 % 256) (omega arith),
      byte_short (ip / 256 % 256) (omega arith),
      byte_short (ip % 256) (omega arith),
    )
