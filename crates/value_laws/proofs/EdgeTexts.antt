-- Numbers in the fewest ranges are written in no more bytes than their edges take, and their edges take no more than
-- any ranges in which they are written.
use Rattle.std.proofs.Common.{◌≡◌, ℕ, zero, suc, ◌+◌, ◌-◌, ◌<◌, ◌≤◌, Bool, true, false, cond, List, [], ◌∷◌, ◌++◌}
use Rattle.std.proofs.{Common.{length, map, refl, sym, ap, ◌∙◌, arith, length-append, ⊎_elim}, lemmas.Bool.cases_lt}
use Rattle.std.proofs.lemmas.{Bool.{eq-eqb, eqb-true, false≢true, le-leb, lt-leb}, List.Elements.{All-cons, All-filter}}
use Rattle.std.proofs.lemmas.List.{Elements.{All-head, All-nil, All-tail}, FromFn.get_or-range_with_len}
use Rattle.std.{proofs.lemmas.List.FromFn.length-range_with_len, specs.Prelude.{All, ◌==◌, ◌&&◌, ◌||◌, nat_le, filter}}
use Rattle.std.specs.{Prelude.if◌then◌else◌, Fmt.decimal, List.range_with_len}
use Rattle.item_terms.specs.Bytes.{comma, hyphen}
use Rattle.list_values.specs.NumberSets.{Range, has_number, in_range, in_ranges, numbers_from, numbers_text}
use Rattle.list_values.specs.NumberSets.{numbers_that, range_text, ranges_of, united_numbers, with_number}
use Rattle.list_values.proofs.RangeLaws.{ranges_have}
use Rattle.value_laws.proofs.Edges.{edges, either_edges, first_passes, is_edge, no_edges, run_edges, same_edges}
use Rattle.value_laws.proofs.{Edges.{size_if, size_of}, Rooms.{joined_room, room}}

-- ---- the text of a range

abbrev span : ℕ → ℕ → Range
span low high = record { low = low; high = high }

-- it has the last number, and besides at most the first one; a range of one number has that alone
record TextFits (range : Range) (text : List ℕ) : Type 0 where
  most : length text + 1 ≤ size_of range.low + size_of range.high
  least : size_of range.high ≤ length text + 1
  two : range.low < range.high → size_of range.low + size_of range.high ≤ length text + 1
  one : range.low ≡ range.high → length text + 1 ≤ size_of range.low

text_fits : (range : Range) → TextFits range (range_text range)
unfolding range_text
text_fits range = by (range.low == range.high) refl
  where
    both : List ℕ
    both = decimal range.low ++ hyphen ∷ decimal range.high

    by : (t : Bool) → (range.low == range.high) ≡ t → TextFits range (if t then decimal range.low else both)
    by true test =
        let same : range.low ≡ range.high = eqb-true range.low range.high test in
        let size = ap size_of same in
        record {
          most = omega arith;
          least = omega (arith, size);
          two = λ lt. absurd (omega (arith, lt, same));
          one = λ is. omega arith;
        }
    by false test =
        let size = length-append (decimal range.low) (hyphen ∷ decimal range.high) in
        record {
          most = omega (arith, size);
          least = omega (arith, size);
          two = λ lt. omega (arith, size);
          one = λ is. absurd (false≢true (sym test ∙ eq-eqb range.low range.high is));
        }

-- the text of a range has at most both numbers, and one alone where they are one
pub range_most : (range : Range) → length (range_text range) + 1 ≤ size_of range.low + size_of range.high
range_most range = (text_fits range).most

pub range_single : (range : Range) → range.low ≡ range.high → length (range_text range) + 1 ≤ size_of range.low
range_single range is = (text_fits range).one is

-- ---- the ranges of numbers that pass

abbrev pub ranges_room : List Range → ℕ
ranges_room ranges = room (map range_text ranges)

-- the same, where the first number of the first range takes nothing
abbrev grown_room : List Range → ℕ
grown_room [] = 0
grown_room (first ∷ rest) = size_of first.high + ranges_room rest

-- the first range begins with this number
abbrev Begins : ℕ → List Range → Type 0
Begins number [] = ⊥
Begins number (first ∷ rest) = first.low ≡ number

-- what one number more takes
record PutFits (number : ℕ) (ranges made : List Range) : Type 0 where
  begins : Begins number made
  all : ranges_room made ≤ size_of number + ranges_room ranges
  grown : grown_room made ≤ size_of number + ranges_room ranges
  next : Begins (number + 1) ranges → ranges_room made ≤ size_of number + grown_room ranges
  next_grown : Begins (number + 1) ranges → grown_room made ≤ grown_room ranges

put_fits : (number : ℕ) (ranges : List Range) → PutFits number ranges (with_number number ranges)
put_fits number [] =
    let one = (text_fits (span number number)).one refl in
    record {
      begins = refl;
      all = omega (arith, one);
      grown = omega arith;
      next = λ is. absurd is;
      next_grown = λ is. absurd is;
    }
put_fits number (first ∷ rest) = by (number + 1 == first.low) refl
  where
    by : (t : Bool) → (number + 1 == first.low) ≡ t
        → PutFits number (first ∷ rest) (if t then span number first.high ∷ rest else span number number ∷ first ∷ rest)
    by true test =
        let most = (text_fits (span number first.high)).most in
        let least = (text_fits first).least in
        record {
          begins = refl;
          all = omega (arith, most, least);
          grown = omega (arith, least);
          next = λ is. omega (arith, most);
          next_grown = λ is. omega arith;
        }
    by false test =
        let one = (text_fits (span number number)).one refl in
        let other : Begins (number + 1) (first ∷ rest) → ⊥ =
        λ is. false≢true (sym test ∙ eq-eqb (number + 1) first.low (sym is)) in
        record {
          begins = refl;
          all = omega (arith, one);
          grown = omega arith;
          next = λ is. absurd (other is);
          next_grown = λ is. absurd (other is);
        }

grown_least : (ranges : List Range) → grown_room ranges ≤ ranges_room ranges
grown_least [] = omega arith
grown_least (first ∷ rest) = omega (arith, (text_fits first).least)

-- the ranges take no more bytes than the edges, where none before them passes, and where one does
record RangesFit (some : Bool) (first : ℕ) (numbers : List ℕ) (apart behind : ℕ) : Type 0 where
  all : ranges_room (ranges_of numbers) ≤ apart
  grown : grown_room (ranges_of numbers) ≤ behind
  begins : some ≡ true → Begins first (ranges_of numbers)
  ends : some ≡ false → apart ≤ behind

ranges_fit : (p : ℕ → Bool) (count first : ℕ)
    → RangesFit (first_passes p (range_with_len first count)) first (filter p (range_with_len first count))
    (edges false p (range_with_len first count)) (edges true p (range_with_len first count))
ranges_fit p zero first =
    record { all = omega arith; grown = omega arith; begins = λ is. absurd (false≢true is); ends = λ is. omega arith }
ranges_fit p (suc count) first = by (p first) (first_passes p rest) (ranges_fit p count (first + 1))
  where
    rest : List ℕ
    rest = range_with_len (first + 1) count

    kept : List ℕ
    kept = filter p rest

    by : (t next : Bool) → RangesFit next (first + 1) kept (edges false p rest) (edges true p rest)
        → RangesFit t first (cond t (first ∷ kept) kept)
        (size_if (is_edge false t next) (size_of first) + edges t p rest)
        (size_if (is_edge true t next) (size_of first) + edges t p rest)
    by false next fit =
        let all = fit.all in
        record {
          all = omega (arith, all);
          grown = omega (arith, all, grown_least (ranges_of kept));
          begins = λ is. absurd (false≢true is);
          ends = λ is. omega arith;
        }
    by true true fit =
        let put = put_fits first (ranges_of kept) in
        let begins = fit.begins refl in
        let grown = fit.grown in
        record {
          all = let more = put.next begins in omega (arith, more, grown);
          grown = let more = put.next_grown begins in omega (arith, more, grown);
          begins = λ is. put.begins;
          ends = λ is. absurd (false≢true (sym is));
        }
    by true false fit =
        let put = put_fits first (ranges_of kept) in
        let all = fit.all in
        let ends = fit.ends refl in
        record {
          all = let more = put.all in omega (arith, more, all, ends);
          grown = let more = put.grown in omega (arith, more, all, ends);
          begins = λ is. put.begins;
          ends = λ is. absurd (false≢true (sym is));
        }

pub numbers_short : (p : ℕ → Bool) → length (numbers_text (numbers_that p)) ≤ edges false p (numbers_from 0) - 1
unfolding numbers_from
numbers_short p =
    let all = (ranges_fit p 64 0).all in
    omega (arith, all, joined_room comma (map range_text (ranges_of (numbers_that p))))

-- ---- the edges of ranges

abbrev pub IsHigh : Range → Type 0
IsHigh range = range.high < 64

one_range : (range : Range) → IsHigh range
    → edges false (in_range range) (numbers_from 0) ≤ length (range_text range) + 1
unfolding numbers_from
one_range range high =
    let fits = text_fits range in
    let before : (n : ℕ) → n < range.low → in_range range n ≡ false =
    λ n lt. ap (λ (t : Bool). t && nat_le n range.high) (lt-leb range.low n lt) in
    let behind : (n : ℕ) → range.high < n → in_range range n ≡ false =
    λ n lt. last_false (nat_le range.low n) (nat_le n range.high) (lt-leb n range.high lt) in
    ⊎_elim (λ empty.
    let none = no_edges (in_range range) 0 64
    (λ n le. ⊎_elim (λ lt. before n lt) (λ up. behind n (omega (arith, empty, up))) (cases_lt n range.low)) false in
    omega (arith, none))
    (λ up.
    run_edges (in_range range) range.low range.high (length (range_text range) + 1) before
    (record {
      pass = λ n from to. both_true (nat_le range.low n) (nat_le n range.high) (le-leb range.low n from)
          (le-leb n range.high to);
      none = behind;
    }) fits.two
    (λ is. let least = fits.least in let size = ap size_of is in omega (arith, least, size)) 64 0 (omega arith) up
    (omega (arith, high))) (cases_lt range.high range.low)
  where
    last_false : (a b : Bool) → b ≡ false → (a && b) ≡ false
    last_false true b is = is
    last_false false b is = refl

    both_true : (a b : Bool) → a ≡ true → b ≡ true → (a && b) ≡ true
    both_true true b is is_b = is_b
    both_true false b is is_b = is

no_range_edges : edges false (in_ranges []) (numbers_from 0) ≤ 0
unfolding numbers_from
no_range_edges = no_edges (in_ranges []) 0 64 (λ n le. refl) false

pub ranges_edges : (ranges : List Range) → All IsHigh ranges
    → edges false (in_ranges ranges) (numbers_from 0) ≤ ranges_room ranges
ranges_edges [] high = no_range_edges
ranges_edges (range ∷ rest) high =
    omega (
      arith,
      either_edges (in_ranges (range ∷ rest)) (in_range range) (in_ranges rest) (λ n. refl) false false false refl
          (numbers_from 0),
      one_range range (All-head IsHigh range rest high),
      ranges_edges rest (All-tail IsHigh range rest high),
    )

-- ---- sets of numbers from 0 to 63

abbrev pub IsSmall : ℕ → Type 0
IsSmall number = number < 64

all_small : All IsSmall (numbers_from 0)
unfolding numbers_from
all_small = λ k d lt.
    let size = length-range_with_len 0 64 in
    let at = get_or-range_with_len 0 64 k d (omega (arith, lt, size)) in
    omega (arith, at, lt, size)

pub kept_small : (p : ℕ → Bool) → All IsSmall (numbers_that p)
kept_small p = All-filter p IsSmall (numbers_from 0) all_small

with_high : (number : ℕ) (ranges : List Range) → IsSmall number → All IsHigh ranges
    → All IsHigh (with_number number ranges)
with_high number [] small high = All-cons IsHigh (span number number) [] small high
with_high number (first ∷ rest) small high = by (number + 1 == first.low)
  where
    by : (t : Bool)
        → All IsHigh (if t then span number first.high ∷ rest else span number number ∷ first ∷ rest)
    by true =
        All-cons IsHigh (span number first.high) rest (All-head IsHigh first rest high)
        (All-tail IsHigh first rest high)
    by false = All-cons IsHigh (span number number) (first ∷ rest) small high

ranges_high : (numbers : List ℕ) → All IsSmall numbers → All IsHigh (ranges_of numbers)
ranges_high [] small = All-nil IsHigh
ranges_high (number ∷ rest) small =
    with_high number (ranges_of rest) (All-head IsSmall number rest small)
    (ranges_high rest (All-tail IsSmall number rest small))

-- how many bytes their ranges take, each with one behind it
abbrev pub set_room : List ℕ → ℕ
set_room numbers = ranges_room (ranges_of numbers)

set_edges : (numbers : List ℕ) → All IsSmall numbers
    → edges false (has_number numbers) (numbers_from 0) ≤ set_room numbers
set_edges numbers small =
    omega (
      arith,
      same_edges (has_number numbers) (in_ranges (ranges_of numbers)) (λ n. sym (ranges_have numbers n)) false
          (numbers_from 0),
      ranges_edges (ranges_of numbers) (ranges_high numbers small),
    )

-- both together are written in no more bytes than each
pub united_short : (one other : List ℕ) → All IsSmall one → All IsSmall other
    → length (numbers_text (united_numbers one other)) ≤ set_room one + set_room other - 1
united_short one other small small_other =
    omega (
      arith,
      numbers_short (λ n. has_number one n || has_number other n),
      either_edges (λ n. has_number one n || has_number other n) (has_number one) (has_number other) (λ n. refl) false
          false false refl (numbers_from 0),
      set_edges one small,
      set_edges other small_other,
    )

pub set_text_room : (numbers : List ℕ) → length (numbers_text numbers) ≡ set_room numbers - 1
set_text_room numbers = joined_room comma (map range_text (ranges_of numbers))
