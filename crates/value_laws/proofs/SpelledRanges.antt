-- Ranges of numbers from 0 to 63 that were read are written in no more bytes.
use Rattle.std.proofs.Common.{◌≡◌, ℕ, ◌<◌, ◌≤◌, Bool, true, false, List, [], ◌∷◌, length, map, Option, Some, None, refl}
use Rattle.std.proofs.{Common.{sym, ap, subst, ◌∙◌, arith}, lemmas.{Bool.leb-true, List.Elements.{All-cons, All-nil}}}
use Rattle.std.{proofs.lemmas.List.Splits.join_with_byte-slice_split, specs.Prelude.{All, nat_le, option_and_then}}
use Rattle.std.specs.{Prelude.{option_map, unwrap_or, if◌then◌else◌}, Fmt.decimal}
use Rattle.item_terms.specs.Bytes.{comma, hyphen}
use Rattle.dir_values.specs.{Numbers.number_of, Versions.{behind, front_of, has_mark}}
use Rattle.list_values.specs.{NumberSets.{Range, in_ranges, numbers_text, numbers_that, range_text}, Parts.parts_of}
use Rattle.list_values.specs.Protocols.{all_of, if_small, listed_number, range_between, range_of, ranges_in}
use Rattle.value_laws.proofs.EdgeTexts.{IsHigh, numbers_short, range_most, range_single, ranges_edges, ranges_room}
use Rattle.value_laws.proofs.{Rooms.{joined_room, room, sides_of}, Spelled.number_spelled}

-- ---- what texts spell

-- a number is written in no more bytes than the text that spells it
abbrev IsSpelled : List ℕ → ℕ → Type 0
IsSpelled text n = (length (decimal n) ≤ length text) × (n < 64)

same_some : {A : Type 0} (a b : A) → Some a ≡ Some b → a ≡ b
same_some a b is = cc

listed_spelled : (text : List ℕ) (n : ℕ) → listed_number text ≡ Some n → IsSpelled text n
unfolding listed_number
listed_spelled text n is = by (number_of text) refl is
  where
    by : (found : Option ℕ) → number_of text ≡ found → option_and_then if_small found ≡ Some n → IsSpelled text n
    by None e small = absurd (cc small)
    by (Some k) e small = by_test (nat_le k 63) refl small
      where
        by_test : (t : Bool) → nat_le k 63 ≡ t → (if t then Some k else None) ≡ Some n → IsSpelled text n
        by_test true test it =
            let few = leb-true k 63 test in
            subst (IsSpelled text) (same_some k n it)
            ((number_spelled 4294967295 text k (omega arith) e).0, omega (arith, few))
        by_test false test it = absurd (cc it)

-- a range is written in no more bytes than the text that spells it
abbrev RangeIs : List ℕ → Range → Type 0
RangeIs text range = (length (range_text range) ≤ length text) × IsHigh range

between_is : (a b : Option ℕ) (range : Range) → range_between a b ≡ Some range
    → (a ≡ Some range.low) × (b ≡ Some range.high)
between_is None b range is = absurd (cc is)
between_is (Some low) None range is = absurd (cc is)
between_is (Some low) (Some high) range is = by (nat_le low high) is
  where
    by : (t : Bool) → (if t then Some (record { low = low; high = high }) else None) ≡ Some range
        → (Some low ≡ Some range.low) × (Some high ≡ Some range.high)
    by true it =
        let same : record { low = low; high = high } ≡ range = same_some _ range it in
        (ap (λ (r : Range). Some r.low) same, ap (λ (r : Range). Some r.high) same)
    by false it = absurd (cc it)

range_is : (text : List ℕ) (range : Range) → range_of text ≡ Some range → RangeIs text range
unfolding range_of
range_is text range is = by (has_mark hyphen text) refl is
  where
    front : List ℕ
    front = front_of hyphen text

    back : List ℕ
    back = behind hyphen text

    by : (t : Bool) → has_mark hyphen text ≡ t
        → (if t then range_between (listed_number front) (listed_number back)
        else range_between (listed_number text) (listed_number text)) ≡ Some range → RangeIs text range
    by true marked found =
        let both = between_is (listed_number front) (listed_number back) range found in
        let low = listed_spelled front range.low both.0 in
        let high = listed_spelled back range.high both.1 in
        (omega (arith, low.0, high.0, sides_of hyphen text marked, range_most range), high.1)
    by false marked found =
        let both = between_is (listed_number text) (listed_number text) range found in
        let low = listed_spelled text range.low both.0 in
        let high = listed_spelled text range.high both.1 in
        let one : range.low ≡ range.high = same_some range.low range.high (sym both.0 ∙ both.1) in
        (omega (arith, low.0, range_single range one), high.1)

-- so are the ranges of parts
record RangesAre (parts : List (List ℕ)) (ranges : List Range) : Type 0 where
  few : ranges_room ranges ≤ room parts
  high : All IsHigh ranges

ranges_are : (parts : List (List ℕ)) (ranges : List Range) → all_of (map range_of parts) ≡ Some ranges
    → RangesAre parts ranges
ranges_are [] ranges is =
    subst (RangesAre []) (same_some [] ranges is) (record { few = omega arith; high = All-nil IsHigh })
ranges_are (part ∷ rest) ranges is =
    by (range_of part) refl (all_of (map range_of rest)) refl is (ranges_are rest)
  where
    by : (first : Option Range) → range_of part ≡ first → (others : Option (List Range))
        → all_of (map range_of rest) ≡ others → all_of (first ∷ map range_of rest) ≡ Some ranges
        → ((later : List Range) → all_of (map range_of rest) ≡ Some later → RangesAre rest later)
        → RangesAre (part ∷ rest) ranges
    by None e others f it again = absurd (cc it)
    by (Some range) e None f it again =
        let none : all_of (Some range ∷ map range_of rest) ≡ None = ap (option_map (λ l. range ∷ l)) f in
        absurd (cc (none, it))
    by (Some range) e (Some later) f it again =
        let all : all_of (Some range ∷ map range_of rest) ≡ Some (range ∷ later) =
        ap (option_map (λ l. range ∷ l)) f in
        let one = range_is part range e in
        let more = again later f in
        subst (RangesAre (part ∷ rest)) (same_some (range ∷ later) ranges (sym all ∙ it))
        (record {
          few = let few = more.few in omega (arith, few, one.0);
          high = All-cons IsHigh range later one.1 more.high;
        })

-- the numbers that a text lists are written in no more bytes
pub list_short : (text : List ℕ)
    → length (numbers_text (numbers_that (in_ranges (unwrap_or (ranges_in text) [])))) ≤ length text
list_short [] =
    omega (
      arith,
      numbers_short (in_ranges []),
      ranges_edges [] (All-nil IsHigh),
    )
list_short (b ∷ text) = by (ranges_in (b ∷ text)) refl
  where
    by : (found : Option (List Range)) → ranges_in (b ∷ text) ≡ found
        → length (numbers_text (numbers_that (in_ranges (unwrap_or found [])))) ≤ length (b ∷ text)
    by None is = omega (arith, numbers_short (in_ranges []), ranges_edges [] (All-nil IsHigh))
    by (Some ranges) is =
        let are = ranges_are (parts_of (b ∷ text)) ranges is in
        let few = are.few in
        let same = ap (λ (l : List ℕ). length l) (join_with_byte-slice_split comma (b ∷ text)) in
        omega (
          arith,
          numbers_short (in_ranges ranges),
          ranges_edges ranges are.high,
          few,
          joined_room comma (parts_of (b ∷ text)),
          same,
        )
