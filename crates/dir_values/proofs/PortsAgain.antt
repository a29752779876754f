-- What is written of ports is read as they are.
use Rattle.std.proofs.Common.{◌≡◌, ℕ, ◌+◌, ◌<◌, ◌≤◌, Bool, true, false, List, [], ◌∷◌, ◌++◌, length, map, refl, sym, ap}
use Rattle.std.proofs.{Common.{◌∙◌, arith, Some, None, Option, Ok, length-append}, lemmas.Bool.and_parts}
use Rattle.std.proofs.lemmas.List.{append-nil, Elements.{All-nil, All-cons, All-head, All-tail, All-append}}
use Rattle.std.proofs.lemmas.List.{Elements.All-from_recursion, Splits.{slice_split_none, slice_split_at}}
use Rattle.std.specs.{Prelude.{nat_le, option_and_then, if◌then◌else◌, All, codes}, Option.option_map, List.slice_split}
use Rattle.item_terms.specs.{Bytes.{space, comma}, Words.{is_blank, ends_or_blank}}
use Rattle.dir_values.specs.{Arguments.{Argument, arguments_at, onto}, declared.port_range.PortRange.PortRange}
use Rattle.dir_values.specs.Ports.{is_comma, are_apart, are_ranges, if_apart, range_of, all_of, range_list, accept_of}
use Rattle.dir_values.specs.Ports.{ports_in, ports_after, ports_from, port_summary, range_text, entries_text, word_text}
use Rattle.dir_values.{specs.Ports.{summary_text, PortsAreReadAgain}, proofs.Apart.{FirstApart, first_apart}}
use Rattle.dir_values.proofs.RangeTexts.{IsRange, no_comma, no_blank, range_lacks, range_some, range_again}

-- a word is the first argument, where nothing or a blank follows
word_then : (place : ℕ) (word rest : List ℕ) → 0 < length word → All (λ b. is_blank b ≡ false) word
    → ends_or_blank rest ≡ true
    → arguments_at place (word ++ rest)
    ≡ record { place = place; text = word } ∷ arguments_at (place + length word) rest
unfolding arguments_at
word_then place [] rest some plain ends = absurd (omega arith)
word_then place (byte ∷ []) rest some plain ends =
    let is : is_blank byte ≡ false = All-head (λ b. is_blank b ≡ false) byte [] plain in
    rw (is, ends) refl
word_then place (byte ∷ next ∷ word) rest some plain ends =
    let is : is_blank byte ≡ false = All-head (λ b. is_blank b ≡ false) byte (next ∷ word) plain in
    let later = All-tail (λ b. is_blank b ≡ false) byte (next ∷ word) plain in
    let other : is_blank next ≡ false = All-head (λ b. is_blank b ≡ false) next word later in
    let more : arguments_at (place + 1) ((next ∷ word) ++ rest)
    ≡ record { place = place + 1; text = next ∷ word } ∷ arguments_at (place + 1 + length (next ∷ word)) rest =
    word_then (place + 1) (next ∷ word) rest (omega arith) later ends in
    let first : arguments_at place ((byte ∷ next ∷ word) ++ rest)
    ≡ onto place byte (arguments_at (place + 1) ((next ∷ word) ++ rest)) = rw (is, other) refl in
    let there : place + 1 + length (next ∷ word) ≡ place + length (byte ∷ next ∷ word) = omega arith in
    first ∙ ap (onto place byte) more
    ∙ ap (λ (n : ℕ). record { place = place; text = byte ∷ next ∷ word } ∷ arguments_at n rest) there

-- the first of ranges that are apart is a range of ports
first_range : (next : ℕ) (range : PortRange) (rest : List PortRange) → 1 ≤ next → FirstApart next range rest
    → IsRange range
first_range next range rest one is =
    let from = is.from in
    record { one = omega (arith, one, from); up = is.up; last = is.last }

-- the parts between the commas are the ranges' texts
parts_again : (next : ℕ) (range : PortRange) (rest : List PortRange) → 1 ≤ next → are_apart next (range ∷ rest) ≡ true
    → slice_split is_comma (range_text range ++ entries_text comma rest) ≡ range_text range ∷ map range_text rest
parts_again next range [] one apart =
    let is = first_apart next range [] apart in
    let first = first_range next range [] one is in
    ap (slice_split is_comma) (append-nil (range_text range))
    ∙ slice_split_none is_comma (range_text range) (range_lacks is_comma no_comma refl range first)
parts_again next range (other ∷ rest) one apart =
    let is = first_apart next range (other ∷ rest) apart in
    let first = first_range next range (other ∷ rest) one is in
    slice_split_at is_comma (range_text range) comma (range_text other ++ entries_text comma rest)
    (range_lacks is_comma no_comma refl range first) refl
    ∙ ap (λ (l : List (List ℕ)). range_text range ∷ l)
    (parts_again (range.high + 2) other rest (omega arith) is.later)

-- each of them spells its range
all_again : (next : ℕ) (ranges : List PortRange) → 1 ≤ next → are_apart next ranges ≡ true
    → all_of (map range_of (map range_text ranges)) ≡ Some ranges
all_again next [] one apart = refl
all_again next (range ∷ rest) one apart =
    let is = first_apart next range rest apart in
    let first = first_range next range rest one is in
    ap (λ (o : Option PortRange). all_of (o ∷ map range_of (map range_text rest))) (range_again range first)
    ∙ ap (option_map (λ ranges. range ∷ ranges)) (all_again (range.high + 2) rest (omega arith) is.later)

-- no blank stands in a list of ranges
entries_plain : (next : ℕ) (ranges : List PortRange) → 1 ≤ next → are_apart next ranges ≡ true
    → All (λ b. is_blank b ≡ false) (entries_text comma ranges)
entries_plain next [] one apart = All-nil (λ b. is_blank b ≡ false)
entries_plain next (range ∷ rest) one apart =
    let is = first_apart next range rest apart in
    let first = first_range next range rest one is in
    All-cons (λ b. is_blank b ≡ false) comma (range_text range ++ entries_text comma rest) refl
    (All-append (λ b. is_blank b ≡ false) (range_text range) (entries_text comma rest)
    (range_lacks is_blank no_blank refl range first)
    (entries_plain (range.high + 2) rest (omega arith) is.later))

-- the list of ranges is the second argument
list_then : (place : ℕ) (list : List ℕ) → 0 < length list → All (λ b. is_blank b ≡ false) list
    → arguments_at place (space ∷ list) ≡ record { place = place + 1; text = list } ∷ []
unfolding arguments_at
list_then place list some plain =
    ap (arguments_at (place + 1)) (sym (append-nil list)) ∙ word_then (place + 1) list [] some plain refl

-- nor in the word
word_plain : (accept : Bool) → All (λ b. is_blank b ≡ false) (word_text accept)
word_plain true = All-from_recursion (λ b. is_blank b ≡ false) (codes "accept")
    (refl, (refl, (refl, (refl, (refl, (refl, tt))))))
word_plain false = All-from_recursion (λ b. is_blank b ≡ false) (codes "reject")
    (refl, (refl, (refl, (refl, (refl, (refl, tt))))))

-- which is not empty
word_some : (accept : Bool) → 0 < length (word_text accept)
word_some true = omega arith
word_some false = omega arith

-- and says what it was written for
word_again : (accept : Bool) → accept_of (word_text accept) ≡ Some accept
word_again true = refl
word_again false = refl

-- the whole text
again : (accept : Bool) (ranges : List PortRange) → are_ranges ranges ≡ true
    → port_summary (summary_text (record { accept = accept; ranges = ranges }))
    ≡ Ok (record { accept = accept; ranges = ranges })
again accept [] are = absurd cc
again accept (range ∷ rest) are =
    let apart = (and_parts (nat_le 1 (length (range ∷ rest))) (are_apart 1 (range ∷ rest)) are).1 in
    let is = first_apart 1 range rest apart in
    let one = first_range 1 range rest (omega arith) is in
    let word = word_text accept in
    let list = range_text range ++ entries_text comma rest in
    let some = range_some range one in
    let long : 0 < length list = omega (arith, some, length-append (range_text range) (entries_text comma rest)) in
    let plain = All-append (λ b. is_blank b ≡ false) (range_text range) (entries_text comma rest)
    (range_lacks is_blank no_blank refl range one)
    (entries_plain (range.high + 2) rest (omega arith) is.later) in
    let first : arguments_at 0 (word ++ space ∷ list)
    ≡ record { place = 0; text = word } ∷ arguments_at (0 + length word) (space ∷ list) =
    word_then 0 word (space ∷ list) (word_some accept) (word_plain accept) refl in
    let second : arguments_at (0 + length word) (space ∷ list)
    ≡ record { place = 0 + length word + 1; text = list } ∷ [] = list_then (0 + length word) list long plain in
    let parts = parts_again 1 range rest (omega arith) apart in
    let read : range_list list ≡ Some (range ∷ rest) =
    ap (λ (texts : List (List ℕ)). option_and_then if_apart (all_of (map range_of texts))) parts
    ∙ ap (option_and_then if_apart) (all_again 1 (range ∷ rest) (omega arith) apart)
    ∙ ap (λ (b : Bool). if b then Some (range ∷ rest) else None) apart in
    let end_ = length (word ++ space ∷ list) in
    ap (ports_in end_) (first ∙ ap (λ (l : List Argument). record { place = 0; text = word } ∷ l) second)
    ∙ ap (ports_after (record { place = 0; text = word }) end_
    (record { place = 0 + length word + 1; text = list } ∷ []))
    (word_again accept)
    ∙ ap (ports_from accept (0 + length word + 1)) read

pub ports_again : PortsAreReadAgain
ports_again ports are = again ports.accept ports.ranges are
