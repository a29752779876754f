-- The arguments of an item are words, which stand in the input where they say.
use Rattle.std.proofs.Common.{◌≡◌, ℕ, zero, suc, ◌+◌, Bool, true, false, List, [], ◌∷◌, length, take, drop, refl, sym}
use Rattle.std.proofs.{Common.{ap, ◌∙◌, arith}, lemmas.{Bool.{and_from, and_parts, false≢true}, List.drop-drop}}
use Rattle.std.specs.{Prelude.{◌==◌, ◌&&◌, not, if◌then◌else◌}, List.list_all}
use Rattle.item_terms.specs.{Items.Item, Words.{ends_or_blank, is_blank}}
use Rattle.dirdoc_grammar.specs.{InPlace.InPlace, Writers.{is_argument, is_argument_byte}, Writing.IsLineRest}
use Rattle.dir_values.specs.Arguments.{Argument, arguments_at, onto}
use Rattle.frame_values.specs.{Arguments.{arguments_of, front, others}, Fields.{is_there, span_of}, Parts.part}
use Rattle.frame_laws.proofs.StandingParts.{at_span}

-- a byte that may stand in a line
abbrev pub in_line : ℕ → Bool
in_line b = not (b == 10) && not (b == 0)

-- as a byte of a word
pub line_byte : (b : ℕ) → is_blank b ≡ false → in_line b ≡ true → is_argument_byte b ≡ true
line_byte b dark is = by (is_blank b) (not (b == 10)) (not (b == 0)) dark is
  where
    by : (x y z : Bool) → x ≡ false → y && z ≡ true → (not x && y && z) ≡ true
    by false true true e f = refl
    by false true false e f = absurd cc
    by false false z e f = absurd cc
    by true y z e f = absurd cc

-- an argument is a word, and stands so many bytes behind a place in a text
pub record IsWordIn (place : ℕ) (text : List ℕ) (argument : Argument) : Type 0 where
  pub behind : ℕ
  pub there : argument.place ≡ place + behind
  pub stands : take (length argument.text) (drop behind text) ≡ argument.text
  pub word : list_all is_argument_byte argument.text ≡ true

-- each of some arguments
abbrev pub EachWord : ℕ → List ℕ → List Argument → Type 0
EachWord place text [] = Unit {0}
EachWord place text (argument ∷ rest) = IsWordIn place text argument × EachWord place text rest

-- with one more byte in front of the text
one_further : (place b : ℕ) (text : List ℕ) (arguments : List Argument) → EachWord (place + 1) text arguments
    → EachWord place (b ∷ text) arguments
one_further place b text [] each = tt
one_further place b text (argument ∷ rest) each = (
  record {
    behind = suc each.0.behind;
    there = omega (arith, each.0.there);
    stands = each.0.stands;
    word = each.0.word;
  },
  one_further place b text rest each.1,
)

-- the first of some arguments stands at a place
abbrev BeginsAt : ℕ → List Argument → Type 0
BeginsAt place [] = Unit {0}
BeginsAt place (argument ∷ rest) = argument.place ≡ place

begins_at : (place : ℕ) (text : List ℕ) → ends_or_blank text ≡ false → BeginsAt place (arguments_at place text)
unfolding arguments_at
begins_at place [] dark = absurd cc
begins_at place (b ∷ text) dark = by (is_blank b) (ends_or_blank text) dark
  where
    put : (arguments : List Argument) → BeginsAt place (onto place b arguments)
    put [] = refl
    put (argument ∷ rest) = refl

    by : (blank ends : Bool) → blank ≡ false
        → BeginsAt place (if blank then arguments_at (place + 1) text
        else if ends then record { place = place; text = b ∷ [] } ∷ arguments_at (place + 1) text
        else onto place b (arguments_at (place + 1) text))
    by true ends e = absurd cc
    by false true e = refl
    by false false e = put (arguments_at (place + 1) text)

-- a byte in front of the first argument
put_onto : (place b : ℕ) (text : List ℕ) (arguments : List Argument) → is_argument_byte b ≡ true
    → BeginsAt (place + 1) arguments → EachWord (place + 1) text arguments
    → EachWord place (b ∷ text) (onto place b arguments)
put_onto place b text [] is begins each =
    (record { behind = 0; there = omega arith; stands = refl; word = and_from _ _ is refl }, tt)
put_onto place b text (argument ∷ rest) is begins each =
    let first = each.0 in
    let none : first.behind ≡ 0 = omega (arith, begins, first.there) in
    let stands : take (length argument.text) text ≡ argument.text =
    ap (λ (n : ℕ). take (length argument.text) (drop n text)) (sym none) ∙ first.stands in (
      record {
        behind = 0;
        there = omega arith;
        stands = ap (λ (l : List ℕ). b ∷ l) stands;
        word = and_from _ _ is first.word;
      },
      one_further place b text rest each.1,
    )

-- each argument of a text of such bytes
pub each_word : (place : ℕ) (text : List ℕ) → list_all in_line text ≡ true
    → EachWord place text (arguments_at place text)
unfolding arguments_at
each_word place [] all = tt
each_word place (b ∷ text) all =
    let parts = and_parts (in_line b) (list_all in_line text) all in
    by (is_blank b) (ends_or_blank text) refl refl parts.0 (each_word (place + 1) text parts.1)
  where
    rest : List Argument
    rest = arguments_at (place + 1) text

    by : (blank ends : Bool) → is_blank b ≡ blank → ends_or_blank text ≡ ends → in_line b ≡ true
        → EachWord (place + 1) text rest
        → EachWord place (b ∷ text) (if blank then rest
        else if ends then record { place = place; text = b ∷ [] } ∷ rest else onto place b rest)
    by true ends blank end_ is each = one_further place b text rest each
    by false true blank end_ is each = (
      record { behind = 0; there = omega arith; stands = refl; word = and_from _ _ (line_byte b blank is) refl },
      one_further place b text rest each,
    )
    by false false blank end_ is each =
        put_onto place b text rest (line_byte b blank is) (begins_at (place + 1) text end_) each

-- ---- of an item

-- The argument is what stands in the input where it says, and its bytes are those of a word.
pub record IsFound (bytes : List ℕ) (argument : Argument) : Type 0 where
  pub part : part bytes (span_of argument) ≡ argument.text
  pub word : list_all is_argument_byte argument.text ≡ true

-- each of some is
abbrev pub AreFound : List ℕ → List Argument → Type 0
AreFound bytes [] = Unit {0}
AreFound bytes (argument ∷ rest) = IsFound bytes argument × AreFound bytes rest

-- a part of a front is a front of a part
cut : (k n : ℕ) (xs : List ℕ) → (m : ℕ) × (drop k (take n xs) ≡ take m (drop k xs))
cut zero n xs = (n, refl)
cut (suc k) zero xs = (0, refl)
cut (suc k) (suc n) [] = (0, refl)
cut (suc k) (suc n) (x ∷ xs) = cut k n xs

-- what a front begins with the whole begins with
front_of : (word xs : List ℕ) (m : ℕ) → take (length word) (take m xs) ≡ word → take (length word) xs ≡ word
front_of [] xs m is = refl
front_of (b ∷ word) xs zero is = absurd (cc is)
front_of (b ∷ word) [] (suc m) is = absurd (cc is)
front_of (b ∷ word) (x ∷ xs) (suc m) is =
    let first : x ≡ b = cc in
    let rest : take (length word) (take m xs) ≡ word = cc in
    let more = front_of word xs m rest in
    cc

stands_too : (bytes text word : List ℕ) (place behind : ℕ) → take (length text) (drop place bytes) ≡ text
    → take (length word) (drop behind text) ≡ word → take (length word) (drop (place + behind) bytes) ≡ word
stands_too bytes text word place behind whole inner =
    let rest = drop place bytes in
    let part_ = cut behind (length text) rest in
    let same : take (length word) (take part_.0 (drop behind rest)) ≡ word =
    ap (take (length word)) (sym part_.1 ∙ ap (drop behind) whole) ∙ inner in
    ap (take (length word)) (sym (drop-drop behind place bytes)) ∙ front_of word (drop behind rest) part_.0 same

found_if : (bytes : List ℕ) (place : ℕ) (text : List ℕ) (arguments : List Argument)
    → take (length text) (drop place bytes) ≡ text → EachWord place text arguments → AreFound bytes arguments
found_if bytes place text [] stands each = tt
found_if bytes place text (argument ∷ rest) stands each =
    let one = each.0 in
    let inside : take (length argument.text) (drop argument.place bytes) ≡ argument.text =
    ap (λ (n : ℕ). take (length argument.text) (drop n bytes)) one.there
    ∙ stands_too bytes text argument.text place one.behind stands one.stands in (
      record { part = at_span bytes argument.text argument.place inside; word = one.word },
      found_if bytes place text rest stands each.1,
    )

-- a text without an NL and a NUL has such bytes alone
pub both_tests : (text : List ℕ) → list_all (λ b. not (b == 10)) text ≡ true → list_all (λ b. not (b == 0)) text ≡ true
    → list_all in_line text ≡ true
both_tests [] nl nul = refl
both_tests (b ∷ text) nl nul =
    let first = and_parts _ _ nl in
    let second = and_parts _ _ nul in
    and_from _ _ (and_from _ _ first.0 second.0) (both_tests text first.1 second.1)

-- An item whose parts stand in the input: its arguments are found there.
pub record IsSound (bytes : List ℕ) (item : Item) : Type 0 where
  pub in_place : InPlace bytes item
  pub rest : IsLineRest item.arguments

pub are_found : {bytes : List ℕ} {item : Item} → IsSound bytes item → AreFound bytes (arguments_of item)
are_found {bytes} {item} sound =
    found_if bytes item.start item.arguments (arguments_of item) sound.in_place.arguments
    (each_word item.start item.arguments (both_tests item.arguments sound.rest.no_nl sound.rest.no_nul))

-- the argument in front is found, where it has a byte
pub front_found : (bytes : List ℕ) (item : ℕ) (arguments : List Argument) → AreFound bytes arguments
    → is_there (front item arguments).text ≡ true → IsFound bytes (front item arguments)
front_found bytes item [] are some = absurd (false≢true some)
front_found bytes item (argument ∷ rest) are some = are.0

-- and those behind it
pub others_found : (bytes : List ℕ) (arguments : List Argument) → AreFound bytes arguments
    → AreFound bytes (others arguments)
others_found bytes [] are = tt
others_found bytes (argument ∷ rest) are = are.1

-- one that has a byte is an argument
pub found_word : (text : List ℕ) → is_there text ≡ true → list_all is_argument_byte text ≡ true
    → is_argument text ≡ true
found_word [] some all = absurd (false≢true some)
found_word (b ∷ text) some all = all
