-- The bytes of a version: digits, stops, hyphens and those of tags. So it is a word, and no comma stands in it.
use Rattle.std.proofs.Common.{◌≡◌, ℕ, ◌<◌, Bool, true, false, List, [], ◌∷◌, length, Option, Some, None, refl, ap}
use Rattle.std.proofs.{Common.arith, lemmas.Bool.{and_from, and_parts, false≢true, Decides.nat_tests}}
use Rattle.std.specs.{Prelude.{is_some, nat_le, ◌&&◌, if◌then◌else◌}, Char.is_ascii_digit, List.list_all}
use Rattle.std.specs.Str.{all_ascii_digits, Parse.digits_value}
use Rattle.dir_bytes.specs.Fields.{is_numeral, number}
use Rattle.item_terms.specs.Bytes.{hyphen}
use Rattle.dir_values.specs.{Numbers.number_of, Versions.{behind, front_of, full_stop, has_mark, is_tag, is_tag_byte}}
use Rattle.dir_values.specs.Versions.{patch_in, tag_in, version_by, version_with}
use Rattle.dirdoc_grammar.specs.Writers.{is_argument, is_argument_byte}
use Rattle.frame_laws.proofs.WordTexts.{is_word, weaker}
use Rattle.list_values.specs.{Parts.is_comma, VersionLists.is_version}
use Rattle.value_laws.proofs.Marks.{LacksComma, across, lacks_if, nothing_behind}

-- the bytes are those of versions
abbrev HasBytes : List ℕ → Type 0
HasBytes text = list_all is_tag_byte text ≡ true

-- ---- numbers

digit : (b : ℕ) → is_ascii_digit b ≡ true → is_tag_byte b ≡ true
digit b is = grind (arith, nat_tests)

digits_have : (text : List ℕ) → all_ascii_digits text ≡ true → HasBytes text
digits_have [] all = refl
digits_have (b ∷ text) all =
    let parts = and_parts (is_ascii_digit b) (all_ascii_digits text) all in
    and_from _ _ (digit b parts.0) (digits_have text parts.1)

passes : {A : Type 0} (b : Bool) (value : A) → is_some (if b then Some value else None) ≡ true → b ≡ true
passes true value is = refl
passes false value is = absurd (false≢true is)

-- what spells a number is digits
number_has : (text : List ℕ) → is_some (number_of text) ≡ true → HasBytes text
unfolding number
number_has text is =
    let both = passes (is_numeral text && nat_le (digits_value 10 text) 4294967295) (digits_value 10 text) is in
    let numeral = (and_parts (is_numeral text) (nat_le (digits_value 10 text) 4294967295) both).0 in
    digits_have text (and_parts _ (all_ascii_digits text) numeral).1

-- ---- the parts of a version

-- each part is there
record AreThere (major minor micro patch : Option ℕ) (tag : Option (List ℕ)) : Type 0 where
  major_is : is_some major ≡ true
  minor_is : is_some minor ≡ true
  micro_is : is_some micro ≡ true
  patch_is : is_some patch ≡ true
  tag_is : is_some tag ≡ true

parts_there : (a b c d : Option ℕ) (t : Option (List ℕ)) (text : List ℕ)
    → is_some (version_with a b c d t text) ≡ true → AreThere a b c d t
parts_there None b c d t text is = absurd (false≢true is)
parts_there (Some a) None c d t text is = absurd (false≢true is)
parts_there (Some a) (Some b) None d t text is = absurd (false≢true is)
parts_there (Some a) (Some b) (Some c) None t text is = absurd (false≢true is)
parts_there (Some a) (Some b) (Some c) (Some d) None text is = absurd (false≢true is)
parts_there (Some a) (Some b) (Some c) (Some d) (Some t) text is =
    record { major_is = refl; minor_is = refl; micro_is = refl; patch_is = refl; tag_is = refl }

patch_has : (text : List ℕ) → is_some (patch_in text) ≡ true → HasBytes (behind full_stop text)
patch_has text is = by (has_mark full_stop text) refl is
  where
    by : (b : Bool) → has_mark full_stop text ≡ b
        → is_some (if b then number_of (behind full_stop text) else Some 0) ≡ true → HasBytes (behind full_stop text)
    by true there some = number_has (behind full_stop text) some
    by false there some = ap (list_all is_tag_byte) (nothing_behind full_stop text there)

tag_has : (text : List ℕ) → is_some (tag_in text) ≡ true → HasBytes (behind hyphen text)
tag_has text is = by (has_mark hyphen text) refl is
  where
    by : (b : Bool) → has_mark hyphen text ≡ b
        → is_some (if b then (if is_tag (behind hyphen text) then Some (behind hyphen text) else None) else Some [])
        ≡ true
        → HasBytes (behind hyphen text)
    by true there some =
        let tag = behind hyphen text in
        (and_parts (nat_le 1 (length tag)) (list_all is_tag_byte tag) (passes (is_tag tag) tag some)).1
    by false there some = ap (list_all is_tag_byte) (nothing_behind hyphen text there)

-- ---- a version

numbers_have : (numbers text : List ℕ) → is_some (version_by numbers text) ≡ true → HasBytes numbers
numbers_have numbers text is =
    let rest = behind full_stop numbers in
    let last = behind full_stop rest in
    let there = parts_there (number_of (front_of full_stop numbers)) (number_of (front_of full_stop rest))
    (number_of (front_of full_stop last)) (patch_in last) (tag_in text) text is in
    let third = across full_stop is_tag_byte refl last (number_has (front_of full_stop last) there.micro_is)
    (patch_has last there.patch_is) in
    let second = across full_stop is_tag_byte refl rest (number_has (front_of full_stop rest) there.minor_is) third in
    across full_stop is_tag_byte refl numbers (number_has (front_of full_stop numbers) there.major_is) second

version_has : (text : List ℕ) → is_version text ≡ true → HasBytes text
version_has text is =
    let numbers = front_of hyphen text in
    let rest = behind full_stop numbers in
    let last = behind full_stop rest in
    let there = parts_there (number_of (front_of full_stop numbers)) (number_of (front_of full_stop rest))
    (number_of (front_of full_stop last)) (patch_in last) (tag_in text) text is in
    across hyphen is_tag_byte refl text (numbers_have numbers text is) (tag_has text there.tag_is)

-- the first number of a version is not empty, nor is the version
version_some : (text : List ℕ) → is_version text ≡ true → 0 < length text
unfolding number
version_some [] is = absurd (false≢true is)
version_some (b ∷ text) is = omega arith

no_comma : (b : ℕ) → is_tag_byte b ≡ true → is_comma b ≡ false
no_comma b is = grind (arith, nat_tests)

word_byte : (b : ℕ) → is_tag_byte b ≡ true → is_argument_byte b ≡ true
word_byte b is = grind (arith, nat_tests)

-- no comma stands in a version
pub version_lacks_comma : (text : List ℕ) → is_version text ≡ true → LacksComma text
version_lacks_comma text is = lacks_if is_tag_byte is_comma no_comma text (version_has text is)

-- its bytes are those of a word
pub version_dark : (text : List ℕ) → is_version text ≡ true → list_all is_argument_byte text ≡ true
version_dark text is = weaker is_tag_byte is_argument_byte word_byte text (version_has text is)

-- and it is a word
pub word_of_version : (text : List ℕ) → is_version text ≡ true → is_argument text ≡ true
word_of_version text is = is_word text (version_some text is) (version_dark text is)
