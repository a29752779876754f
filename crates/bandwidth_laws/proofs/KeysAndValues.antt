-- Keys and values are headers.
use Rattle.std.proofs.Common.{◌≡◌, ℕ, ◌+◌, Bool, true, false, List, [], ◌∷◌, ◌++◌, length, take, drop, Option, Some}
use Rattle.std.proofs.{Common.{None, refl, sym, ap, ap₂, ◌∙◌, arith, if◌then◌else◌}, lemmas.Bool.{and_parts, eq-eqb}}
use Rattle.std.{proofs.lemmas.Bool.{eqb-true, false≢true}, specs.Prelude.{◌<◌, ◌==◌, ◌&&◌, ◌||◌, codes, is_some}}
use Rattle.std.specs.{Prelude.nat_eq, List.{list_all, list_any}, Option.option_map, Str.bytes_eq}
use lib.Pointwise.{pointwise}
use Rattle.item_terms.specs.Words.{strip}
use Rattle.dir_values.specs.Arguments.{Argument}
use Rattle.dirdoc_grammar.specs.Writers.{is_argument, is_argument_byte}
use Rattle.frame_laws.proofs.Words.{arguments_of_word}
use Rattle.bandwidth_file.specs.{declared.file.Header.Header, Lines.{last_of, node_id}, Files.is_separator}
use Rattle.bandwidth_file.specs.Files.{names_relay}
use Rattle.bandwidth_laws.{specs.Again.{IsKeyAndValue, KeysAndValuesStand, line_text}, proofs.HeaderLines.neither}
use Rattle.bandwidth_laws.proofs.RelayLines.{line_bytes}

-- a `=`
abbrev is_equals : ℕ → Bool
is_equals byte = byte == 61

-- a text that begins with a word and a `=`, where a key without `=` stands before its `=`, has this word for its key
begins_with : (word key value : List ℕ) → list_any is_equals word ≡ false → list_any is_equals key ≡ false
    → pointwise nat_eq (take (length (word ++ 61 ∷ [])) (key ++ 61 ∷ value)) (word ++ 61 ∷ []) ≡ true → key ≡ word
begins_with [] [] value none_w none_k is = refl
begins_with [] (b ∷ key) value none_w none_k is =
    absurd (false≢true (sym (neither (b == 61) (list_any is_equals key) none_k).0 ∙ (and_parts (b == 61) _ is).0))
begins_with (c ∷ word) [] value none_w none_k is =
    let same : 61 ≡ c = eqb-true 61 c (and_parts (61 == c) _ is).0 in
    absurd (false≢true (sym (neither (c == 61) (list_any is_equals word) none_w).0 ∙ eq-eqb c 61 (sym same)))
begins_with (c ∷ word) (b ∷ key) value none_w none_k is =
    let parts = and_parts (b == c) _ is in
    ap₂ (λ (x : ℕ) (xs : List ℕ). x ∷ xs) (eqb-true b c parts.0)
    (begins_with word key value (neither (c == 61) (list_any is_equals word) none_w).1
    (neither (b == 61) (list_any is_equals key) none_k).1 parts.1)

-- what stands behind `node_id=`
abbrev behind_key : List ℕ → Argument
behind_key text = record { place = 0 + 8; text = text }

-- it begins with no `node_id=`
no_relay : (header : Header) → IsKeyAndValue header → strip node_id (line_text header) ≡ None
no_relay header is = by (pointwise nat_eq (take 8 (line_text header)) node_id) refl
  where
    by : (b : Bool) → pointwise nat_eq (take 8 (line_text header)) node_id ≡ b
        → (if b then Some (drop 8 (line_text header)) else None) ≡ None
    by true there = absurd (is.no_relay (begins_with (codes "node_id") header.key header.value refl is.no_equals there))
    by false there = refl

-- nor with a `=`
no_separator : (key value : List ℕ) → 0 < length key → list_any is_equals key ≡ false
    → is_separator (key ++ 61 ∷ value) ≡ false
no_separator [] value some none = absurd (omega arith)
no_separator (b ∷ key) value some none =
    let rest = key ++ 61 ∷ value in
    ap (λ (t : Bool). (t && bytes_eq rest (codes "====")) || (t && bytes_eq rest (codes "===")))
    (neither (b == 61) (list_any is_equals key) none).0

word_is : (key value : List ℕ) → list_all is_argument_byte (key ++ 61 ∷ value) ≡ true
    → is_argument (key ++ 61 ∷ value) ≡ true
word_is [] value all = all
word_is (b ∷ key) value all = all

pub keys_stand : KeysAndValuesStand
keys_stand header is within =
    let text = line_text header in
    let word = word_is header.key header.value is.bytes in
    let none : names_relay text ≡ false =
    ap (λ (l : List Argument). is_some (last_of node_id l)) (arguments_of_word 0 text word)
    ∙ ap (λ (o : Option (List ℕ)). is_some (option_map behind_key o)) (no_relay header is) in
    record {
      key = is.no_equals;
      bytes = line_bytes text word;
      goes_on = ap₂ (λ (a b : Bool). a || b) (no_separator header.key header.value is.some is.no_equals) none;
      within = within;
    }
