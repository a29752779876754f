-- The base64 of bytes is a word.
use Rattle.std.proofs.Common.{◌≡◌, ℕ, suc, ◌+◌, ◌*◌, ◌/◌, ◌%◌, ◌<◌, true, List, [], ◌∷◌, length, refl, ap, ◌∙◌, arith}
use Rattle.std.{proofs.lemmas.{Bool.and_from, List.append-nil}, specs.{Prelude.slice_index, List.list_all}}
use Rattle.base64.specs.{Engines.standard_no_pad, GeneralPurpose.IsBytes, Rfc4648.{encode_group, encode_symbols}}
use Rattle.dir_bytes.{specs.FieldTexts.base64_text, proofs.Spelling.length-base64_text}
use Rattle.dirdoc_grammar.specs.Writers.{is_argument, is_argument_byte}
use Rattle.frame_laws.proofs.WordTexts.{Dark, at_index, both_dark, is_word}

-- the sixty-four symbols
abbrev symbols : List ℕ
symbols = standard_no_pad.encode_table

symbol : (i : ℕ) → i < 64 → is_argument_byte (slice_index symbols i) ≡ true
symbol i small = at_index is_argument_byte symbols i 0 small refl

symbols_dark : (bytes : List ℕ) → IsBytes bytes → Dark (encode_symbols symbols bytes)
unfolding encode_symbols
symbols_dark [] fits = refl
symbols_dark (a ∷ []) fits =
    let first : a < 256 = fits 0 in
    and_from _ _ (symbol (a / 4) (omega (arith, first))) (and_from _ _ (symbol (a % 4 * 16) (omega arith)) refl)
symbols_dark (a ∷ b ∷ []) fits =
    let first : a < 256 = fits 0 in
    let second : b < 256 = fits 1 in
    and_from _ _ (symbol (a / 4) (omega (arith, first)))
    (and_from _ _ (symbol (a % 4 * 16 + b / 16) (omega (arith, second)))
    (and_from _ _ (symbol (b % 16 * 4) (omega arith)) refl))
symbols_dark (a ∷ b ∷ c ∷ rest) fits =
    let first : a < 256 = fits 0 in
    let second : b < 256 = fits 1 in
    let third : c < 256 = fits 2 in
    let group : Dark (encode_group symbols a b c) =
    and_from _ _ (symbol (a / 4) (omega (arith, first)))
    (and_from _ _ (symbol (a % 4 * 16 + b / 16) (omega (arith, second)))
    (and_from _ _ (symbol (b % 16 * 4 + c / 64) (omega (arith, third)))
    (and_from _ _ (symbol (c % 64) (omega arith)) refl))) in
    both_dark (encode_group symbols a b c) (encode_symbols symbols rest) group
    (symbols_dark rest (λ i. fits (suc (suc (suc i)))))

-- the base64 of bytes
pub word_of_base64 : (bytes : List ℕ) → 0 < length bytes → IsBytes bytes → is_argument (base64_text bytes) ≡ true
unfolding base64_text
word_of_base64 bytes some fits =
    let all = ap (list_all is_argument_byte) (append-nil (encode_symbols symbols bytes)) ∙ symbols_dark bytes fits in
    is_word (base64_text bytes) (omega (arith, length-base64_text bytes, some)) all
