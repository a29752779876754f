-- A line of a shared random value that was written is read again.
use Rattle.std.proofs.Common.{◌≡◌, ℕ, ◌+◌, true, List, [], ◌∷◌, ◌++◌, length, take, Some, Ok, refl, ap, subst, ◌∙◌}
use Rattle.std.proofs.{Common.{arith, length-append}, Math.Seq.{get_or-append_seam, take-append_seam}}
use Rattle.std.{proofs.lemmas.{Bool.and_from, List.Folds.list_all-append}, specs.Prelude.{decimal, option_map}}
use Rattle.std.specs.{Prelude.slice_index, List.list_all}
use Rattle.item_terms.specs.Items.{Item}
use Rattle.dir_bytes.{specs.{FieldTexts.base64_text, Fields.base64}, proofs.ReadAgain.base64-base64_text}
use Rattle.dir_bytes.proofs.{ReadAgain.number-decimal, Spelling.length-base64_text}
use Rattle.dir_values.specs.{Arguments.Argument, Digests.digest2, Numbers.number_of, declared.digest.Digest2.Digest2}
use Rattle.dirdoc_grammar.specs.{Writers.{is_argument, is_argument_byte}, Writing.written}
use Rattle.frame_values.specs.{Arguments.arguments_of, Items.bare}
use Rattle.frame_laws.proofs.{Base64Words.word_of_base64, WordTexts.{bytes_of, is_word}, Words.arguments_of_words}
use Rattle.frame_laws.proofs.{Words.{two_words, word_of_number}, WrittenItems.start_of}
use Rattle.value_groups.specs.{Lines.random_of, Values.{padded_digest, padded_text, random_text, without_padding}}
use Rattle.value_groups.specs.declared.value.SharedRandom.{SharedRandom}
use Rattle.group_laws.specs.LineAgain.{IsRandomInRange, RandomLinesAreReadAgain}

-- a text of 43 bytes with the padding behind it is that text without it
bare_of : (text : List ℕ) → length text ≡ 43 → without_padding (text ++ 61 ∷ []) ≡ text
bare_of text long =
    let whole : length (text ++ 61 ∷ []) ≡ 44 = omega (arith, length-append text (61 ∷ []), long) in
    let last : slice_index (text ++ 61 ∷ []) 43 ≡ 61 =
    subst (λ (n : ℕ). slice_index (text ++ 61 ∷ []) n ≡ 61) long (get_or-append_seam text 61 [] _) in
    let front : take 43 (text ++ 61 ∷ []) ≡ text =
    subst (λ (n : ℕ). take n (text ++ 61 ∷ []) ≡ text) long (take-append_seam text (61 ∷ [])) in
    rw (whole, last, front) refl

-- the base64 of 32 bytes has 43 characters
long_text : (value : Digest2) → length value.0 ≡ 32 → length (base64_text value.0) ≡ 43
long_text value is = omega (arith, length-base64_text value.0, is)

-- the text of a value is read as that value
pub value_again : (random : SharedRandom) → IsRandomInRange random
    → padded_digest (padded_text random.value) ≡ Some random.value
value_again random are =
    let bytes = random.value.0 in
    ap digest2 (bare_of (base64_text bytes) (long_text random.value are.length_is))
    ∙ ap (option_map (λ bytes. record { 0 = bytes }))
    (subst (λ (n : ℕ). base64 n (base64_text bytes) ≡ Some bytes) are.length_is (base64-base64_text bytes are.each))

-- it is a word
pub word_of_value : (random : SharedRandom) → IsRandomInRange random → is_argument (padded_text random.value) ≡ true
word_of_value random are =
    let bytes = random.value.0 in
    let text = base64_text bytes in
    let dark = bytes_of text (word_of_base64 bytes (omega (arith, are.length_is)) are.each) in
    is_word (padded_text random.value) (omega (arith, length-append text (61 ∷ [])))
    (list_all-append is_argument_byte text (61 ∷ []) ∙ and_from _ _ dark refl)

random_is : (item : Item) (a b : Argument) (random : SharedRandom) → arguments_of item ≡ a ∷ b ∷ []
    → number_of a.text ≡ Some random.count → padded_digest b.text ≡ Some random.value → random_of item ≡ Ok random
random_is item a b random args count value = rw (args, count, value) refl

pub random_again : RandomLinesAreReadAgain
random_again p k random are =
    let a = decimal random.count in
    let b = padded_text random.value in
    let text = random_text random in
    let start = start_of p k text in
    random_is (written p (bare k text)) (record { place = start; text = a })
    (record { place = start + length a + 1; text = b }) random
    (arguments_of_words start (a ∷ b ∷ []) (two_words a b (word_of_number random.count) (word_of_value random are)))
    (number-decimal 4294967295 random.count are.count (omega (arith, are.count))) (value_again random are)
