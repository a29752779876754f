-- The canonical texts of values are words, and words with single spaces between them are read as arguments.
use Rattle.std.proofs.Common.{◌≡◌, ℕ, suc, ◌+◌, true, false, List, [], ◌∷◌, ◌++◌, length, refl, sym, ap, ◌∙◌, arith}
use Rattle.std.proofs.lemmas.{Bool.{and_parts, false≢true, not-true}, List.Elements.{All-head, All-tail}}
use Rattle.std.specs.{Prelude.{map, not, ◌==◌}, List.{list_all, join_with_byte}}
use Rattle.item_terms.specs.Words.{is_blank, words_of}
use Rattle.dir_values.{proofs.ArgumentWords.arguments_words, specs.Arguments.{texts_of, Argument, arguments_at, onto}}
use Rattle.dirdoc_grammar.specs.Writers.{is_argument, is_argument_byte}
use Rattle.frame_laws.proofs.WordTexts.{all_three}
pub use Rattle.frame_laws.proofs.WordTexts.{AreWords, IsWord, length-word, two_words, word_of_address, word_of_clock}
pub use Rattle.frame_laws.proofs.WordTexts.{word_of_date, word_of_flag, word_of_hex, word_of_identity, word_of_nickname}
pub use Rattle.frame_laws.proofs.WordTexts.{word_of_number, words_of_flags, words_of_numbers}

-- a byte of an argument is no blank
no_blank : (b : ℕ) → is_argument_byte b ≡ true → is_blank b ≡ false
no_blank b is = not-true (is_blank b) (all_three (not (is_blank b)) (not (b == 10)) (not (b == 0)) is).0

-- words as arguments, of which the first stands at a place and each other one behind a space
abbrev pub placed : ℕ → List (List ℕ) → List Argument
placed place [] = []
placed place (word ∷ words) = record { place = place; text = word } ∷ placed (place + length word + 1) words

-- a byte that is no blank goes in front of the word that follows it
goes_on : (place b c : ℕ) (text : List ℕ) → is_blank b ≡ false → is_blank c ≡ false
    → arguments_at place (b ∷ c ∷ text) ≡ onto place b (arguments_at (place + 1) (c ∷ text))
unfolding arguments_at
goes_on place b c text dark_b dark_c = rw (dark_b, dark_c) refl

-- before a space it ends its word
ends_there : (place b : ℕ) (rest : List ℕ) → is_blank b ≡ false
    → arguments_at place (b ∷ 32 ∷ rest) ≡ record { place = place; text = b ∷ [] } ∷ arguments_at (place + 1 + 1) rest
unfolding arguments_at
ends_there place b rest dark_b = rw dark_b refl

-- and at the end
ends_last : (place b : ℕ) → is_blank b ≡ false
    → arguments_at place (b ∷ []) ≡ record { place = place; text = b ∷ [] } ∷ []
unfolding arguments_at
ends_last place b dark_b = rw dark_b refl

first_dark : (b : ℕ) (word : List ℕ) → is_argument (b ∷ word) ≡ true → is_blank b ≡ false
first_dark b word is = no_blank b (and_parts (is_argument_byte b) (list_all is_argument_byte word) is).0

rest_is : (b c : ℕ) (word : List ℕ) → is_argument (b ∷ c ∷ word) ≡ true → is_argument (c ∷ word) ≡ true
rest_is b c word is = (and_parts (is_argument_byte b) (list_all is_argument_byte (c ∷ word)) is).1

-- a word, a space and more
pub arguments_of_more : (place : ℕ) (word rest : List ℕ) → is_argument word ≡ true
    → arguments_at place (word ++ 32 ∷ rest)
    ≡ record { place = place; text = word } ∷ arguments_at (place + length word + 1) rest
arguments_of_more place [] rest is = absurd (false≢true is)
arguments_of_more place (b ∷ []) rest is = ends_there place b rest (first_dark b [] is)
arguments_of_more place (b ∷ c ∷ word) rest is =
    let more = rest_is b c word is in
    let there : place + 1 + length (c ∷ word) + 1 ≡ place + length (b ∷ c ∷ word) + 1 = omega arith in
    goes_on place b c (word ++ 32 ∷ rest) (first_dark b (c ∷ word) is) (first_dark c word more)
    ∙ ap (onto place b) (arguments_of_more (place + 1) (c ∷ word) rest more)
    ∙ ap (λ (n : ℕ). record { place = place; text = b ∷ c ∷ word } ∷ arguments_at n rest) there

-- one word
pub arguments_of_word : (place : ℕ) (word : List ℕ) → is_argument word ≡ true
    → arguments_at place word ≡ record { place = place; text = word } ∷ []
arguments_of_word place [] is = absurd (false≢true is)
arguments_of_word place (b ∷ []) is = ends_last place b (first_dark b [] is)
arguments_of_word place (b ∷ c ∷ word) is =
    let more = rest_is b c word is in
    goes_on place b c word (first_dark b (c ∷ word) is) (first_dark c word more)
    ∙ ap (onto place b) (arguments_of_word (place + 1) (c ∷ word) more)

none : (place : ℕ) → arguments_at place [] ≡ []
unfolding arguments_at
none place = refl

-- words with single spaces between them
pub arguments_of_words : (place : ℕ) (words : List (List ℕ)) → AreWords words
    → arguments_at place (join_with_byte 32 words) ≡ placed place words
arguments_of_words place [] each = none place
arguments_of_words place (word ∷ []) each = arguments_of_word place word (All-head IsWord word [] each)
arguments_of_words place (word ∷ next ∷ words) each =
    let rest = All-tail IsWord word (next ∷ words) each in
    arguments_of_more place word (join_with_byte 32 (next ∷ words)) (All-head IsWord word (next ∷ words) each)
    ∙ ap (λ (l : List Argument). record { place = place; text = word } ∷ l)
    (arguments_of_words (place + length word + 1) (next ∷ words) rest)

length-placed : (place : ℕ) (words : List (List ℕ)) → length (placed place words) ≡ length words
length-placed place [] = refl
length-placed place (word ∷ words) = ap suc (length-placed (place + length word + 1) words)

texts-placed : (place : ℕ) (words : List (List ℕ)) → map (λ argument. argument.text) (placed place words) ≡ words
texts-placed place [] = refl
texts-placed place (word ∷ words) =
    ap (λ (l : List (List ℕ)). word ∷ l) (texts-placed (place + length word + 1) words)

-- how many they are
pub length-arguments_at : (place : ℕ) (words : List (List ℕ)) → AreWords words
    → length (arguments_at place (join_with_byte 32 words)) ≡ length words
length-arguments_at place words each =
    ap (λ (l : List Argument). length l) (arguments_of_words place words each) ∙ length-placed place words

-- the words that are read are those
pub words_of-join : (words : List (List ℕ)) → AreWords words → words_of (join_with_byte 32 words) ≡ words
words_of-join words each =
    sym (arguments_words 0 (join_with_byte 32 words))
    ∙ ap (λ (l : List Argument). texts_of l) (arguments_of_words 0 words each) ∙ texts-placed 0 words
