-- The words of the rest of a line are words.
use Rattle.std.proofs.{Common.{◌≡◌, ℕ, Bool, true, false, List, [], ◌∷◌, refl}, lemmas.Bool.{and_from, and_parts}}
use Rattle.std.{proofs.lemmas.List.Elements.{All-cons, All-head, All-nil, All-tail}, specs.Prelude.{◌==◌, not, ◌&&◌}}
use Rattle.std.specs.{Prelude.if◌then◌else◌, List.list_all}
use Rattle.item_terms.specs.Words.{ends_or_blank, is_blank, onto_word, words_of}
use Rattle.dirdoc_grammar.specs.{Writers.is_argument_byte, Writing.IsLineRest}
use Rattle.frame_laws.proofs.WordTexts.{AreWords, IsWord, bytes_of}

line_byte : (b : ℕ) → is_blank b ≡ false → not (b == 10) ≡ true → not (b == 0) ≡ true → is_argument_byte b ≡ true
line_byte b dark nl nul = by (is_blank b) (not (b == 10)) (not (b == 0)) dark nl nul
  where
    by : (x y z : Bool) → x ≡ false → y ≡ true → z ≡ true → (not x && y && z) ≡ true
    by false true true e f g = refl
    by false true false e f g = absurd cc
    by false false z e f g = absurd cc
    by true y z e f g = absurd cc

onto_are : (b : ℕ) (words : List (List ℕ)) → is_argument_byte b ≡ true → AreWords words → AreWords (onto_word b words)
onto_are b [] is are = All-cons IsWord (b ∷ []) [] (and_from _ _ is refl) (All-nil IsWord)
onto_are b (word ∷ rest) is are =
    All-cons IsWord (b ∷ word) rest (and_from _ _ is (bytes_of word (All-head IsWord word rest are)))
    (All-tail IsWord word rest are)

words_are : (text : List ℕ) → list_all (λ b. not (b == 10)) text ≡ true → list_all (λ b. not (b == 0)) text ≡ true
    → AreWords (words_of text)
words_are [] nl nul = All-nil IsWord
words_are (b ∷ text) nl nul =
    let first = and_parts (not (b == 10)) (list_all (λ b. not (b == 10)) text) nl in
    let second = and_parts (not (b == 0)) (list_all (λ b. not (b == 0)) text) nul in
    by (is_blank b) (ends_or_blank text) refl first.0 second.0 (words_are text first.1 second.1)
  where
    by : (blank ends : Bool) → is_blank b ≡ blank → not (b == 10) ≡ true → not (b == 0) ≡ true
        → AreWords (words_of text)
        → AreWords (if blank then words_of text else if ends then (b ∷ []) ∷ words_of text else onto_word b
        (words_of text))
    by true ends e x y more = more
    by false true e x y more = All-cons IsWord (b ∷ []) (words_of text) (and_from _ _ (line_byte b e x y) refl) more
    by false false e x y more = onto_are b (words_of text) (line_byte b e x y) more

pub rest_words : (text : List ℕ) → IsLineRest text → AreWords (words_of text)
rest_words text is = words_are text is.no_nl is.no_nul
