-- Words with single spaces between them as the rest of a line, and of what bytes they are.
use Rattle.std.proofs.{Common.{◌≡◌, ℕ, true, List, [], ◌∷◌, ◌++◌, refl, sym, ap, ◌∙◌, subst}, lemmas.Bool.and_from}
use Rattle.std.proofs.lemmas.{Bool.false≢true, List.{Elements.{All-head, All-tail}, Folds.list_all-append}}
use Rattle.std.specs.{Prelude.All, List.join_with_byte}
use Rattle.item_terms.specs.Bytes.{comma, space}
use Rattle.dirdoc_grammar.specs.{Writers.is_argument, Writing.IsLineRest}
use Rattle.grammar_laws.proofs.LineRests.{joined, rest_of_argument, rest_of_joined, rest_of_nothing}
use Rattle.frame_laws.proofs.WordTexts.{AreWords, Dark, IsWord}

-- a word in front of a text that is not empty
joined_word : (word : List ℕ) (byte : ℕ) (text : List ℕ) → is_argument word ≡ true
    → joined word (byte ∷ text) ≡ word ++ space ∷ byte ∷ text
joined_word [] byte text is = absurd (false≢true is)
joined_word (b ∷ word) byte text is = refl

-- words are not empty, so what they make is not
first_byte : (word : List ℕ) (rest : List (List ℕ)) → is_argument word ≡ true
    → (byte : ℕ) × (text : List ℕ) × (join_with_byte space (word ∷ rest) ≡ byte ∷ text)
first_byte [] rest is = absurd (false≢true is)
first_byte (b ∷ word) [] is = (b, word, refl)
first_byte (b ∷ word) (next ∷ rest) is = (b, word ++ space ∷ join_with_byte space (next ∷ rest), refl)

-- words with single spaces between them may be the rest of a line
pub rest_of_words : (words : List (List ℕ)) → AreWords words → IsLineRest (join_with_byte space words)
rest_of_words [] each = rest_of_nothing
rest_of_words (word ∷ []) each = rest_of_argument word (All-head IsWord word [] each)
rest_of_words (word ∷ next ∷ rest) each =
    let is = All-head IsWord word (next ∷ rest) each in
    let later = All-tail IsWord word (next ∷ rest) each in
    let more = first_byte next rest (All-head IsWord next rest later) in
    let text = join_with_byte space (next ∷ rest) in
    let same : joined word text ≡ word ++ space ∷ text =
    ap (joined word) more.2 ∙ joined_word word more.0 more.1 is
    ∙ ap (λ (l : List ℕ). word ++ space ∷ l) (sym more.2) in
    subst IsLineRest same (rest_of_joined word text (rest_of_argument word is) (rest_of_words (next ∷ rest) later))

-- bytes of words with commas between them are bytes of a word
pub dark_with_commas : (texts : List (List ℕ)) → All Dark texts → Dark (join_with_byte comma texts)
dark_with_commas [] each = refl
dark_with_commas (text ∷ []) each = All-head Dark text [] each
dark_with_commas (text ∷ next ∷ rest) each =
    list_all-append _ text (comma ∷ join_with_byte comma (next ∷ rest))
    ∙ and_from _ _ (All-head Dark text (next ∷ rest) each)
    (dark_with_commas (next ∷ rest) (All-tail Dark text (next ∷ rest) each))
