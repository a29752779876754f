-- The words of a line's rest are arguments.
use Rattle.std.proofs.{Common.{◌≡◌, ℕ, Bool, true, false, List, [], ◌∷◌, refl}, lemmas.Bool.{and_from, and_parts}}
use Rattle.std.{proofs.lemmas.List.Elements.{All-cons, All-head, All-nil, All-tail}, specs.Prelude.{All, if◌then◌else◌}}
use Rattle.std.specs.List.{list_all}
use Rattle.item_terms.specs.Words.{ends_or_blank, is_blank, onto_word, words_of}
use Rattle.dirdoc_grammar.specs.{Writers.{is_argument, is_argument_byte}, Writing.IsLineRest}
use Rattle.row_laws.proofs.ItemArguments.{both_tests, in_line, line_byte}

-- a word that may stand in a line
abbrev pub IsArgument : List ℕ → Type 0
IsArgument word = is_argument word ≡ true

-- a byte in front of the first word
onto_words : (b : ℕ) (words : List (List ℕ)) → is_argument_byte b ≡ true → All IsArgument words
    → All IsArgument (onto_word b words)
onto_words b [] is all = All-cons IsArgument (b ∷ []) [] (and_from _ _ is refl) (All-nil IsArgument)
onto_words b (word ∷ rest) is all =
    All-cons IsArgument (b ∷ word) rest (by word (All-head IsArgument word rest all))
    (All-tail IsArgument word rest all)
  where
    by : (word : List ℕ) → is_argument word ≡ true → is_argument (b ∷ word) ≡ true
    by [] e = absurd (cc e)
    by (c ∷ more) e = and_from _ _ is e

words_are : (text : List ℕ) → list_all in_line text ≡ true → All IsArgument (words_of text)
words_are [] all = All-nil IsArgument
words_are (b ∷ text) all =
    let parts = and_parts (in_line b) (list_all in_line text) all in
    by (is_blank b) (ends_or_blank text) refl parts.0 (words_are text parts.1)
  where
    by : (blank ends : Bool) → is_blank b ≡ blank → in_line b ≡ true → All IsArgument (words_of text)
        → All IsArgument (if blank then words_of text
        else if ends then (b ∷ []) ∷ words_of text
        else onto_word b (words_of text))
    by true ends dark is more = more
    by false true dark is more =
        All-cons IsArgument (b ∷ []) (words_of text) (and_from _ _ (line_byte b dark is) refl) more
    by false false dark is more = onto_words b (words_of text) (line_byte b dark is) more

-- the words of what may be the rest of a line
pub words_are_arguments : (text : List ℕ) → IsLineRest text → All IsArgument (words_of text)
words_are_arguments text rest = words_are text (both_tests text rest.no_nl rest.no_nul)
