-- The arguments of a text are its words, with their places.
use Rattle.std.proofs.Common.{◌≡◌, ℕ, ◌+◌, Bool, true, false, List, [], ◌∷◌, refl, ap, ◌∙◌}
use Rattle.std.specs.Prelude.{if◌then◌else◌}
use Rattle.item_terms.specs.Words.{is_blank, ends_or_blank, onto_word, words_of}
use Rattle.dir_values.specs.Arguments.{Argument, ArgumentsAreWords, arguments_at, onto, texts_of}

-- a byte in front of the first argument is one in front of the first word
texts-onto : (place byte : ℕ) (arguments : List Argument)
    → texts_of (onto place byte arguments) ≡ onto_word byte (texts_of arguments)
texts-onto place byte [] = refl
texts-onto place byte (argument ∷ rest) = refl

-- what one more byte makes of the arguments it makes of the words
one_byte : (blank ends : Bool) (place byte : ℕ) (arguments : List Argument) (words : List (List ℕ)) → texts_of arguments ≡ words
    → texts_of (if blank then arguments else if ends then record { place = place; text = byte ∷ [] } ∷ arguments else onto place byte arguments)
    ≡ (if blank then words else if ends then (byte ∷ []) ∷ words else onto_word byte words)
one_byte true ends place byte arguments words same = same
one_byte false true place byte arguments words same = ap (λ (l : List (List ℕ)). (byte ∷ []) ∷ l) same
one_byte false false place byte arguments words same =
    texts-onto place byte arguments ∙ ap (λ (l : List (List ℕ)). onto_word byte l) same

pub arguments_words : ArgumentsAreWords
unfolding arguments_at
arguments_words place [] = refl
arguments_words place (byte ∷ text) =
    one_byte (is_blank byte) (ends_or_blank text) place byte (arguments_at (place + 1) text) (words_of text)
    (arguments_words (place + 1) text)
