-- The arguments of a text, one after the other: its words, with their places (dir-spec, meta-format).
use Rattle.std.specs.Prelude.{◌≡◌, ℕ, ◌+◌, List, [], ◌∷◌, map, if◌then◌else◌}
use Rattle.item_terms.specs.Words.{is_blank, ends_or_blank, words_of}

-- an argument, and the place of its first byte
pub record Argument : Type 0 where
  pub place : ℕ
  pub text : List ℕ

-- a byte in front of the first argument, at this place
abbrev pub onto : ℕ → ℕ → List Argument → List Argument
onto place byte [] = record { place = place; text = byte ∷ [] } ∷ []
onto place byte (argument ∷ rest) = record { place = place; text = byte ∷ argument.text } ∷ rest

-- the arguments of a text that begins at this place: runs of blanks separate them
unfoldable pub arguments_at : ℕ → List ℕ → List Argument
arguments_at place [] = []
arguments_at place (byte ∷ text) =
    if is_blank byte then arguments_at (place + 1) text
    else if ends_or_blank text then record { place = place; text = byte ∷ [] } ∷ arguments_at (place + 1) text
    else onto place byte (arguments_at (place + 1) text)

-- their texts
abbrev pub texts_of : List Argument → List (List ℕ)
texts_of arguments = map (λ (argument : Argument). argument.text) arguments

-- Without their places the arguments of a text are its words.
abbrev pub ArgumentsAreWords : Type 0
ArgumentsAreWords = (place : ℕ) (text : List ℕ) → texts_of (arguments_at place text) ≡ words_of text
