-- The lines of a consensus (dir-spec, meta-format).
use Rattle.std.specs.{Prelude.{ℕ, Bool, true, false, List, [], ◌∷◌, ◌++◌, Option, Some, None, decimal}, List.flat_map}
use Rattle.item_terms.specs.Bytes.{space, line_feed}
use Rattle.list_values.specs.Equations.{equals}

-- a word behind a space
abbrev pub behind_space : List ℕ → List ℕ
behind_space word = space ∷ word

-- a line of a keyword and its arguments, with single spaces
unfoldable pub line : List ℕ → List (List ℕ) → List ℕ
line keyword words = keyword ++ flat_map behind_space words ++ line_feed ∷ []

-- the line of a list, which has its text and stands where the list is not empty
abbrev pub list_line : {X : Type 0} → (List X → List ℕ) → List ℕ → List X → List ℕ
list_line text_of keyword [] = []
list_line text_of keyword (first ∷ rest) = line keyword (text_of (first ∷ rest) ∷ [])

-- the same, or where such lines always stand the line of any list: that of an empty one is the keyword and a space
abbrev pub list_line_by : {X : Type 0} → Bool → (List X → List ℕ) → List ℕ → List X → List ℕ
list_line_by false text_of keyword list = list_line text_of keyword list
list_line_by true text_of keyword list = line keyword (text_of list ∷ [])

-- the arguments that the rest of a line has: none where it is empty
abbrev pub rest_words : List ℕ → List (List ℕ)
rest_words [] = []
rest_words (byte ∷ rest) = (byte ∷ rest) ∷ []

-- the line that has this rest, where there is one: of an empty rest it is the bare keyword
abbrev pub rest_line : List ℕ → Option (List ℕ) → List ℕ
rest_line keyword None = []
rest_line keyword (Some rest) = line keyword (rest_words rest)

-- a name with a number
unfoldable pub named_text : List ℕ → ℕ → List ℕ
named_text name number = name ++ equals ∷ decimal number
