-- Sets of flags: a flag's name, the set that flags make, and its text.
use Rattle.std.specs.Prelude.{◌≡◌, ℕ, ◌==◌, nat_le, Bool, true, ◌&&◌, ◌||◌, not, List, [], ◌∷◌, ◌++◌, length, AllPairs}
use Rattle.std.specs.{Prelude.{Option, Some, None, Result, Ok, Err, if◌then◌else◌}, List.{fold, list_all, list_any}}
use Rattle.std.specs.{List.join_with_byte, Str.bytes_eq}
use Rattle.item_terms.specs.{Bytes.{space, hyphen, underscore}, Words.{is_letter_or_digit, words_of}}
use Rattle.dir_values.specs.{Arguments.{Argument, arguments_at}, Digests.bytes_below}
use Rattle.dir_values.specs.declared.refusal.ValueRefusal.{ValueRefusal, TheVariants.BadValue}

-- a letter, a digit, `-` or `_`
abbrev pub is_name_byte : ℕ → Bool
is_name_byte byte = is_letter_or_digit byte || byte == hyphen || byte == underscore

-- the name of a flag: 1 to 64 such bytes
abbrev pub is_name : List ℕ → Bool
is_name text = nat_le 1 (length text) && nat_le (length text) 64 && list_all is_name_byte text

-- whether a flag is among others
abbrev pub has_flag : List (List ℕ) → List ℕ → Bool
has_flag flags flag = list_any (λ other. bytes_eq other flag) flags

-- flags in ascending order of their bytes, each once
abbrev pub Ascend : List (List ℕ) → Type 0
Ascend flags = AllPairs (λ earlier later. bytes_below earlier later ≡ true) flags

-- ascending flags with one more in its place; one that is there already changes nothing
abbrev pub with_flag : List (List ℕ) → List ℕ → List (List ℕ)
with_flag [] flag = flag ∷ []
with_flag (first ∷ rest) flag =
    if bytes_below first flag then first ∷ with_flag rest flag
    else if bytes_eq first flag then first ∷ rest
    else flag ∷ first ∷ rest

-- the set of the flags in a list
abbrev pub as_set : List (List ℕ) → List (List ℕ)
as_set flags = fold with_flag [] flags

-- the flags with single spaces between them
abbrev pub set_text : List (List ℕ) → List ℕ
set_text flags = join_with_byte space flags

-- whether a flag is among some arguments
abbrev pub is_among : List ℕ → List Argument → Bool
is_among flag arguments = list_any (λ (argument : Argument). bytes_eq argument.text flag) arguments

-- the place of the first argument that is no name of a flag, or that stands before it too
unfoldable pub wrong_flag : List Argument → List Argument → Option ℕ
wrong_flag before [] = None
wrong_flag before (argument ∷ rest) =
    if is_name argument.text && not (is_among argument.text before) then wrong_flag (before ++ argument ∷ []) rest
    else Some argument.place

-- a value, unless something is wrong at a place
abbrev pub unless_wrong : {A : Type 0} → Option ℕ → A → Result A ValueRefusal
unless_wrong None value = Ok value
unless_wrong (Some place) value = Err (BadValue place)

-- the set of flags that a text spells
abbrev pub flag_set : List ℕ → Result (List (List ℕ)) ValueRefusal
flag_set text = unless_wrong (wrong_flag [] (arguments_at 0 text)) (as_set (words_of text))

-- A set of flags ascends.
abbrev pub SetsAscend : Type 0
SetsAscend = (flags : List (List ℕ)) → Ascend (as_set flags)

-- A set of flags has the flags of the list that it is made from, and no others.
abbrev pub SetsHaveTheirFlags : Type 0
SetsHaveTheirFlags = (flags : List (List ℕ)) (flag : List ℕ) → has_flag (as_set flags) flag ≡ has_flag flags flag
