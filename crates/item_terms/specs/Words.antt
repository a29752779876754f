-- What a line says, without its NL: whether it is blank or a keyword line, its keyword and its arguments, and whether it
-- begins or ends an object (dir-spec, meta-format).
use Rattle.std.specs.Prelude.{ℕ, ◌+◌, ◌-◌, ◌==◌, nat_le, nat_eq, Bool, true, false, not, ◌&&◌, ◌||◌, List, [], ◌∷◌}
use Rattle.std.specs.Prelude.{length, take, drop, Option, Some, None, if◌then◌else◌, codes, slice_get, option_and_then}
use Rattle.std.specs.List.{list_all, position, prefix_len, suffix_len}
use lib.Pointwise.{pointwise}
use Rattle.item_terms.specs.Bytes.{nul, tab, space, hyphen}

-- a space or a tab
abbrev pub is_blank : ℕ → Bool
is_blank b = (b == space) || (b == tab)

-- an ASCII letter or digit
abbrev pub is_letter_or_digit : ℕ → Bool
is_letter_or_digit b = (nat_le 48 b && nat_le b 57) || (nat_le 65 b && nat_le b 90) || (nat_le 97 b && nat_le b 122)

-- a byte of a keyword: a letter, a digit or '-'
abbrev pub is_word_byte : ℕ → Bool
is_word_byte b = is_letter_or_digit b || (b == hyphen)

-- a line that is empty or has blanks alone
abbrev pub is_blank_line : List ℕ → Bool
is_blank_line text = list_all is_blank text

-- where the first NUL of a line is
abbrev pub nul_in : List ℕ → Option ℕ
nul_in text = position (λ b. b == nul) text

-- ---- parts of a line

-- the text without the blanks at its front
abbrev pub trim_front : List ℕ → List ℕ
trim_front text = drop (prefix_len is_blank text) text

-- the text without the blanks at its end
abbrev pub trim_end : List ℕ → List ℕ
trim_end text = take (length text - suffix_len is_blank text) text

-- the text without its outer blanks
abbrev pub trim : List ℕ → List ℕ
trim text = trim_end (trim_front text)

-- whether there is a first byte and it passes the test
abbrev pub first_is : (ℕ → Bool) → List ℕ → Bool
first_is p [] = false
first_is p (b ∷ bytes) = p b

-- the line begins with '-'
abbrev pub begins_dash : List ℕ → Bool
begins_dash text = first_is (λ b. b == hyphen) text

-- nothing stands here, or a blank in front
abbrev pub ends_or_blank : List ℕ → Bool
ends_or_blank [] = true
ends_or_blank (b ∷ bytes) = is_blank b

-- ---- keyword lines

-- how many bytes the keyword at the front has
abbrev pub keyword_len : List ℕ → ℕ
keyword_len text = prefix_len is_word_byte text

-- the keyword at the front
abbrev pub keyword : List ℕ → List ℕ
keyword text = take (keyword_len text) text

-- what follows the keyword
abbrev pub after_keyword : List ℕ → List ℕ
after_keyword text = drop (keyword_len text) text

-- a keyword line: a keyword that begins with a letter or digit, and then the line ends or a blank follows
abbrev pub is_keyword_line : List ℕ → Bool
is_keyword_line text = first_is is_letter_or_digit text && ends_or_blank (after_keyword text)

-- the byte right after the keyword, where the line goes on
abbrev pub separator : List ℕ → Option ℕ
separator text = slice_get (after_keyword text) 0

-- the arguments of a keyword line in one text, without outer blanks
abbrev pub arguments : List ℕ → List ℕ
arguments text = trim (after_keyword text)

-- where the arguments stand of a line that begins at this place
abbrev pub argument_start : ℕ → List ℕ → ℕ
argument_start place text = place + (keyword_len text + prefix_len is_blank (after_keyword text))

-- the words with one more byte at the front of the first
abbrev pub onto_word : ℕ → List (List ℕ) → List (List ℕ)
onto_word b [] = (b ∷ []) ∷ []
onto_word b (word ∷ rest) = (b ∷ word) ∷ rest

-- the words of a text, which runs of blanks separate
abbrev pub words_of : List ℕ → List (List ℕ)
words_of [] = []
words_of (b ∷ text) =
    if is_blank b then words_of text
    else if ends_or_blank text then (b ∷ []) ∷ words_of text
    else onto_word b (words_of text)

-- the argument with this index, from 0, of a line's arguments
abbrev pub argument : ℕ → List ℕ → Option (List ℕ)
argument n args = slice_get (words_of args) n

-- ---- the first and the last line of an object

-- words of letters, digits and '-', with one space between each two; at_start: whether a word has to begin here
abbrev pub are_words : Bool → List ℕ → Bool
are_words at_start [] = not at_start
are_words at_start (b ∷ bytes) = if b == space then not at_start && are_words true bytes else is_word_byte b && are_words false bytes

-- the end of both lines
abbrev pub dashes : List ℕ
dashes = codes "-----"

-- how a line starts that begins an object
abbrev pub begins : List ℕ
begins = codes "-----BEGIN "

-- how a line starts that ends an object
abbrev pub ends : List ℕ
ends = codes "-----END "

-- what follows this prefix, if the text has it
abbrev pub strip : List ℕ → List ℕ → Option (List ℕ)
strip prefix text = if pointwise nat_eq (take (length prefix) text) prefix then Some (drop (length prefix) text) else None

-- what comes before this suffix, if the text has it
abbrev pub strip_end : List ℕ → List ℕ → Option (List ℕ)
strip_end suffix text = if pointwise nat_eq (drop (length text - length suffix) text) suffix then Some (take (length text - length suffix) text) else None

-- the text, if it is words
abbrev pub if_words : List ℕ → Option (List ℕ)
if_words words = if are_words true words then Some words else None

-- there is a text, and it is the five dashes
abbrev pub is_dashes : Option (List ℕ) → Bool
is_dashes None = false
is_dashes (Some text) = pointwise nat_eq text dashes

-- the words of a line that begins an object, if it is one: "-----BEGIN ", words, "-----"
abbrev pub begin_words : List ℕ → Option (List ℕ)
begin_words text = option_and_then if_words (option_and_then (strip_end dashes) (strip begins text))

-- whether the line ends the object with these words: "-----END ", the words, "-----"
abbrev pub is_end_line : List ℕ → List ℕ → Bool
is_end_line words text = is_dashes (option_and_then (strip words) (strip ends text))
