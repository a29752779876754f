-- The text of an item is its line.
use Rattle.std.proofs.Common.{◌≡◌, ℕ, ◌<◌, Bool, true, false, List, [], ◌∷◌, ◌++◌, length, Option, Some, None, refl}
use Rattle.std.proofs.{Common.{sym, ap, ◌∙◌, subst, append-nil, length-append, arith}, lemmas.List.Elements.All-head}
use Rattle.std.specs.{Prelude.{All, ℤ, map}, List.{flat_map, join_with_byte}}
use Rattle.dirdoc_grammar.specs.Writing.{item_text, items_text, tail}
use Rattle.frame_terms.specs.{Keywords.text_of, declared.keyword.Keyword.Keyword}
use Rattle.frame_values.specs.Items.{item_if, spaced_item}
use Rattle.frame_laws.proofs.Words.{AreWords, IsWord, length-word}
use Rattle.list_values.specs.{Params.{param_text, params_text}, Protocols.{protocol_text, protocols_text}}
use Rattle.list_values.specs.{VersionLists.{is_version, versions_text}, declared.named.Named.Named}
use Rattle.value_laws.proofs.VersionBytes.{word_of_version}
use Rattle.group_laws.proofs.WrittenSignatures.{tail_some}
use Rattle.consensus_terms.specs.Lines.{behind_space, line, list_line, list_line_by, rest_line}
use Rattle.consensus_laws.specs.Items.{list_items, words_item}

-- the first of words is not empty
abbrev pub IsFilled : List (List ℕ) → Type 0
IsFilled [] = Unit {0}
IsFilled (word ∷ words) = 0 < length word

-- words behind spaces
spaced_words_are_joined : (word : List ℕ) (rest : List (List ℕ))
    → word ++ flat_map behind_space rest ≡ join_with_byte 32 (word ∷ rest)
spaced_words_are_joined word [] = append-nil word
spaced_words_are_joined word (next ∷ rest) = ap (λ (l : List ℕ). word ++ 32 ∷ l) (spaced_words_are_joined next rest)

pub join_some : (word : List ℕ) (rest : List (List ℕ)) → 0 < length word
    → 0 < length (join_with_byte 32 (word ∷ rest))
join_some word [] some = some
join_some word (next ∷ rest) some =
    omega (arith, some, length-append word (32 ∷ join_with_byte 32 (next ∷ rest)))

words_tail : (words : List (List ℕ)) → IsFilled words → flat_map behind_space words ≡ tail (join_with_byte 32 words)
words_tail [] filled = refl
words_tail (word ∷ rest) filled =
    ap (λ (l : List ℕ). 32 ∷ l) (spaced_words_are_joined word rest)
    ∙ sym (tail_some (join_with_byte 32 (word ∷ rest)) (join_some word rest filled))

-- a line with these words
pub line_is : (keyword : Keyword) (words : List (List ℕ)) → IsFilled words
    → line (text_of keyword) words ≡ item_text (words_item keyword words)
unfolding line
line_is keyword words filled =
    ap (λ (l : List ℕ). text_of keyword ++ l ++ 10 ∷ []) (words_tail words filled)

-- the same, where it stands alone
pub lines_are : (keyword : Keyword) (words : List (List ℕ)) → IsFilled words
    → line (text_of keyword) words ≡ items_text (words_item keyword words ∷ [])
lines_are keyword words filled = line_is keyword words filled ∙ sym (append-nil (item_text (words_item keyword words)))

-- the line of a rest, where there is one
pub rest_is : (keyword : Keyword) (rest : Option (List ℕ))
    → rest_line (text_of keyword) rest ≡ items_text (item_if keyword rest)
rest_is keyword None = refl
rest_is keyword (Some []) = lines_are keyword [] tt
rest_is keyword (Some (b ∷ rest)) = lines_are keyword ((b ∷ rest) ∷ []) (omega arith)

-- the line of a keyword and a space
spaced_is : (keyword : Keyword) → line (text_of keyword) ([] ∷ []) ≡ items_text (spaced_item keyword ∷ [])
unfolding line
spaced_is keyword = sym (append-nil (item_text (spaced_item keyword)))

-- the line of a list
pub list_is : {X : Type 0} (always : Bool) (text_of_list : List X → List ℕ) (keyword : Keyword) (list : List X)
    → text_of_list [] ≡ []
    → ((first : X) (rest : List X) → list ≡ first ∷ rest → 0 < length (text_of_list (first ∷ rest)))
    → list_line_by always text_of_list (text_of keyword) list ≡ items_text (list_items always keyword text_of_list list)
list_is true text_of_list keyword [] none some =
    ap (λ (t : List ℕ). line (text_of keyword) (t ∷ [])) none ∙ spaced_is keyword
list_is false text_of_list keyword [] none some = refl
list_is true text_of_list keyword (first ∷ rest) none some =
    lines_are keyword (text_of_list (first ∷ rest) ∷ []) (some first rest refl)
list_is false text_of_list keyword (first ∷ rest) none some =
    lines_are keyword (text_of_list (first ∷ rest) ∷ []) (some first rest refl)

-- ---- lists

-- a name with something behind it is not empty
named_some : (name rest : List ℕ) → 0 < length (name ++ 61 ∷ rest)
named_some name rest = omega (arith, length-append name (61 ∷ rest))

pub params_are : (keyword : Keyword) (params : List (Named ℤ))
    → list_line params_text (text_of keyword) params ≡ items_text (list_items false keyword params_text params)
params_are keyword params =
    list_is false params_text keyword params refl
    (λ first rest is. join_some (param_text first) (map param_text rest) (named_some first.name _))

pub protocols_are : (always : Bool) (keyword : Keyword) (protocols : List (Named (List ℕ)))
    → list_line_by always protocols_text (text_of keyword) protocols
    ≡ items_text (list_items always keyword protocols_text protocols)
protocols_are always keyword protocols =
    list_is always protocols_text keyword protocols refl
    (λ first rest is. join_some (protocol_text first) (map protocol_text rest) (named_some first.name _))

pub versions_are : (always : Bool) (keyword : Keyword) (versions : List (List ℕ))
    → All (λ version. is_version version ≡ true) versions
    → list_line_by always versions_text (text_of keyword) versions
    ≡ items_text (list_items always keyword versions_text versions)
versions_are always keyword versions each =
    list_is always versions_text keyword versions refl
    (λ first rest is. some first rest (length-word first (word_of_version first
    (All-head (λ version. is_version version ≡ true) first rest
    (subst (All (λ version. is_version version ≡ true)) is each)))))
  where
    some : (first : List ℕ) (rest : List (List ℕ)) → 0 < length first → 0 < length (versions_text (first ∷ rest))
    some first [] filled = filled
    some first (next ∷ rest) filled =
        omega (arith, filled, length-append first (44 ∷ versions_text (next ∷ rest)))

-- ---- words

-- words are filled
pub filled_words : (words : List (List ℕ)) → AreWords words → IsFilled words
filled_words [] are = tt
filled_words (word ∷ words) are = length-word word (All-head IsWord word words are)
