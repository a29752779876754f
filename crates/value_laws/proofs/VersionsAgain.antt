-- Versions that were written are read again.
use Rattle.std.proofs.Common.{◌≡◌, ℕ, ◌<◌, true, List, [], ◌∷◌, length, Option, Some, None, refl, ap, ap₂, ◌∙◌, arith}
use Rattle.std.proofs.{Common.length-append, lemmas.List.{Elements.{All-head, All-weaker}, Sums.list_all-from_AllPass}}
use Rattle.std.specs.{Prelude.{All, if◌then◌else◌, Bool}, List.list_all}
use Rattle.dir_values.specs.{Arguments.arguments_at, FlagSets.unless_wrong}
use Rattle.dirdoc_grammar.specs.{Writers.is_argument, Writing.IsLineRest}
use Rattle.grammar_laws.proofs.LineRests.{rest_of_argument, rest_of_nothing}
use Rattle.frame_laws.proofs.{WordTexts.{Dark, is_word, length-word}, Words.arguments_of_word}
use Rattle.item_terms.specs.Bytes.{comma}
use Rattle.list_values.specs.{Parts.parts_of, VersionLists.{are_versions, is_version, versions_in, versions_text}}
use Rattle.list_values.specs.VersionLists.{wrong_version_list}
use Rattle.value_laws.specs.Again.{VersionsAreReadAgain, VersionsAreRight, VersionsFillLines}
use Rattle.value_laws.proofs.{LineWords.dark_with_commas, Marks.{LacksComma, parts_again}, VersionBytes.version_dark}
use Rattle.value_laws.proofs.VersionBytes.{version_lacks_comma, word_of_version}

abbrev IsVersion : List ℕ → Type 0
IsVersion version = is_version version ≡ true

-- no text has no arguments
no_arguments : (place : ℕ) → arguments_at place [] ≡ []
unfolding arguments_at
no_arguments place = refl

-- the text of some versions is not empty
text_some : (first : List ℕ) (rest : List (List ℕ)) → is_argument first ≡ true
    → 0 < length (versions_text (first ∷ rest))
text_some first [] is = length-word first is
text_some first (next ∷ rest) is =
    let some = length-word first is in
    omega (arith, some, length-append first (comma ∷ versions_text (next ∷ rest)))

-- and is one word
one_word : (first : List ℕ) (rest : List (List ℕ)) → All IsVersion (first ∷ rest)
    → is_argument (versions_text (first ∷ rest)) ≡ true
one_word first rest each =
    is_word (versions_text (first ∷ rest))
    (text_some first rest (word_of_version first (All-head IsVersion first rest each)))
    (dark_with_commas (first ∷ rest) (All-weaker IsVersion Dark version_dark (first ∷ rest) each))

-- whose parts they are
parts_are : (first : List ℕ) (rest : List (List ℕ)) → All IsVersion (first ∷ rest)
    → parts_of (versions_text (first ∷ rest)) ≡ first ∷ rest
parts_are first rest each =
    parts_again first rest (All-weaker IsVersion LacksComma version_lacks_comma (first ∷ rest) each)

are_all : (first : List ℕ) (rest : List (List ℕ)) → All IsVersion (first ∷ rest)
    → are_versions (versions_text (first ∷ rest)) ≡ true
are_all first rest each =
    ap (list_all is_version) (parts_are first rest each) ∙ list_all-from_AllPass is_version (first ∷ rest) each

right_by : (place : ℕ) (versions : List (List ℕ)) → All IsVersion versions
    → wrong_version_list (arguments_at place (versions_text versions)) ≡ None
right_by place [] each = ap wrong_version_list (no_arguments place)
right_by place (first ∷ rest) each =
    ap wrong_version_list (arguments_of_word place (versions_text (first ∷ rest)) (one_word first rest each))
    ∙ ap (λ (b : Bool). if b then None else Some place) (are_all first rest each)

pub versions_right : VersionsAreRight
versions_right place versions are = right_by place versions are.each

found : (versions : List (List ℕ)) → All IsVersion versions
    → versions_in (arguments_at 0 (versions_text versions)) ≡ versions
found [] each = ap versions_in (no_arguments 0)
found (first ∷ rest) each =
    ap versions_in (arguments_of_word 0 (versions_text (first ∷ rest)) (one_word first rest each))
    ∙ parts_are first rest each

pub versions_again : VersionsAreReadAgain
versions_again versions are =
    ap₂ (λ (o : Option ℕ) (l : List (List ℕ)). unless_wrong o l) (right_by 0 versions are.each)
    (found versions are.each)

fill_by : (versions : List (List ℕ)) → All IsVersion versions → IsLineRest (versions_text versions)
fill_by [] each = rest_of_nothing
fill_by (first ∷ rest) each = rest_of_argument (versions_text (first ∷ rest)) (one_word first rest each)

pub versions_fill : VersionsFillLines
versions_fill versions are = fill_by versions are.each
