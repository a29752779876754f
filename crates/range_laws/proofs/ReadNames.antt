-- What texts list: as many words as arguments, and flags, which are names.
use Rattle.std.proofs.Common.{◌≡◌, ℕ, suc, ◌+◌, ◌≤◌, Bool, true, false, List, [], ◌∷◌, ◌++◌, length, Some, None, refl}
use Rattle.std.proofs.{Common.{sym, ap, subst, ◌∙◌, arith}, lemmas.{Bool.and_parts, List.Elements.{All-cons, All-nil}}}
use Rattle.std.specs.{Prelude.{All, ◌&&◌, not, if◌then◌else◌}, List.fold, Str.bytes_eq}
use Rattle.item_terms.specs.Words.{words_of}
use Rattle.dir_values.specs.{Arguments.{Argument, arguments_at, texts_of}, Digests.bytes_below, FlagSets.as_set}
use Rattle.dir_values.{specs.FlagSets.{is_among, is_name, with_flag, wrong_flag}, proofs.ArgumentWords.arguments_words}

-- ---- words

abbrev pub IsName : List ℕ → Type 0
IsName name = is_name name ≡ true

count_texts : (arguments : List Argument) → length (texts_of arguments) ≡ length arguments
count_texts [] = refl
count_texts (one ∷ rest) = ap suc (count_texts rest)

-- there are as many arguments as words
pub count_words : (place : ℕ) (text : List ℕ) → length (words_of text) ≡ length (arguments_at place text)
count_words place text =
    sym (ap (λ (l : List (List ℕ)). length l) (arguments_words place text)) ∙ count_texts (arguments_at place text)

-- ---- flags

-- of arguments among which none is wrong each is a name
pub names_if : (before arguments : List Argument) → wrong_flag before arguments ≡ None → All IsName (texts_of arguments)
unfolding wrong_flag
names_if before [] is = All-nil IsName
names_if before (one ∷ rest) is =
    by (is_name one.text && not (is_among one.text before)) refl is (names_if (before ++ one ∷ []) rest)
  where
    by : (t : Bool) → (is_name one.text && not (is_among one.text before)) ≡ t
        → (if t then wrong_flag (before ++ one ∷ []) rest else Some one.place) ≡ None
        → (wrong_flag (before ++ one ∷ []) rest ≡ None → All IsName (texts_of rest))
        → All IsName (one.text ∷ texts_of rest)
    by true right found more = All-cons IsName one.text (texts_of rest) (and_parts _ _ right).0 (more found)
    by false right found more = absurd (cc (found))

-- of flags among which none is wrong each is a name
pub names_of_words : (place : ℕ) (text : List ℕ) → wrong_flag [] (arguments_at place text) ≡ None
    → All IsName (words_of text)
names_of_words place text is =
    subst (λ (l : List (List ℕ)). All IsName l) (arguments_words place text) (names_if [] (arguments_at place text) is)

count_with : (set : List (List ℕ)) (flag : List ℕ) → length (with_flag set flag) ≤ suc (length set)
count_with [] flag = omega arith
count_with (first ∷ rest) flag = by (bytes_below first flag) (bytes_eq first flag) (count_with rest flag)
  where
    by : (b e : Bool) → length (with_flag rest flag) ≤ suc (length rest)
        → length (if b then first ∷ with_flag rest flag else if e then first ∷ rest else flag ∷ first ∷ rest)
        ≤ suc (length (first ∷ rest))
    by true e more = omega (arith, more)
    by false true more = omega arith
    by false false more = omega arith

count_fold : (flags set : List (List ℕ)) → length (fold with_flag set flags) ≤ length set + length flags
count_fold [] set = omega arith
count_fold (flag ∷ flags) set =
    omega (arith, count_fold flags (with_flag set flag), count_with set flag)

-- no more flags make a set than it is made of
pub count_of_set : (flags : List (List ℕ)) → length (as_set flags) ≤ length flags
count_of_set flags = omega (arith, count_fold flags [])
