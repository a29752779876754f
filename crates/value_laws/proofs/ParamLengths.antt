-- The canonical text of the params that a text lists is no longer than that text.
use Rattle.std.proofs.Common.{◌≡◌, ℕ, ◌+◌, ◌<◌, ◌≤◌, Bool, true, false, List, [], ◌∷◌, ◌++◌, length, map, Option, Some}
use Rattle.std.proofs.{Common.{None, ℤ, pos, refl, ap, subst, arith, length-append}, lemmas.Bool.and_parts}
use Rattle.std.proofs.lemmas.{Bool.false≢true, List.Elements.{All-cons, All-head, All-nil, All-tail}}
use Rattle.std.specs.{Prelude.{All, ◌&&◌, is_some, not, unwrap_or, if◌then◌else◌}, Fmt.signed_decimal, List.fold}
use Rattle.std.specs.Str.{bytes_eq}
use Rattle.item_terms.specs.{Bytes.space, Words.words_of}
use Rattle.dir_values.specs.{Arguments.{Argument, arguments_at, texts_of}, Digests.bytes_below, FlagSets.is_among}
use Rattle.dir_values.specs.{FlagSets.{is_name, unless_wrong, wrong_flag}, Versions.has_mark}
use Rattle.dir_values.proofs.ArgumentWords.{arguments_words}
use Rattle.list_values.specs.{declared.named.Named.Named, Equations.{equals, left_side, right_side}, Maps.named_value}
use Rattle.list_values.specs.{Maps.with_value, Params.{as_params, its_name, name_in, number_in, param_text}}
use Rattle.list_values.specs.Params.{params_text, with_param, wrong_param}
use Rattle.value_groups.specs.Listed.{members_of}
use Rattle.value_laws.{specs.Lengths.ParamsAreNoLonger, proofs.Rooms.{joined_room, nothing_behind, room, sides_of}}
use Rattle.value_laws.proofs.{Rooms.words_room, Spelled.signed_spelled}

-- ---- one param more

abbrev params_room : List (Named ℤ) → ℕ
params_room params = room (map param_text params)

param_size : (param : Named ℤ) → length (param_text param) ≡ length param.name + 1 + length (signed_decimal param.value)
param_size param = omega (arith, length-append param.name (equals ∷ signed_decimal param.value))

put_room : (params : List (Named ℤ)) (name : List ℕ) (number : ℤ)
    → params_room (with_value params name number)
    ≤ params_room params + (length name + 1 + length (signed_decimal number) + 1)
put_room [] name number = omega (arith, param_size (named_value name number))
put_room (first ∷ rest) name number =
    by (bytes_below first.name name) (bytes_eq first.name name) (put_room rest name number)
  where
    most : ℕ
    most = length name + 1 + length (signed_decimal number) + 1

    by : (b e : Bool) → params_room (with_value rest name number) ≤ params_room rest + most
        → params_room (if b then first ∷ with_value rest name number
        else if e then named_value first.name number ∷ rest else named_value name number ∷ first ∷ rest)
        ≤ params_room (first ∷ rest) + most
    by true e more = omega (arith, more)
    by false true more = omega (arith, param_size first, param_size (named_value first.name number))
    by false false more = omega (arith, param_size (named_value name number))

-- ---- words

-- the word spells a param
abbrev IsParam : List ℕ → Type 0
IsParam word = is_some (number_in word) ≡ true

word_room : (word : List ℕ) → IsParam word
    → length (left_side word) + 1 + length (signed_decimal (unwrap_or (number_in word) (pos 0))) ≤ length word
word_room word is = by (number_in word) refl is
  where
    by : (found : Option ℤ) → number_in word ≡ found → is_some found ≡ true
        → length (left_side word) + 1 + length (signed_decimal (unwrap_or found (pos 0))) ≤ length word
    by None e some = absurd (false≢true some)
    by (Some number) e some =
        let short = signed_spelled (right_side word) number e in
        let marked : has_mark equals word ≡ true = by_mark (has_mark equals word) refl short.1 in
        omega (arith, short.0, sides_of equals word marked)
      where
        by_mark : (t : Bool) → has_mark equals word ≡ t → 0 < length (right_side word) → t ≡ true
        by_mark true marked some = refl
        by_mark false marked some =
            let none = ap (λ (l : List ℕ). length l) (nothing_behind equals word marked) in
            absurd (omega (arith, none, some))

fold_room : (words : List (List ℕ)) (params : List (Named ℤ)) → All IsParam words
    → params_room (fold with_param params words) ≤ params_room params + room words
fold_room [] params each = omega arith
fold_room (word ∷ words) params each =
    let number = unwrap_or (number_in word) (pos 0) in
    omega (
      arith,
      fold_room words (with_param params word) (All-tail IsParam word words each),
      put_room params (left_side word) number,
      word_room word (All-head IsParam word words each),
    )

-- ---- no argument is wrong

-- a name has a byte
named_param : (text : List ℕ) → is_name (name_in text) ≡ true → IsParam text
named_param text is = by (is_some (number_in text)) is
  where
    by : (t : Bool) → is_name (if t then left_side text else []) ≡ true → t ≡ true
    by true named_so = refl
    by false named_so = absurd (false≢true named_so)

each_param : (before arguments : List Argument) → wrong_flag before (map its_name arguments) ≡ None
    → All IsParam (texts_of arguments)
unfolding wrong_flag
each_param before [] right = All-nil IsParam
each_param before (one ∷ rest) right =
    by (is_name (name_in one.text) && not (is_among (name_in one.text) before)) refl right
    (each_param (before ++ its_name one ∷ []) rest)
  where
    by : (t : Bool) → (is_name (name_in one.text) && not (is_among (name_in one.text) before)) ≡ t
        → (if t then wrong_flag (before ++ its_name one ∷ []) (map its_name rest) else Some one.place) ≡ None
        → (wrong_flag (before ++ its_name one ∷ []) (map its_name rest) ≡ None → All IsParam (texts_of rest))
        → All IsParam (one.text ∷ texts_of rest)
    by true test found more =
        All-cons IsParam one.text (texts_of rest)
        (named_param one.text (and_parts (is_name (name_in one.text)) _ test).0) (more found)
    by false test found more = absurd (cc found)

-- ---- the law

pub params_no_longer : ParamsAreNoLonger
params_no_longer text = by (wrong_param (arguments_at 0 text)) refl
  where
    by : (wrong : Option ℕ) → wrong_param (arguments_at 0 text) ≡ wrong
        → length (params_text (members_of (unless_wrong wrong (as_params (words_of text))))) ≤ length text
    by None right =
        let each =
        subst (λ (l : List (List ℕ)). All IsParam l) (arguments_words 0 text)
        (each_param [] (arguments_at 0 text) right) in
        omega (
          arith,
          joined_room space (map param_text (as_params (words_of text))),
          fold_room (words_of text) [] each,
          words_room text,
        )
    by (Some place) right = omega arith
