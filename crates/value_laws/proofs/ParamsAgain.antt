-- Params that were written are read again.
use Rattle.std.proofs.Common.{◌≡◌, ℕ, ◌+◌, true, false, List, [], ◌∷◌, ◌++◌, length, map, Option, Some, None, ℤ, pos}
use Rattle.std.proofs.{Common.{negsuc, suc, refl, sym, ap, ap₂, ◌∙◌, subst, arith, length-append}, lemmas.Bool.and_from}
use Rattle.std.proofs.lemmas.{Bool.Decides.nat_tests, List.Elements.{All-cons, All-head, All-nil, All-tail}}
use Rattle.std.specs.{Prelude.{All, is_some, nat_le, unwrap_or, ◌==◌, if◌then◌else◌}, Fmt.signed_decimal, List.list_all}
use Rattle.dir_bytes.{proofs.ReadAgain.signed-signed_decimal, specs.Fields.signed_number}
use Rattle.dir_values.specs.{Arguments.texts_of, FlagSets.{is_name, is_name_byte, unless_wrong}}
use Rattle.dir_values.specs.FlagSets as flag_sets
use Rattle.dirdoc_grammar.specs.Writers.{is_argument}
use Rattle.frame_laws.proofs.WordTexts.{AreWords, Dark, IsWord, all_three, both_dark, bytes_of, is_word, number_dark}
use Rattle.frame_laws.proofs.{WordTexts.word_of_flag, Words.{arguments_of_words, placed, words_of-join}}
use Rattle.list_values.specs.{declared.named.Named.Named, Equations.{equals, left_side}, Maps.{names_of, with_value}}
use Rattle.list_values.specs.Params.{as_params, its_name, name_in, number_in, param_text, params_text, with_param}
use Rattle.list_values.specs.Params.{wrong_param}
use Rattle.value_laws.specs.{Again.{ParamsAreReadAgain, ParamsAreRight, ParamsFillLines}, Ranges.IsParamInRange}
use Rattle.value_laws.proofs.{LineWords.rest_of_words, Marks.{Lacks, behind_again, front_again, lacks_if}}
use Rattle.value_laws.proofs.NamedLists.{AreBefore, IsName, made_again, names_ascend, none_is_wrong, put_last}

-- ---- a name in front of `=`

no_equals : (b : ℕ) → is_name_byte b ≡ true → (b == equals) ≡ false
no_equals b is = grind (arith, nat_tests)

-- no `=` stands in a name
pub name_lacks : (name : List ℕ) → is_name name ≡ true → Lacks equals name
name_lacks name is =
    lacks_if is_name_byte (λ b. b == equals) no_equals name
    (all_three (nat_le 1 (length name)) (nat_le (length name) 64) (list_all is_name_byte name) is).2

-- the bytes of a name and of a value make a word
pub word_of_equation : (name value : List ℕ) → is_name name ≡ true → Dark value
    → is_argument (name ++ equals ∷ value) ≡ true
word_of_equation name value is dark =
    is_word (name ++ equals ∷ value) (omega (arith, length-append name (equals ∷ value)))
    (both_dark name (equals ∷ value) (bytes_of name (word_of_flag name is)) (and_from _ _ refl dark))

-- ---- one param

signed_dark : (number : ℤ) → Dark (signed_decimal number)
signed_dark (pos n) = number_dark n
signed_dark (negsuc n) = and_from _ _ refl (number_dark (suc n))

abbrev word : Named ℤ → List ℕ
word param = param_text param

left : (param : Named ℤ) → IsParamInRange param → left_side (word param) ≡ param.name
left param is = front_again equals param.name (signed_decimal param.value) (name_lacks param.name is.name)

number : (param : Named ℤ) → IsParamInRange param → number_in (word param) ≡ Some param.value
number param is =
    ap signed_number (behind_again equals param.name (signed_decimal param.value) (name_lacks param.name is.name))
    ∙ signed-signed_decimal param.value is.number

its : (param : Named ℤ) → IsParamInRange param → name_in (word param) ≡ param.name
its param is =
    ap (λ (o : Option ℤ). if is_some o then left_side (word param) else []) (number param is) ∙ left param is

-- params are words
pub words : (params : List (Named ℤ)) → All IsParamInRange params → AreWords (map param_text params)
words [] each = All-nil IsWord
words (param ∷ rest) each =
    let is = All-head IsParamInRange param rest each in
    All-cons IsWord (word param) (map word rest)
    (word_of_equation param.name (signed_decimal param.value) is.name (signed_dark param.value))
    (words rest (All-tail IsParamInRange param rest each))

-- ---- none is wrong

named_so : (place : ℕ) (params : List (Named ℤ)) → All IsParamInRange params
    → texts_of (map its_name (placed place (map word params))) ≡ names_of params
named_so place [] each = refl
named_so place (param ∷ rest) each =
    ap₂ (λ (n : List ℕ) (l : List (List ℕ)). n ∷ l) (its param (All-head IsParamInRange param rest each))
    (named_so (place + length (word param) + 1) rest (All-tail IsParamInRange param rest each))

are_names : (params : List (Named ℤ)) → All IsParamInRange params → All IsName (names_of params)
are_names [] each = All-nil IsName
are_names (param ∷ rest) each =
    All-cons IsName param.name (names_of rest) (All-head IsParamInRange param rest each).name
    (are_names rest (All-tail IsParamInRange param rest each))

pub params_right : ParamsAreRight
params_right place params are =
    let arguments = map its_name (placed place (map word params)) in
    let names = named_so place params are.each in
    ap wrong_param (arguments_of_words place (map word params) (words params are.each))
    ∙ none_is_wrong arguments (subst flag_sets.Ascend (sym names) (names_ascend params are.ascend))
    (subst (λ (l : List (List ℕ)). All IsName l) (sym names) (are_names params are.each))

-- ---- what is read

put : (params : List (Named ℤ)) (one : Named ℤ) → IsParamInRange one → AreBefore params one
    → with_param params (word one) ≡ params ++ one ∷ []
put params one is before =
    ap₂ (λ (n : List ℕ) (z : ℤ). with_value params n z) (left one is)
    (ap (λ (o : Option ℤ). unwrap_or o (pos 0)) (number one is))
    ∙ put_last params one before

pub params_again : ParamsAreReadAgain
params_again params are =
    let text = params_text params in
    ap₂ (λ (o : Option ℕ) (l : List (List ℕ)). unless_wrong o (as_params l)) (params_right 0 params are)
    (words_of-join (map word params) (words params are.each))
    ∙ ap (λ (l : List (Named ℤ)). unless_wrong None l)
    (made_again with_param word IsParamInRange put params are.ascend are.each)

pub params_fill : ParamsFillLines
params_fill params are = rest_of_words (map word params) (words params are.each)
