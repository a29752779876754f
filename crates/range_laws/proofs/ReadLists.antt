-- What texts list is in range: params, versions of protocols and versions of Tor.
use Rattle.std.proofs.Common.{◌≡◌, ℕ, zero, suc, ◌+◌, ◌<◌, ◌≤◌, Bool, true, false, cond, List, [], ◌∷◌, length, map}
use Rattle.std.proofs.{Common.{drop, Option, Some, None, refl, subst, arith}, lemmas.Bool.{and_parts, false≢true}}
use Rattle.std.proofs.lemmas.List.Elements.{All-cons, All-head, All-nil, All-tail, All-weaker}
use Rattle.std.{proofs.lemmas.{List.Sums.AllPass-from_list_all, Int.ints}, specs.Prelude.{All, AllPairs, filter}}
use Rattle.std.specs.{Prelude.{is_some, not, unwrap_or, option_map, ℤ, pos, neg_ℤ, FitsSigned, if◌then◌else◌}, Int.w32}
use Rattle.std.specs.{List.{find, fold, range_with_len}, Str.{bytes_eq, Parse.starts_with_minus}}
use Rattle.dir_bytes.specs.Fields.{number, signed_number}
use Rattle.item_terms.specs.Words.{words_of}
use Rattle.dir_values.specs.{Arguments.{Argument, arguments_at, texts_of}, Digests.bytes_below, FlagSets.is_name}
use Rattle.dir_values.{specs.FlagSets.unless_wrong, proofs.{ArgumentWords.arguments_words, Orders.AllPairs-cons}}
use Rattle.dir_values.proofs.Orders.{AllPairs-nil}
use Rattle.list_values.specs.{declared.named.Named.Named, Equations.{left_side, right_side}, Maps.{Ascend, named_value}}
use Rattle.list_values.specs.{Maps.with_value, NumberSets.{numbers_from, numbers_that, united_numbers}}
use Rattle.list_values.specs.{Params.{as_params, its_name, wrong_param}, Protocols.{as_protocols, is_protocol}}
use Rattle.list_values.specs.{Protocols.{ranges_in, wrong_protocol}, VersionLists.{are_versions, is_version}}
use Rattle.list_values.{specs.Parts.parts_of, proofs.Maps.{Ascend-nil, Ascend-with_value}}
use Rattle.list_values.specs.Params as param
use Rattle.list_values.specs.Protocols as protocol
use Rattle.list_values.specs.VersionLists as version
use Rattle.value_laws.specs.Ranges.{AreNumbersInRange, AreParamsInRange, AreProtocolsInRange, AreVersionsInRange}
use Rattle.value_laws.specs.Ranges.{IsParamInRange, IsProtocolInRange}
use Rattle.value_groups.specs.Listed.{members_of, params_in, protocols_in, versions_in}
use Rattle.row_laws.proofs.ReadSteps.{number_within}
use Rattle.range_laws.proofs.ReadNames.{IsName, names_if}

-- ---- values by their names

module _ {V : Type 0} (Is : V → Type 0) where
  -- the entry has a name and such a value
  abbrev IsEntry : Named V → Type 0
  IsEntry entry = IsName entry.name × Is entry.value

  each_value : (entries : List (Named V)) (name : List ℕ) (value : V) → All IsEntry entries → IsName name → Is value
      → All IsEntry (with_value entries name value)
  each_value [] name value all is it = All-cons IsEntry (named_value name value) [] (is, it) all
  each_value (first ∷ rest) name value all is it =
      by (bytes_below first.name name) (bytes_eq first.name name)
      (each_value rest name value (All-tail IsEntry first rest all) is it)
    where
      by : (b e : Bool) → All IsEntry (with_value rest name value)
          → All IsEntry (if b then first ∷ with_value rest name value
          else if e then named_value first.name value ∷ rest else named_value name value ∷ first ∷ rest)
      by true e more = All-cons IsEntry first (with_value rest name value) (All-head IsEntry first rest all) more
      by false true more =
          All-cons IsEntry (named_value first.name value) rest ((All-head IsEntry first rest all).0, it)
          (All-tail IsEntry first rest all)
      by false false more = All-cons IsEntry (named_value name value) (first ∷ rest) (is, it) all

  count_value : (entries : List (Named V)) (name : List ℕ) (value : V)
      → length (with_value entries name value) ≤ suc (length entries)
  count_value [] name value = omega arith
  count_value (first ∷ rest) name value =
      by (bytes_below first.name name) (bytes_eq first.name name) (count_value rest name value)
    where
      by : (b e : Bool) → length (with_value rest name value) ≤ suc (length rest)
          → length (if b then first ∷ with_value rest name value
          else if e then named_value first.name value ∷ rest else named_value name value ∷ first ∷ rest)
          ≤ suc (length (first ∷ rest))
      by true e more = omega (arith, more)
      by false true more = omega arith
      by false false more = omega arith

  -- what is made of words
  record IsMade (most : ℕ) (entries : List (Named V)) : Type 0 where
    ascend : Ascend entries
    each : All IsEntry entries
    count : length entries ≤ most

  abbrev HasName : List ℕ → Type 0
  HasName word = IsName (left_side word)

  made : (of : List (Named V) → List ℕ → V) → ((entries : List (Named V)) (word : List ℕ) → Is (of entries word))
      → (words : List (List ℕ)) (most : ℕ) (entries : List (Named V)) → IsMade most entries → All HasName words
      → IsMade (most + length words)
      (fold (λ (l : List (Named V)) word. with_value l (left_side word) (of l word)) entries words)
  made of are [] most entries is each =
      record { ascend = is.ascend; each = is.each; count = omega (arith, is.count) }
  made of are (word ∷ words) most entries is each =
      let name = left_side word in
      let value = of entries word in
      let more =
      made of are words (suc most) (with_value entries name value)
      (record {
        ascend = Ascend-with_value entries name value is.ascend;
        each = each_value entries name value is.each (All-head HasName word words each) (are entries word);
        count = omega (arith, count_value entries name value, is.count);
      }) (All-tail HasName word words each) in
      record { ascend = more.ascend; each = more.each; count = omega (arith, more.count) }

  none_made : IsMade 0 []
  none_made = record { ascend = Ascend-nil; each = All-nil IsEntry; count = omega arith }

-- ---- params

negative : (n : ℕ) → n ≤ 2147483648 → FitsSigned w32 (neg_ℤ (pos n))
negative zero small = omega (arith, ints)
negative (suc n) small = omega (arith, ints, small)

positive : (n : ℕ) → n ≤ 2147483647 → FitsSigned w32 (pos n)
positive n small = omega (arith, ints, small)

-- a number with its sign has 32 bits
signed_fits : (text : List ℕ) → FitsSigned w32 (unwrap_or (signed_number text) (pos 0))
unfolding signed_number
signed_fits text =
    by (starts_with_minus text) (number 2147483648 (drop 1 text)) refl (number 2147483647 text) refl
  where
    by : (minus : Bool) (a : Option ℕ) → number 2147483648 (drop 1 text) ≡ a → (b : Option ℕ)
        → number 2147483647 text ≡ b
        → FitsSigned w32 (unwrap_or (if minus then option_map (λ n. neg_ℤ (pos n)) a else option_map pos b) (pos 0))
    by true (Some n) is b too = negative n (number_within 2147483648 (drop 1 text) n is)
    by true None is b too = positive 0 (omega arith)
    by false a is (Some n) too = positive n (number_within 2147483647 text n too)
    by false a is None too = positive 0 (omega arith)

param_names : (arguments : List Argument) → All IsName (texts_of (map its_name arguments))
    → All (λ word. IsName (left_side word)) (texts_of arguments)
param_names [] each = All-nil (λ word. IsName (left_side word))
param_names (one ∷ rest) each =
    let names = texts_of (map its_name rest) in
    All-cons (λ word. IsName (left_side word)) one.text (texts_of rest)
    (by (is_some (param.number_in one.text)) (All-head IsName (param.name_in one.text) names each))
    (param_names rest (All-tail IsName (param.name_in one.text) names each))
  where
    by : (t : Bool) → IsName (if t then left_side one.text else []) → IsName (left_side one.text)
    by true is = is
    by false is = absurd (false≢true is)

abbrev Fits : ℤ → Type 0
Fits z = FitsSigned w32 z

params_made : (text : List ℕ) → wrong_param (arguments_at 0 text) ≡ None
    → IsMade Fits (0 + length (words_of text)) (as_params (words_of text))
params_made text right =
    made Fits (λ params word. unwrap_or (param.number_in word) (pos 0))
    (λ params word. signed_fits (right_side word)) (words_of text) 0 [] (none_made Fits)
    (subst (λ (l : List (List ℕ)). All (λ word. IsName (left_side word)) l) (arguments_words 0 text)
    (param_names (arguments_at 0 text) (names_if [] (map its_name (arguments_at 0 text)) right)))

-- the params that a text lists are in range
pub params_ranged : (text : List ℕ) → AreParamsInRange (params_in text) × (length (params_in text) ≤ length (words_of text))
params_ranged text = by (wrong_param (arguments_at 0 text)) refl
  where
    by : (wrong : Option ℕ) → wrong_param (arguments_at 0 text) ≡ wrong
        → AreParamsInRange (members_of (unless_wrong wrong (as_params (words_of text))))
        × (length (members_of (unless_wrong wrong (as_params (words_of text)))) ≤ length (words_of text))
    by None is =
        let are = params_made text is in (
          record {
            ascend = are.ascend;
            each = All-weaker (IsEntry Fits) IsParamInRange (λ entry its. record { name = its.0; number = its.1 })
                (as_params (words_of text)) are.each;
          },
          omega (arith, are.count),
        )
    by (Some place) is = (record { ascend = Ascend-nil; each = All-nil IsParamInRange }, omega arith)

-- ---- protocols

record AreOfRun (first count : ℕ) (numbers : List ℕ) : Type 0 where
  up : AllPairs (λ (earlier later : ℕ). earlier < later) numbers
  from : All (λ (n : ℕ). first ≤ n) numbers
  below : All (λ (n : ℕ). n < first + count) numbers

of_run : (test : ℕ → Bool) (first count : ℕ) → AreOfRun first count (filter test (range_with_len first count))
of_run test first zero = record {
  up = AllPairs-nil (λ (earlier later : ℕ). earlier < later);
  from = All-nil (λ (n : ℕ). first ≤ n);
  below = All-nil (λ (n : ℕ). n < first + 0);
}
of_run test first (suc count) = by (test first) (of_run test (first + 1) count)
  where
    rest : List ℕ
    rest = filter test (range_with_len (first + 1) count)

    by : (b : Bool) → AreOfRun (first + 1) count rest → AreOfRun first (suc count) (cond b (first ∷ rest) rest)
    by true more = record {
      up = AllPairs-cons (λ (earlier later : ℕ). earlier < later) first rest
          (λ k d lt. let its = more.from k d lt in omega (arith, its)) more.up;
      from = All-cons (λ (n : ℕ). first ≤ n) first rest (omega arith)
          (λ k d lt. let its = more.from k d lt in omega (arith, its));
      below = All-cons (λ (n : ℕ). n < first + suc count) first rest (omega arith)
          (λ k d lt. let its = more.below k d lt in omega (arith, its));
    }
    by false more = record {
      up = more.up;
      from = λ k d lt. let its = more.from k d lt in omega (arith, its);
      below = λ k d lt. let its = more.below k d lt in omega (arith, its);
    }

-- numbers from 0 to 63 that pass a test
numbers_ranged : (test : ℕ → Bool) → AreNumbersInRange (numbers_that test)
unfolding numbers_from
numbers_ranged test =
    let run = of_run test 0 64 in
    record { ascend = run.up; each = λ k d lt. let its = run.below k d lt in omega (arith, its) }

protocol_names : (arguments : List Argument) → wrong_protocol arguments ≡ None
    → All (λ word. IsName (left_side word)) (texts_of arguments)
protocol_names [] right = All-nil (λ word. IsName (left_side word))
protocol_names (one ∷ rest) right = by (is_protocol one.text) refl right (protocol_names rest)
  where
    by : (t : Bool) → is_protocol one.text ≡ t
        → option_map (λ (argument : Argument). argument.place)
        (if not t then Some one else find (λ (argument : Argument). not (is_protocol argument.text)) rest) ≡ None
        → (wrong_protocol rest ≡ None → All (λ word. IsName (left_side word)) (texts_of rest))
        → All (λ word. IsName (left_side word)) (one.text ∷ texts_of rest)
    by true is found more =
        All-cons (λ word. IsName (left_side word)) one.text (texts_of rest)
        (and_parts (is_name (left_side one.text)) (is_some (ranges_in (right_side one.text))) (and_parts _ _ is).1).0
        (more found)
    by false is found more = absurd (cc (found))

protocols_made : (text : List ℕ) → wrong_protocol (arguments_at 0 text) ≡ None
    → IsMade AreNumbersInRange (0 + length (words_of text)) (as_protocols (words_of text))
protocols_made text right =
    made AreNumbersInRange
    (λ list word. united_numbers (protocol.numbers_at list (left_side word)) (protocol.numbers_in word))
    (λ list word. numbers_ranged _) (words_of text) 0 [] (none_made AreNumbersInRange)
    (subst (λ (l : List (List ℕ)). All (λ word. IsName (left_side word)) l) (arguments_words 0 text)
    (protocol_names (arguments_at 0 text) right))

-- the versions of protocols that a text lists are in range
pub protocols_ranged : (text : List ℕ) → AreProtocolsInRange (protocols_in text)
protocols_ranged text = by (wrong_protocol (arguments_at 0 text)) refl
  where
    by : (wrong : Option ℕ) → wrong_protocol (arguments_at 0 text) ≡ wrong
        → AreProtocolsInRange (members_of (unless_wrong wrong (as_protocols (words_of text))))
    by None is =
        let are = protocols_made text is in
        record {
          ascend = are.ascend;
          each = All-weaker (IsEntry AreNumbersInRange) IsProtocolInRange
              (λ entry its. record { name = its.0; numbers = its.1 }) (as_protocols (words_of text)) are.each;
        }
    by (Some place) is = record { ascend = Ascend-nil; each = All-nil IsProtocolInRange }

-- ---- versions

-- the versions of Tor that a text lists are versions
pub versions_ranged : (text : List ℕ) → AreVersionsInRange (versions_in text)
versions_ranged text = by (arguments_at 0 text)
  where
    by_test : (first : Argument) (t : Bool) → are_versions first.text ≡ t
        → AreVersionsInRange
        (members_of (unless_wrong (if t then None else Some first.place) (parts_of first.text)))
    by_test first true is = record { each = AllPass-from_list_all is_version (parts_of first.text) is }
    by_test first false is = record { each = All-nil (λ text. is_version text ≡ true) }

    by : (arguments : List Argument)
        → AreVersionsInRange
        (members_of (unless_wrong (version.wrong_version_list arguments) (version.versions_in arguments)))
    by [] = record { each = All-nil (λ text. is_version text ≡ true) }
    by (first ∷ rest) = by_test first (are_versions first.text) refl
