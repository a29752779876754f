-- Values that ascend by name: none of the names is wrong, and values that are put in one after the other stand in that
-- order.
use Rattle.std.proofs.Common.{◌≡◌, ℕ, true, List, [], ◌∷◌, ◌++◌, length, map, None, refl, sym, ap, ◌∙◌, subst}
use Rattle.std.proofs.{Common.{append-nil, append_assoc, length-append, arith}, lemmas.List.get_or_append_left}
use Rattle.std.{proofs.lemmas.List.{get_or_at, Elements.{All-cons, All-head, All-nil, All-tail}}, specs.Prelude.All}
use Rattle.std.specs.List.{fold}
use Rattle.dir_values.specs.{Arguments.{Argument, texts_of}, Digests.bytes_below, FlagSets.{is_name, wrong_flag}}
use Rattle.dir_values.proofs.{ListedFlags.{Ascends, ascends_first, ascends_next, none_wrong}, Orders.AllPairs-cons}
use Rattle.dir_values.proofs.Orders.{AllPairs-head, AllPairs-nil, AllPairs-tail, apart}
use Rattle.dir_values.specs.FlagSets as flag_sets
use Rattle.list_values.specs.{declared.named.Named.Named, Maps.{Ascend, names_of, value_at, with_value}}

abbrev Below : List ℕ → List ℕ → Type 0
Below earlier later = bytes_below earlier later ≡ true

abbrev pub IsName : List ℕ → Type 0
IsName name = is_name name ≡ true

-- ---- names that ascend

-- no byte comes before the name of a flag
below_name : (name : List ℕ) → IsName name → Below [] name
below_name [] is = absurd cc
below_name (b ∷ name) is = refl

passes_on : (whole left : List Argument) (last : List ℕ) → Ascends whole left last
    → flag_sets.Ascend (last ∷ texts_of left)
    → All IsName (texts_of left) → wrong_flag [] whole ≡ None
passes_on whole [] last walked up each = sym (none_wrong whole walked.walked)
passes_on whole (one ∷ rest) last walked up each =
    let later = texts_of rest in
    let behind : Below last one.text =
    All-head (Below last) one.text later (AllPairs-head Below last (one.text ∷ later) up) in
    passes_on whole rest one.text
    (ascends_next whole rest one last walked (All-head IsName one.text later each) behind)
    (AllPairs-tail Below last (one.text ∷ later) up) (All-tail IsName one.text later each)

-- of arguments that are names, and ascend, none is wrong
pub none_is_wrong : (arguments : List Argument) → flag_sets.Ascend (texts_of arguments)
    → All IsName (texts_of arguments) → wrong_flag [] arguments ≡ None
none_is_wrong arguments up each =
    passes_on arguments arguments [] (ascends_first arguments)
    (AllPairs-cons Below [] (texts_of arguments) (λ k d lt. below_name _ (each k d lt)) up) each

-- ---- values

module _ {V : Type 0} where
  abbrev pub Before : Named V → Named V → Type 0
  Before earlier later = bytes_below earlier.name later.name ≡ true

  -- the values come before one
  abbrev pub AreBefore : List (Named V) → Named V → Type 0
  AreBefore entries one = All (λ (other : Named V). Before other one) entries

  names_below : (first : Named V) (rest : List (Named V)) → All (Before first) rest
      → All (Below first.name) (names_of rest)
  names_below first [] all = All-nil (Below first.name)
  names_below first (next ∷ rest) all =
      All-cons (Below first.name) next.name (names_of rest) (All-head (Before first) next rest all)
      (names_below first rest (All-tail (Before first) next rest all))

  -- the names of ascending values ascend
  pub names_ascend : (entries : List (Named V)) → Ascend entries → flag_sets.Ascend (names_of entries)
  names_ascend [] up = AllPairs-nil Below
  names_ascend (first ∷ rest) up =
      AllPairs-cons Below first.name (names_of rest) (names_below first rest (AllPairs-head Before first rest up))
      (names_ascend rest (AllPairs-tail Before first rest up))

  -- a value behind all others is put at the end
  pub put_last : (entries : List (Named V)) (one : Named V) → AreBefore entries one
      → with_value entries one.name one.value ≡ entries ++ one ∷ []
  put_last [] one all = refl
  put_last (first ∷ rest) one all =
      rw (All-head (λ (other : Named V). Before other one) first rest all)
      (ap (λ (l : List (Named V)). first ∷ l)
      (put_last rest one (All-tail (λ (other : Named V). Before other one) first rest all)))

  -- and no value stands there for its name
  pub none_yet : (entries : List (Named V)) (one : Named V) → AreBefore entries one → value_at entries one.name ≡ None
  none_yet [] one all = refl
  none_yet (first ∷ rest) one all =
      rw (apart first.name one.name (All-head (λ (other : Named V). Before other one) first rest all))
      (none_yet rest one (All-tail (λ (other : Named V). Before other one) first rest all))

-- values whose words put them in one after the other
module _ {V : Type 0} (with_word : List (Named V) → List ℕ → List (Named V)) (word_of : Named V → List ℕ)
    (Is : Named V → Type 0)
    (put : (entries : List (Named V)) (one : Named V) → Is one → AreBefore entries one
    → with_word entries (word_of one) ≡ entries ++ one ∷ []) where
  put_on : (before entries : List (Named V)) → Ascend (before ++ entries) → All Is entries
      → fold with_word before (map word_of entries) ≡ before ++ entries
  put_on before [] up each = sym (append-nil before)
  put_on before (one ∷ rest) up each =
      let all : AreBefore before one = λ k d lt.
      let pair = up k (length before) d lt (omega (arith, length-append before (one ∷ rest))) in
      rw (get_or_append_left before (one ∷ rest) d k lt, get_or_at before one rest d (length before) refl) at pair in
      ap (λ (l : List (Named V)). fold with_word l (map word_of rest)) (put before one (All-head Is one rest each) all)
      ∙ put_on (before ++ one ∷ []) rest (subst Ascend (sym (append_assoc before (one ∷ []) rest)) up)
      (All-tail Is one rest each)
      ∙ append_assoc before (one ∷ []) rest

  -- values that ascend are those that their words make
  pub made_again : (entries : List (Named V)) → Ascend entries → All Is entries
      → fold with_word [] (map word_of entries) ≡ entries
  made_again entries up each = put_on [] entries up each
