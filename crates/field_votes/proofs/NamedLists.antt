-- Values of ascending names ascend.
use Rattle.std.proofs.{Common.{◌≡◌, ℕ, Bool, true, false, cond, List, [], ◌∷◌, map}, lemmas.List.Elements.All-nil}
use Rattle.std.{proofs.lemmas.List.Elements.{All-cons, All-head, All-tail}, specs.Prelude.{All, filter}}
use Rattle.dir_values.{specs.Digests.bytes_below, proofs.Orders.{AllPairs-cons, AllPairs-head, AllPairs-tail}}
use Rattle.dir_values.proofs.Orders.{AllPairs-nil}
use Rattle.dir_values.specs.FlagSets as flag_sets
use Rattle.list_values.specs.{declared.named.Named.Named, Maps.{named_value, Ascend}}

abbrev Below : List ℕ → List ℕ → Type 0
Below a b = bytes_below a b ≡ true

module _ {V : Type 0} (value : List ℕ → V) (test : List ℕ → Bool) where
  abbrev Before : Named V → Named V → Type 0
  Before a b = bytes_below a.name b.name ≡ true

  abbrev among : List (List ℕ) → List (Named V)
  among names = map (λ (name : List ℕ). named_value name (value name)) (filter test names)

  all_before : (first : List ℕ) (names : List (List ℕ)) → All (Below first) names → All (Before (named_value first (value first))) (among names)
  all_before first [] all = All-nil (Before (named_value first (value first)))
  all_before first (name ∷ rest) all =
      by (test name) (All-head (Below first) name rest all) (all_before first rest (All-tail (Below first) name rest all))
    where
      by : (b : Bool) → Below first name → All (Before (named_value first (value first))) (among rest)
          → All (Before (named_value first (value first))) (map (λ (n : List ℕ). named_value n (value n)) (cond b (name ∷ filter test rest) (filter test rest)))
      by true its later = All-cons (Before (named_value first (value first))) (named_value name (value name)) (among rest) its later
      by false its later = later

  pub ascend_among : (names : List (List ℕ)) → flag_sets.Ascend names → Ascend (among names)
  ascend_among [] up = AllPairs-nil Before
  ascend_among (name ∷ rest) up =
      by (test name) (all_before name rest (AllPairs-head Below name rest up)) (ascend_among rest (AllPairs-tail Below name rest up))
    where
      by : (b : Bool) → All (Before (named_value name (value name))) (among rest) → Ascend (among rest)
          → Ascend (map (λ (n : List ℕ). named_value n (value n)) (cond b (name ∷ filter test rest) (filter test rest)))
      by true all later = AllPairs-cons Before (named_value name (value name)) (among rest) all later
      by false all later = later
