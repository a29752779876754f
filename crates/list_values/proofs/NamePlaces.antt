-- The place of a name among ascending values, and what stands there.
use Rattle.std.proofs.Common.{◌≡◌, ℕ, suc, ◌+◌, ◌<◌, ◌≤◌, Bool, true, false, List, [], ◌∷◌, None, length, get_or, refl}
use Rattle.std.proofs.{Common.{sym, ap, ◌∙◌, subst, ⊎_elim, arith}, lemmas.{Bool.cases_order, List.Elements.All-head}}
use Rattle.std.{proofs.lemmas.List.{Elements.{All-tail, All-weaker}, Sums.prefix_len_is}, specs.Prelude.All}
use Rattle.std.specs.{Prelude.if◌then◌else◌, List.{prefix_len, Sorted.IsPartitionedBy}, Str.bytes_eq}
use Rattle.dir_values.{specs.Digests.bytes_below, proofs.Orders.{below-trans, below_or_same, apart, apart_back}}
use Rattle.dir_values.proofs.Orders.{AllPairs-head, AllPairs-tail}
use Rattle.list_values.specs.{declared.named.Named.Named, Lending.{place_of, value_there}, Maps.{has_name, value_at}}
use Rattle.list_values.specs.Maps.{Ascend}

-- how many pass a test in front, where all before a place pass and none does there
pub front_is : {X : Type 0} (p : X → Bool) (xs : List X) (k : ℕ) → k ≤ length xs
    → ((j : ℕ) (d : X) → j < k → p (get_or xs j d) ≡ true) → ((d : X) → k < length xs → p (get_or xs k d) ≡ false)
    → prefix_len p xs ≡ k
front_is p [] k within pass stop = omega (arith, within)
front_is p (x ∷ xs) k within pass stop = prefix_len_is p (x ∷ xs) k x within (λ j lt. pass j x lt) (λ lt. stop x lt)

module _ {V : Type 0} where
  abbrev Before : Named V → Named V → Type 0
  Before a b = bytes_below a.name b.name ≡ true

  abbrev Above : List ℕ → Named V → Type 0
  Above name entry = bytes_below name entry.name ≡ true

  -- ascending values are parted by whether their names come before a name
  pub parted : (entries : List (Named V)) (name : List ℕ) → Ascend entries
      → IsPartitionedBy (λ (entry : Named V). bytes_below entry.name name) entries
  parted entries name up i j d from within below =
      ⊎_elim (λ (same : i ≡ j). subst (λ (n : ℕ). bytes_below (get_or entries n d).name name ≡ true) (sym same) below)
      (λ rest. ⊎_elim
      (λ (less : i < j). below-trans (get_or entries i d).name (get_or entries j d).name name (up i j d less within) below)
      (λ (more : j < i). absurd (omega (arith, from, more))) rest)
      (cases_order i j)

  -- a name that comes before the first of ascending values has none
  absent : (name : List ℕ) (entries : List (Named V)) → All (Above name) entries → value_at entries name ≡ None
  absent name [] all = refl
  absent name (first ∷ rest) all =
      let other : has_name name first ≡ false = apart_back name first.name (All-head (Above name) first rest all) in
      rw other (absent name rest (All-tail (Above name) first rest all))

  -- the value for a name stands at the name's place
  pub value_at_place : (entries : List (Named V)) (name : List ℕ) → Ascend entries
      → value_at entries name ≡ value_there entries (place_of entries name) name
  value_at_place [] name up = refl
  value_at_place (first ∷ rest) name up =
      by (bytes_below first.name name) refl (bytes_eq first.name name) refl
      (value_at_place rest name (AllPairs-tail Before first rest up))
    where
      by : (b : Bool) → bytes_below first.name name ≡ b → (e : Bool) → bytes_eq first.name name ≡ e
          → value_at rest name ≡ value_there rest (place_of rest name) name
          → value_at (first ∷ rest) name ≡ value_there (first ∷ rest) (if b then 1 + place_of rest name else 0) name
      by true below e same more =
          let one : suc (place_of rest name) ≡ 1 + place_of rest name = omega arith in
          rw (apart first.name name below) (more
          ∙ ap (λ (n : ℕ). value_there (first ∷ rest) n name) one)
      by false above true same more = rw same refl
      by false above false same more =
          let before : bytes_below name first.name ≡ true = below_or_same first.name name above same in
          let all = All-weaker (Before first) (Above name) (λ x. below-trans name first.name x.name before) rest
          (AllPairs-head Before first rest up) in
          rw same (absent name rest all)
