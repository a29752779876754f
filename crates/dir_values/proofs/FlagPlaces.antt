-- The place of a flag among ascending flags, and whether it stands there.
use Rattle.std.proofs.Common.{◌≡◌, ℕ, zero, suc, ◌+◌, ◌<◌, ◌≤◌, Bool, true, false, List, [], ◌∷◌, length, get_or, refl}
use Rattle.std.proofs.{Common.{sym, ap, ◌∙◌, subst, ⊎_elim, arith}, lemmas.{Bool.cases_order, List.Elements.All-head}}
use Rattle.std.{proofs.lemmas.List.Elements.{All-tail, All-weaker}, specs.Prelude.{All, if◌then◌else◌}}
use Rattle.std.specs.{List.{prefix_len, Sorted.IsPartitionedBy}, Str.bytes_eq}
use Rattle.dir_values.specs.{Digests.bytes_below, FlagSets.{Ascend, has_flag}, Lending.{place_of, is_at}}
use Rattle.dir_values.proofs.Orders.{below-trans, below_or_same, apart, apart_back, AllPairs-head, AllPairs-tail}

abbrev Below : List ℕ → List ℕ → Type 0
Below a b = bytes_below a b ≡ true

-- how many pass a test in front, where all before a place pass and none does there
pub prefix_is : {A : Type 0} (p : A → Bool) (xs : List A) (k : ℕ) → k ≤ length xs → ((j : ℕ) (d : A) → j < k → p (get_or xs j d) ≡ true)
    → ((d : A) → k < length xs → p (get_or xs k d) ≡ false) → prefix_len p xs ≡ k
prefix_is p [] zero within pass stop = refl
prefix_is p [] (suc k) within pass stop = absurd (omega (arith, within))
prefix_is p (x ∷ xs) zero within pass stop = rw (stop x (omega arith)) refl
prefix_is p (x ∷ xs) (suc k) within pass stop =
    let more : prefix_len p xs ≡ k =
    prefix_is p xs k (omega (arith, within)) (λ j d lt. pass (suc j) d (omega (arith, lt))) (λ d lt. stop d (omega (arith, lt))) in
    rw (pass zero x (omega arith)) (omega (arith, more))

-- ascending flags are parted by whether they come before a flag
pub parted : (flags : List (List ℕ)) (flag : List ℕ) → Ascend flags → IsPartitionedBy (λ other. bytes_below other flag) flags
parted flags flag up i j d from within below =
    let earlier = get_or flags i d in
    let later = get_or flags j d in
    ⊎_elim (λ (same : i ≡ j). subst (λ (n : ℕ). Below (get_or flags n d) flag) (sym same) below)
    (λ rest. ⊎_elim (λ (less : i < j). below-trans earlier later flag (up i j d less within) below) (λ (more : j < i). absurd (omega (arith, from, more))) rest)
    (cases_order i j)

-- what comes before the first of ascending flags is not among them
absent : (flag : List ℕ) (flags : List (List ℕ)) → All (Below flag) flags → has_flag flags flag ≡ false
absent flag [] all = refl
absent flag (first ∷ rest) all =
    rw (apart_back flag first (All-head (Below flag) first rest all), absent flag rest (All-tail (Below flag) first rest all)) refl

-- a flag is in a set where it stands at its place
pub has_at_place : (flags : List (List ℕ)) (flag : List ℕ) → Ascend flags → has_flag flags flag ≡ is_at flags (place_of flags flag) flag
has_at_place [] flag up = refl
has_at_place (first ∷ rest) flag up = by (bytes_below first flag) refl (bytes_eq first flag) refl (has_at_place rest flag (AllPairs-tail Below first rest up))
  where
    by : (b : Bool) → bytes_below first flag ≡ b → (e : Bool) → bytes_eq first flag ≡ e
        → has_flag rest flag ≡ is_at rest (place_of rest flag) flag
        → has_flag (first ∷ rest) flag ≡ is_at (first ∷ rest) (if b then 1 + place_of rest flag else 0) flag
    by true below e same more =
        let one : suc (place_of rest flag) ≡ 1 + place_of rest flag = omega arith in
        rw (apart first flag below) (more
        ∙ ap (λ (n : ℕ). is_at (first ∷ rest) n flag) one)
    by false above true same more = rw same refl
    by false above false same more =
        let before : bytes_below flag first ≡ true = below_or_same first flag above same in
        let all = All-weaker (Below first) (Below flag) (λ x. below-trans flag first x before) rest (AllPairs-head Below first rest up) in
        rw same (absent flag rest all)
