-- Ascending flags: the place of one more, and which flags there are.
use Rattle.std.proofs.Common.{◌≡◌, ℕ, suc, ◌+◌, Bool, true, false, List, [], ◌∷◌, refl, sym, ap, ◌∙◌, subst, arith}
use Rattle.std.{proofs.lemmas.List.Elements.{All-cons, All-nil, All-tail, All-head, All-weaker}, specs.Prelude.All}
use Rattle.std.specs.{Prelude.{insert, if◌then◌else◌, ◌||◌}, List.fold, Str.bytes_eq}
use Rattle.dir_values.specs.{Digests.bytes_below, FlagSets.{Ascend, with_flag, as_set, has_flag}, Lending.place_of}
use Rattle.dir_values.{specs.Lending.is_at, proofs.Orders.{below-trans, below_or_same, same_text, AllPairs-cons}}
use Rattle.dir_values.proofs.Orders.{AllPairs-head, AllPairs-tail, AllPairs-nil}

-- a flag that stands at its place changes nothing
pub with_flag-there : (flags : List (List ℕ)) (flag : List ℕ) → is_at flags (place_of flags flag) flag ≡ true → with_flag flags flag ≡ flags
with_flag-there [] flag = λ at. absurd cc
with_flag-there (first ∷ rest) flag =
    elim (bytes_below first flag) as (λ b. is_at (first ∷ rest) (if b then 1 + place_of rest flag else 0) flag ≡ true
    → (if b then first ∷ with_flag rest flag else if bytes_eq first flag then first ∷ rest else flag ∷ first ∷ rest) ≡ first ∷ rest) [
      | true ↦ λ at. let one : 1 + place_of rest flag ≡ suc (place_of rest flag) = omega arith in
          ap (λ (l : List (List ℕ)). first ∷ l) (with_flag-there rest flag (subst (λ (n : ℕ). is_at (first ∷ rest) n flag ≡ true) one at))
      | false ↦ λ at. rw at refl
    ]

-- a flag that does not stand at its place is put there
pub with_flag-absent : (flags : List (List ℕ)) (flag : List ℕ) → is_at flags (place_of flags flag) flag ≡ false → with_flag flags flag ≡ insert flags (place_of flags flag) flag
with_flag-absent [] flag = λ at. refl
with_flag-absent (first ∷ rest) flag =
    elim (bytes_below first flag) as (λ b. is_at (first ∷ rest) (if b then 1 + place_of rest flag else 0) flag ≡ false
    → (if b then first ∷ with_flag rest flag else if bytes_eq first flag then first ∷ rest else flag ∷ first ∷ rest)
    ≡ insert (first ∷ rest) (if b then 1 + place_of rest flag else 0) flag) [
      | true ↦ λ at. let one : 1 + place_of rest flag ≡ suc (place_of rest flag) = omega arith in
          ap (λ (l : List (List ℕ)). first ∷ l) (with_flag-absent rest flag (subst (λ (n : ℕ). is_at (first ∷ rest) n flag ≡ false) one at))
          ∙ ap (λ (n : ℕ). insert (first ∷ rest) n flag) (sym one)
      | false ↦ λ at. rw at refl
    ]

-- what holds of the flags and of one more holds of them together
All-with_flag : (P : List ℕ → Type 0) (flags : List (List ℕ)) (flag : List ℕ) → All P flags → P flag → All P (with_flag flags flag)
All-with_flag P [] flag all one = All-cons P flag [] one all
All-with_flag P (first ∷ rest) flag all one =
    elim (bytes_below first flag) as (λ b. All P (if b then first ∷ with_flag rest flag else if bytes_eq first flag then first ∷ rest else flag ∷ first ∷ rest)) [
      | true ↦ All-cons P first (with_flag rest flag) (All-head P first rest all) (All-with_flag P rest flag (All-tail P first rest all) one)
      | false ↦ elim (bytes_eq first flag) as (λ e. All P (if e then first ∷ rest else flag ∷ first ∷ rest)) [
        | true ↦ all
        | false ↦ All-cons P flag (first ∷ rest) one all
      ]
    ]

abbrev Below : List ℕ → List ℕ → Type 0
Below a b = bytes_below a b ≡ true

-- ascending flags with one more ascend
pub Ascend-with_flag : (flags : List (List ℕ)) (flag : List ℕ) → Ascend flags → Ascend (with_flag flags flag)
Ascend-with_flag [] flag up = AllPairs-cons Below flag [] (All-nil (Below flag)) up
Ascend-with_flag (first ∷ rest) flag up =
    let above = AllPairs-head Below first rest up in
    let later = AllPairs-tail Below first rest up in
    let by : (b e : Bool) → bytes_below first flag ≡ b → bytes_eq first flag ≡ e → Ascend (if b then first ∷ with_flag rest flag else if e then first ∷ rest else flag ∷ first ∷ rest) =
    λ b e. elim b as (λ b. bytes_below first flag ≡ b → bytes_eq first flag ≡ e → Ascend (if b then first ∷ with_flag rest flag else if e then first ∷ rest else flag ∷ first ∷ rest)) [
      | true ↦ λ below same. AllPairs-cons Below first (with_flag rest flag) (All-with_flag (Below first) rest flag above below) (Ascend-with_flag rest flag later)
      | false ↦ λ below. elim e as (λ e. bytes_eq first flag ≡ e → Ascend (if e then first ∷ rest else flag ∷ first ∷ rest)) [
        | true ↦ λ same. up
        | false ↦ λ same. let before = below_or_same first flag below same in
            AllPairs-cons Below flag (first ∷ rest)
            (All-cons (Below flag) first rest before (All-weaker (Below first) (Below flag) (λ x. below-trans flag first x before) rest above)) up
      ]
    ] in
    by (bytes_below first flag) (bytes_eq first flag) refl refl

-- ascending flags with more of them ascend
pub fold_ascends : (flags set : List (List ℕ)) → Ascend set → Ascend (fold with_flag set flags)
fold_ascends [] set up = up
fold_ascends (flag ∷ rest) set up = fold_ascends rest (with_flag set flag) (Ascend-with_flag set flag up)

pub Ascend-as_set : (flags : List (List ℕ)) → Ascend (as_set flags)
Ascend-as_set flags = fold_ascends flags [] (AllPairs-nil Below)

or_assoc : (a b c : Bool) → (a || (b || c)) ≡ ((a || b) || c)
or_assoc true b c = refl
or_assoc false b c = refl

or_last : (a b c : Bool) → (c || (a || b)) ≡ ((a || b) || c)
or_last true b true = refl
or_last true b false = refl
or_last false true true = refl
or_last false true false = refl
or_last false false true = refl
or_last false false false = refl

or_there : (a b c : Bool) → (c ≡ true → a ≡ true) → (a || b) ≡ ((a || b) || c)
or_there true b c h = refl
or_there false true c h = refl
or_there false false true h = absurd (let e : false ≡ true = h refl in cc)
or_there false false false h = refl

-- which flags there are once one more was put in
pub has_flag-with_flag : (set : List (List ℕ)) (flag other : List ℕ) → has_flag (with_flag set flag) other ≡ (has_flag set other || bytes_eq flag other)
has_flag-with_flag [] flag other = or_last false false (bytes_eq flag other)
has_flag-with_flag (first ∷ rest) flag other =
    let known = bytes_eq first other in
    let by : (b e : Bool) → bytes_eq first flag ≡ e → has_flag (if b then first ∷ with_flag rest flag else if e then first ∷ rest else flag ∷ first ∷ rest) other ≡ (has_flag (first ∷ rest) other || bytes_eq flag other) =
    λ b e. elim b as (λ b. bytes_eq first flag ≡ e → has_flag (if b then first ∷ with_flag rest flag else if e then first ∷ rest else flag ∷ first ∷ rest) other ≡ (has_flag (first ∷ rest) other || bytes_eq flag other)) [
      | true ↦ λ same. ap (λ (t : Bool). known || t) (has_flag-with_flag rest flag other) ∙ or_assoc known (has_flag rest other) (bytes_eq flag other)
      | false ↦ elim e as (λ e. bytes_eq first flag ≡ e → has_flag (if e then first ∷ rest else flag ∷ first ∷ rest) other ≡ (has_flag (first ∷ rest) other || bytes_eq flag other)) [
        | true ↦ λ same. or_there known (has_flag rest other) (bytes_eq flag other) (λ h. ap (λ (l : List ℕ). bytes_eq l other) (same_text first flag same) ∙ h)
        | false ↦ λ same. or_last known (has_flag rest other) (bytes_eq flag other)
      ]
    ] in
    by (bytes_below first flag) (bytes_eq first flag) refl

fold_has : (flags set : List (List ℕ)) (other : List ℕ) → has_flag (fold with_flag set flags) other ≡ (has_flag set other || has_flag flags other)
fold_has [] set other = or_last false (has_flag set other) false
fold_has (flag ∷ rest) set other =
    fold_has rest (with_flag set flag) other
    ∙ ap (λ (t : Bool). t || has_flag rest other) (has_flag-with_flag set flag other)
    ∙ sym (or_assoc (has_flag set other) (bytes_eq flag other) (has_flag rest other))

pub has_flag-as_set : (flags : List (List ℕ)) (other : List ℕ) → has_flag (as_set flags) other ≡ has_flag flags other
has_flag-as_set flags other = fold_has flags [] other
