-- Flags that ascend are the set of themselves, and one behind them all is put at the end.
use Rattle.std.proofs.Common.{◌≡◌, ℕ, suc, ◌-◌, true, List, [], ◌∷◌, ◌++◌, length, refl, sym, ap, ◌∙◌, subst}
use Rattle.std.proofs.{Common.{append-nil, append_assoc, length-append, arith}, lemmas.List.get_or_append_left}
use Rattle.std.{proofs.lemmas.List.{get_or_at, Elements.{All-nil, All-cons, All-head, All-tail}}, specs.Prelude.All}
use Rattle.std.specs.{Prelude.slice_get, List.fold, Option.option_map_or}
use Rattle.dir_values.specs.{Digests.bytes_below, FlagSets.{Ascend, with_flag}, Lending.comes_last}
use Rattle.dir_values.proofs.Orders.{below-trans, AllPairs-head, AllPairs-tail}

abbrev Below : List ℕ → List ℕ → Type 0
Below a b = bytes_below a b ≡ true

-- a flag behind all others is put at the end
pub with_last : (flags : List (List ℕ)) (flag : List ℕ) → All (λ other. Below other flag) flags → with_flag flags flag ≡ flags ++ flag ∷ []
with_last [] flag all = refl
with_last (first ∷ rest) flag all =
    rw (All-head (λ other. Below other flag) first rest all)
    (ap (λ (l : List (List ℕ)). first ∷ l) (with_last rest flag (All-tail (λ other. Below other flag) first rest all)))

-- a flag behind the last of ascending flags is behind them all
pub behind_all : (flags : List (List ℕ)) (flag : List ℕ) → Ascend flags → comes_last flags flag ≡ true → All (λ other. Below other flag) flags
behind_all [] flag up h = All-nil (λ other. Below other flag)
behind_all (first ∷ []) flag up h = All-cons (λ other. Below other flag) first [] h (All-nil (λ other. Below other flag))
behind_all (first ∷ second ∷ more) flag up h =
    let n : suc (suc (length more)) - 1 ≡ suc (suc (length more) - 1) = omega arith in
    let h' : comes_last (second ∷ more) flag ≡ true =
    subst (λ (k : ℕ). option_map_or (λ last. bytes_below last flag) (slice_get (first ∷ second ∷ more) k) true ≡ true) n h in
    let all = behind_all (second ∷ more) flag (AllPairs-tail Below first (second ∷ more) up) h' in
    let next = All-head (Below first) second more (AllPairs-head Below first (second ∷ more) up) in
    All-cons (λ other. Below other flag) first (second ∷ more)
    (below-trans first second flag next (All-head (λ other. Below other flag) second more all)) all

-- flags that go on ascending are put behind those before them
fold_ascending : (before flags : List (List ℕ)) → Ascend (before ++ flags) → fold with_flag before flags ≡ before ++ flags
fold_ascending before [] up = sym (append-nil before)
fold_ascending before (flag ∷ rest) up =
    let all : All (λ other. Below other flag) before = λ k d lt.
    let pair = up k (length before) d lt (omega (arith, length-append before (flag ∷ rest))) in
    rw (get_or_append_left before (flag ∷ rest) d k lt, get_or_at before flag rest d (length before) refl) at pair in
    ap (λ (l : List (List ℕ)). fold with_flag l rest) (with_last before flag all)
    ∙ fold_ascending (before ++ flag ∷ []) rest (subst Ascend (sym (append_assoc before (flag ∷ []) rest)) up)
    ∙ append_assoc before (flag ∷ []) rest

-- ascending flags are the set of themselves
pub set_of_ascending : (flags : List (List ℕ)) → Ascend flags → fold with_flag [] flags ≡ flags
set_of_ascending flags up = fold_ascending [] flags up

-- a flag behind the last is put at the end, and the flags ascend still
pub with_behind : (flags : List (List ℕ)) (flag : List ℕ) → Ascend flags → comes_last flags flag ≡ true → with_flag flags flag ≡ flags ++ flag ∷ []
with_behind flags flag up h = with_last flags flag (behind_all flags flag up h)
