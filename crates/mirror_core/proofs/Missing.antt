-- The digests that are missing.
use Rattle.std.proofs.Common.{◌≡◌, ℕ, ◌+◌, ◌≤◌, ◌<◌, Bool, true, false, List, [], ◌∷◌, ◌++◌, length, get_or, take, drop}
use Rattle.std.proofs.{Common.{refl, sym, ap, subst, ◌∙◌, arith}, Math.Seq.take-append_seam, lemmas.List.take_all}
use Rattle.std.{proofs.lemmas.{List.{drop_all, drop_more}, Grind.common_steps}, specs.Prelude.if◌then◌else◌}
use Rattle.mirror_core.specs.{Rows.Rows, Wanting.{is_passed, missing_after, most_wanted}}

-- those that stand behind the ones before
pub record Behind (before all : List (List ℕ)) : Type 0 where
  pub rest : List (List ℕ)
  pub all_is : all ≡ before ++ rest

one_nearer : (before : List (List ℕ)) (digest : List ℕ) (all : List (List ℕ)) → Behind (before ++ digest ∷ []) all
    → Behind before all
one_nearer before digest all behind =
    record { rest = digest ∷ behind.rest; all_is = behind.all_is ∙ grind (arith, common_steps) }

no_more : (before : List (List ℕ)) → before ≡ before ++ []
no_more before = grind (arith, common_steps)

-- those before stand at the front
pub stands_first : (rows : Rows) (before digests : List (List ℕ)) → Behind before (missing_after rows before digests)
stands_first rows before [] = record { rest = []; all_is = no_more before }
stands_first rows before (digest ∷ digests) =
    by (is_passed rows before digest) (stands_first rows before digests)
    (one_nearer before digest _ (stands_first rows (before ++ digest ∷ []) digests))
  where
    by : (b : Bool) → Behind before (missing_after rows before digests)
        → Behind before (missing_after rows (before ++ digest ∷ []) digests)
        → Behind before (if b then missing_after rows before digests else missing_after rows (before ++ digest ∷ []) digests)
    by true passed other = passed
    by false passed other = other

-- once so many are found, no more are wanted
pub full : (rows : Rows) (before digests all : List (List ℕ)) → length before ≡ most_wanted
    → take most_wanted (missing_after rows before digests) ≡ all → before ≡ all
full rows before digests all is found =
    let first = stands_first rows before digests in
    sym (take-append_seam before first.rest) ∙ ap (λ (l : List (List ℕ)). take (length before) l) (sym first.all_is)
    ∙ ap (λ (n : ℕ). take n (missing_after rows before digests)) is ∙ found

-- one digest more is looked at
pub looked_at : (rows : Rows) (before new digests : List (List ℕ)) (i : ℕ) (d : List ℕ) (all : List (List ℕ))
    → i < length digests
    → new ≡ (if is_passed rows before (get_or digests i d) then before else before ++ get_or digests i d ∷ [])
    → take most_wanted (missing_after rows before (drop i digests)) ≡ all
    → take most_wanted (missing_after rows new (drop (i + 1) digests)) ≡ all
looked_at rows before new digests i d all lt new_is found =
    let digest = get_or digests i d in
    let rest = drop (i + 1) digests in
    ap (λ (l : List (List ℕ)). take most_wanted l)
    (ap (λ (l : List (List ℕ)). missing_after rows l rest) new_is ∙ by digest rest (is_passed rows before digest)
    ∙ ap (λ (l : List (List ℕ)). missing_after rows before l) (sym (drop_more digests i d lt)))
    ∙ found
  where
    by : (digest : List ℕ) (rest : List (List ℕ)) (b : Bool)
        → missing_after rows (if b then before else before ++ digest ∷ []) rest
        ≡ (if b then missing_after rows before rest else missing_after rows (before ++ digest ∷ []) rest)
    by digest rest true = refl
    by digest rest false = refl

room_for : (before : List (List ℕ)) (digest : List ℕ) (b : Bool) → length before ≤ most_wanted
    → (length before ≡ most_wanted → ⊥) → length (if b then before else before ++ digest ∷ []) ≤ most_wanted
room_for before digest true few not_full = few
room_for before digest false few not_full = grind (arith, common_steps)

-- and there is room for one more
pub no_more_than : (rows : Rows) (before new : List (List ℕ)) (digest : List ℕ) → length before ≤ most_wanted
    → (length before ≡ most_wanted → ⊥) → new ≡ (if is_passed rows before digest then before else before ++ digest ∷ [])
    → length new ≤ most_wanted
no_more_than rows before new digest few not_full is =
    subst (λ (l : List (List ℕ)). length l ≤ most_wanted) (sym is) (room_for before digest (is_passed rows before digest) few not_full)

-- those that were found are all that are wanted
pub done : (rows : Rows) (found digests : List (List ℕ)) (i : ℕ) (all : List (List ℕ)) → length found ≤ most_wanted
    → length digests ≤ i → take most_wanted (missing_after rows found (drop i digests)) ≡ all → found ≡ all
done rows found digests i all few ended is =
    sym (take_all most_wanted found few)
    ∙ ap (λ (l : List (List ℕ)). take most_wanted (missing_after rows found l)) (sym (drop_all i digests ended)) ∙ is
