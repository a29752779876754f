-- Flags that ascend: none of them stands twice, and the set that they make has them in that order.
use Rattle.std.proofs.Common.{◌≡◌, ℕ, ◌+◌, Bool, true, false, cond, List, [], ◌∷◌, ◌++◌, length, get_or, Some, None}
use Rattle.std.proofs.{Common.{refl, sym, ap, ◌∙◌, append_assoc, append-nil}, lemmas.Bool.or_from}
use Rattle.std.proofs.lemmas.List.{Elements.{All-append, All-cons, All-head, All-nil, All-tail}, Folds.list_any-append}
use Rattle.std.specs.{Prelude.{All, not, ◌&&◌, ◌||◌}, List.fold, Ordering.{nat_cmp, is_eq}, Cmp.Lexicographic.slice_cmp}
use Rattle.std.specs.{Cmp.Lexicographic.texts_ties, declared.cmp.Ordering.{Ordering, TheVariants.{Less, Equal}}}
use Rattle.std.specs.{declared.cmp.Ordering.TheVariants.Greater, Str.bytes_eq}
use Rattle.dir_values.specs.{Arguments.Argument, Digests.{is_less, bytes_below}, FlagSets.{Ascend, with_flag, as_set}}
use Rattle.dir_values.{specs.FlagSets.{is_name, is_among, wrong_flag}, proofs.Orders.{AllPairs-head, AllPairs-tail}}
use Rattle.frame_laws.proofs.Words.{placed}

abbrev Below : List ℕ → List ℕ → Type 0
Below earlier later = bytes_below earlier later ≡ true

abbrev IsFlag : List ℕ → Type 0
IsFlag flag = is_name flag ≡ true

-- ---- none stands twice

abbrev New : List Argument → List ℕ → Type 0
New before flag = is_among flag before ≡ false

not_both : (r : Ordering) → is_less r ≡ true → is_eq r ≡ false
not_both Less less = refl
not_both Equal less = absurd cc
not_both Greater less = refl

-- a flag that comes before another is not that one
apart : (earlier later : List ℕ) → Below earlier later → bytes_eq earlier later ≡ false
apart earlier later below = texts_ties earlier later ∙ not_both (slice_cmp nat_cmp earlier later) below

still_new : (before : List Argument) (place : ℕ) (flag later : List ℕ) → New before later → Below flag later
    → New (before ++ record { place = place; text = flag } ∷ []) later
still_new before place flag later new below =
    let one : Argument = record { place = place; text = flag } in
    list_any-append (λ argument. bytes_eq argument.text later) before (one ∷ [])
    ∙ or_from (is_among later before) (bytes_eq flag later || false) new
    (or_from (bytes_eq flag later) false (apart flag later below) refl)

passes_after : (place : ℕ) (flags : List (List ℕ)) (before : List Argument) → All (New before) flags → Ascend flags
    → All IsFlag flags → wrong_flag before (placed place flags) ≡ None
unfolding wrong_flag
passes_after place [] before new up each = refl
passes_after place (flag ∷ flags) before new up each =
    let one : Argument = record { place = place; text = flag } in
    let next = place + length flag + 1 in
    let more = wrong_flag (before ++ one ∷ []) (placed next flags) in
    let above = AllPairs-head Below flag flags up in
    let is = All-head IsFlag flag flags each in
    let first_new = All-head (New before) flag flags new in
    let later = All-tail (New before) flag flags new in
    ap (λ (b : Bool). cond (b && not (is_among flag before)) more (Some place)) is
    ∙ ap (λ (b : Bool). cond (not b) more (Some place)) first_new
    ∙ passes_after next flags (before ++ one ∷ [])
    (λ k d within. still_new before place flag (get_or flags k d) (later k d within) (above k d within))
    (AllPairs-tail Below flag flags up) (All-tail IsFlag flag flags each)

-- flags that ascend are flags, each once
pub passes : (place : ℕ) (flags : List (List ℕ)) → Ascend flags → All (λ flag. is_name flag ≡ true) flags
    → wrong_flag [] (placed place flags) ≡ None
passes place flags up each = passes_after place flags [] (λ k d within. refl) up each

-- ---- the set of them

abbrev AreBelow : List (List ℕ) → List ℕ → Type 0
AreBelow set flag = All (λ one. bytes_below one flag ≡ true) set

-- a flag that comes after all others is put behind them
put_last : (set : List (List ℕ)) (flag : List ℕ) → AreBelow set flag → with_flag set flag ≡ set ++ flag ∷ []
put_last [] flag below = refl
put_last (first ∷ rest) flag below =
    ap (λ (b : Bool). cond b (first ∷ with_flag rest flag)
    (cond (bytes_eq first flag) (first ∷ rest) (flag ∷ first ∷ rest))) (All-head
    (λ one. bytes_below one flag ≡ true) first rest below)
    ∙ ap (λ (l : List (List ℕ)). first ∷ l)
    (put_last rest flag (All-tail (λ one. bytes_below one flag ≡ true) first rest below))

still_below : (set : List (List ℕ)) (flag later : List ℕ) → AreBelow set later → Below flag later
    → AreBelow (set ++ flag ∷ []) later
still_below set flag later old below =
    let Passes : List ℕ → Type 0 = λ one. bytes_below one later ≡ true in
    All-append Passes set (flag ∷ []) old (All-cons Passes flag [] below (All-nil Passes))

one_by_one : (flags set : List (List ℕ)) → All (AreBelow set) flags → Ascend flags
    → fold with_flag set flags ≡ set ++ flags
one_by_one [] set below up = sym (append-nil set)
one_by_one (flag ∷ flags) set below up =
    let above = AllPairs-head Below flag flags up in
    let later = All-tail (AreBelow set) flag flags below in
    ap (λ (s : List (List ℕ)). fold with_flag s flags) (put_last set flag (All-head (AreBelow set) flag flags below))
    ∙ one_by_one flags (set ++ flag ∷ [])
    (λ k d within. still_below set flag (get_or flags k d) (later k d within) (above k d within))
    (AllPairs-tail Below flag flags up)
    ∙ append_assoc set (flag ∷ []) flags

-- flags that ascend are the set of them
pub as_set-same : (flags : List (List ℕ)) → Ascend flags → as_set flags ≡ flags
as_set-same flags up =
    one_by_one flags [] (λ k d within. All-nil (λ one. bytes_below one (get_or flags k d) ≡ true)) up
