-- Flags that pass a test, put into a set one after the other.
use Rattle.std.proofs.Common.{◌≡◌, ℕ, suc, ◌+◌, Bool, true, false, List, [], ◌∷◌, drop, Some, sym, ap, ◌∙◌, arith}
use Rattle.std.proofs.{Math.Seq.drop-cons, lemmas.Option.{get_or_from_slice_get, slice_get_within}}
use Rattle.std.specs.{Prelude.{slice_get, filter, if◌then◌else◌}, List.fold}
use Rattle.dir_values.specs.FlagSets.{with_flag}
use Rattle.field_votes.specs.Private.{with_flag_if}

-- the flag at a place, and those behind it
pub flag_before_the_rest : (flags : List (List ℕ)) (flag : List ℕ) (i : ℕ) → slice_get flags i ≡ Some flag
    → drop i flags ≡ flag ∷ drop (i + 1) flags
flag_before_the_rest flags flag i there =
    let next : suc i ≡ i + 1 = omega arith in
    drop-cons flags i [] (slice_get_within flags i flag there)
    ∙ ap (λ (f : List ℕ). f ∷ drop (suc i) flags) (get_or_from_slice_get flags i flag [] there)
    ∙ ap (λ (n : ℕ). flag ∷ drop n flags) next

-- a flag that passes is put in
kept_more : (p : List ℕ → Bool) (all set new flags : List (List ℕ)) (flag : List ℕ) (i : ℕ) → slice_get flags i ≡ Some flag → p flag ≡ true
    → new ≡ with_flag set flag → fold with_flag set (filter p (drop i flags)) ≡ all → fold with_flag new (filter p (drop (i + 1) flags)) ≡ all
kept_more p all set new flags flag i there passes is before =
    let rest = filter p (drop (i + 1) flags) in
    let shape : filter p (drop i flags) ≡ flag ∷ rest =
    ap (λ (l : List (List ℕ)). filter p l) (flag_before_the_rest flags flag i there) ∙ ap (λ (b : Bool). if b then flag ∷ rest else rest) passes in
    ap (λ (s : List (List ℕ)). fold with_flag s rest) is ∙ ap (fold with_flag set) (sym shape) ∙ before

-- another is left out
left_out : (p : List ℕ → Bool) (all set flags : List (List ℕ)) (flag : List ℕ) (i : ℕ) → slice_get flags i ≡ Some flag → p flag ≡ false
    → fold with_flag set (filter p (drop i flags)) ≡ all → fold with_flag set (filter p (drop (i + 1) flags)) ≡ all
left_out p all set flags flag i there fails before =
    let rest = filter p (drop (i + 1) flags) in
    let shape : filter p (drop i flags) ≡ rest =
    ap (λ (l : List (List ℕ)). filter p l) (flag_before_the_rest flags flag i there) ∙ ap (λ (b : Bool). if b then flag ∷ rest else rest) fails in
    ap (fold with_flag set) (sym shape) ∙ before

-- the next flag, put in where it passes
pub kept_step : (p : List ℕ → Bool) (all set new flags : List (List ℕ)) (flag : List ℕ) (i : ℕ) (wanted : Bool) → slice_get flags i ≡ Some flag
    → wanted ≡ p flag → new ≡ with_flag_if wanted set flag → fold with_flag set (filter p (drop i flags)) ≡ all
    → fold with_flag new (filter p (drop (i + 1) flags)) ≡ all
kept_step p all set new flags flag i true there passes is before = kept_more p all set new flags flag i there (sym passes) is before
kept_step p all set new flags flag i false there fails is before =
    ap (λ (s : List (List ℕ)). fold with_flag s (filter p (drop (i + 1) flags))) is ∙ left_out p all set flags flag i there (sym fails) before
