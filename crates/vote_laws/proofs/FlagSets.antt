-- What holds of flags holds of the set that they make.
use Rattle.std.proofs.{Common.{ℕ, Bool, true, false, List, [], ◌∷◌}, lemmas.List.Elements.{All-cons, All-head, All-nil}}
use Rattle.std.{proofs.lemmas.List.Elements.All-tail, specs.{Prelude.{All, if◌then◌else◌}, List.fold, Str.bytes_eq}}
use Rattle.dir_values.specs.{Digests.bytes_below, FlagSets.{as_set, with_flag}}

-- what holds of the flags and of one more holds of them together
pub All-with_flag : (P : List ℕ → Type 0) (flags : List (List ℕ)) (flag : List ℕ) → All P flags → P flag
    → All P (with_flag flags flag)
All-with_flag P [] flag all its = All-cons P flag [] its all
All-with_flag P (first ∷ rest) flag all its =
    by (bytes_below first flag) (bytes_eq first flag) (All-with_flag P rest flag (All-tail P first rest all) its)
  where
    by : (b e : Bool) → All P (with_flag rest flag)
        → All P (if b then first ∷ with_flag rest flag else if e then first ∷ rest else flag ∷ first ∷ rest)
    by true e later = All-cons P first (with_flag rest flag) (All-head P first rest all) later
    by false true later = all
    by false false later = All-cons P flag (first ∷ rest) its all

fold_in : (P : List ℕ → Type 0) (flags set : List (List ℕ)) → All P set → All P flags → All P (fold with_flag set flags)
fold_in P [] set its all = its
fold_in P (flag ∷ rest) set its all =
    fold_in P rest (with_flag set flag) (All-with_flag P set flag its (All-head P flag rest all)) (All-tail P flag rest all)

-- what holds of flags holds of their set
pub All-as_set : (P : List ℕ → Type 0) (flags : List (List ℕ)) → All P flags → All P (as_set flags)
All-as_set P flags all = fold_in P flags [] (All-nil P) all
