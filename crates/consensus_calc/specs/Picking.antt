-- The flags that are set, by their counts.
use Rattle.std.specs.{Prelude.{ℕ, Bool, List, [], ◌∷◌, codes, if◌then◌else◌}, Str.bytes_eq}
use Rattle.dir_values.specs.FlagSets.{with_flag}
use Rattle.compute_terms.specs.{declared.identity.EdPart.EdPart, RelayFlags.is_bare}
use Rattle.count_terms.specs.Counts.{over}

-- whether a flag is set that so many votes set, of so many that know it
abbrev pub is_set_by : EdPart → List ℕ → ℕ → ℕ → Bool
is_set_by ed flag count needed = if bytes_eq flag (codes "NoEdConsensus") then is_bare ed else over count needed

-- a set with a flag, if it is wanted there
abbrev pub with_flag_if : List (List ℕ) → List ℕ → Bool → List (List ℕ)
with_flag_if set flag wanted = if wanted then with_flag set flag else set

-- the flags that are set of those that are known
abbrev pub picked_flags : EdPart → List (List ℕ) → List ℕ → List ℕ → List (List ℕ)
picked_flags ed [] counts needed = []
picked_flags ed (flag ∷ flags) [] needed = []
picked_flags ed (flag ∷ flags) (count ∷ counts) [] = []
picked_flags ed (flag ∷ flags) (count ∷ counts) (need ∷ needed) =
    if is_set_by ed flag count need then flag ∷ picked_flags ed flags counts needed else picked_flags ed flags counts needed
