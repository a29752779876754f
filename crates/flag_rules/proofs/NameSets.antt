-- The set of some names, put in one after the other.
use Rattle.std.{proofs.Common.{◌≡◌, ℕ, Bool, true, false, List, [], ◌∷◌, map, refl}, specs.{Prelude.filter, List.fold}}
use Rattle.dir_values.specs.FlagSets.{with_flag}
use Rattle.flag_rules.specs.Private.{with_name}

pub with_rows : (set : List (List ℕ)) (rows : List (Bool × List ℕ))
    → fold with_flag set (map (λ row. row.1) (filter (λ row. row.0) rows)) ≡ fold
    (λ names row. with_name row.0 row.1 names) set rows
with_rows set [] = refl
with_rows set ((true, name) ∷ rows) = with_rows (with_flag set name) rows
with_rows set ((false, name) ∷ rows) = with_rows set rows
