-- The names of a relay's flags.
use Rattle.std.specs.Prelude.{ℕ, Bool, List, [], ◌∷◌, codes, map, filter}
use Rattle.dir_values.specs.FlagSets.{as_set}
use Rattle.flag_rules.specs.declared.flags.Flags.{Flags}

-- each flag's name, behind whether a relay has it
abbrev pub name_table : Flags → List (Bool × List ℕ)
name_table flags =
    (flags.bad_exit, codes "BadExit")
    ∷ (flags.exit, codes "Exit")
    ∷ (flags.fast, codes "Fast")
    ∷ (flags.guard, codes "Guard")
    ∷ (flags.hs_dir, codes "HSDir")
    ∷ (flags.middle_only, codes "MiddleOnly")
    ∷ (flags.running, codes "Running")
    ∷ (flags.stable, codes "Stable")
    ∷ (flags.stale_desc, codes "StaleDesc")
    ∷ (flags.sybil, codes "Sybil")
    ∷ (flags.v2_dir, codes "V2Dir")
    ∷ (flags.valid, codes "Valid")
    ∷ []

-- the set of the names of the flags that a relay has
unfoldable pub names_of : Flags → List (List ℕ)
names_of flags = as_set (map (λ row. row.1) (filter (λ row. row.0) (name_table flags)))
