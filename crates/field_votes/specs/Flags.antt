-- What lists of flags say together (dir-spec, "Computing a consensus from a set of votes").
use Rattle.std.specs.Prelude.{ℕ, Bool, false, not, ◌&&◌, ◌||◌, List, [], ◌∷◌, ◌++◌, Option, count_by, filter, codes}
use Rattle.std.specs.{Prelude.if◌then◌else◌, List.{flat_map, zip}, Option.option_map_or, Str.bytes_eq}
use Rattle.dir_values.specs.FlagSets.{as_set, has_flag, with_flag}
use Rattle.count_terms.specs.Counts.{over}

-- ---- the flags that are known

-- the flags of lists, one list after the other
abbrev pub listed_flags : List (List (List ℕ)) → List (List ℕ)
listed_flags lists = flat_map (λ flags. flags) lists

-- these flags, `NoEdConsensus`, and `BadExit` where `MiddleOnly` is among them
abbrev pub with_own_flags : List (List ℕ) → List (List ℕ)
with_own_flags flags = flags ++ codes "NoEdConsensus" ∷ (if has_flag flags (codes "MiddleOnly") then codes "BadExit" ∷ [] else [])

-- the flags that some list has, with these, ascending, each once
abbrev pub known_flags : List (List (List ℕ)) → List (List ℕ)
known_flags lists = as_set (with_own_flags (listed_flags lists))

-- ---- the flags that most set

-- how many lists know a flag
abbrev pub knowing_count : List (List (List ℕ)) → List ℕ → ℕ
knowing_count known flag = count_by (λ flags. has_flag flags flag) known

-- whether a flag is set, where something is said
abbrev pub is_in : List ℕ → Option (List (List ℕ)) → Bool
is_in flag set = option_map_or (λ flags. has_flag flags flag) set false

-- how many of the lists that know a flag set it
abbrev pub setting_count : List (List (List ℕ)) → List (Option (List (List ℕ))) → List ℕ → ℕ
setting_count known set flag = count_by (λ both. has_flag both.0 flag && is_in flag both.1) (zip known set)

-- whether more than half of the lists that know a flag set it
abbrev pub is_set_by_most : List (List (List ℕ)) → List (Option (List (List ℕ))) → List ℕ → Bool
is_set_by_most known set flag = over (setting_count known set flag) (knowing_count known flag)

-- whether a flag is set by most, and is another than `NoEdConsensus`, on which no list decides
abbrev pub is_majority_flag : List (List (List ℕ)) → List (Option (List (List ℕ))) → List ℕ → Bool
is_majority_flag known set flag = not (bytes_eq flag (codes "NoEdConsensus")) && is_set_by_most known set flag

-- ---- a relay that may stand only in the middle of a path

-- whether such a relay may have a flag
abbrev pub suits_middle : List ℕ → Bool
suits_middle flag =
    not (bytes_eq flag (codes "Exit") || bytes_eq flag (codes "Guard") || bytes_eq flag (codes "HSDir") || bytes_eq flag (codes "V2Dir"))

-- the flags of such a relay: without these four, and with `BadExit`
abbrev pub middle_flags : List (List ℕ) → List (List ℕ)
middle_flags flags = with_flag (as_set (filter suits_middle flags)) (codes "BadExit")

-- the flags as a consensus lists them: those of a relay with `MiddleOnly` are of one that may stand only in the middle
abbrev pub adjusted_flags : List (List ℕ) → List (List ℕ)
adjusted_flags flags = if has_flag flags (codes "MiddleOnly") then middle_flags flags else flags

-- the flags that most set, as a consensus lists them
abbrev pub majority_flags : List (List (List ℕ)) → List (Option (List (List ℕ))) → List (List ℕ)
majority_flags known set = adjusted_flags (as_set (filter (is_majority_flag known set) (as_set (listed_flags known))))
