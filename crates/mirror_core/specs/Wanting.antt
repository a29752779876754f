-- Which microdescriptors are asked for next.
use Rattle.std.specs.{Prelude.{ℕ, ◌||◌, Bool, List, [], ◌∷◌, ◌++◌, take, is_some, if◌then◌else◌}, List.list_any}
use Rattle.std.specs.Str.{bytes_eq}
use Rattle.mirror_core.specs.Rows.{Rows, micro_of}

-- so many are asked for at once
abbrev pub most_wanted : ℕ
most_wanted = 92

-- whether a digest is among others
abbrev pub is_among : List (List ℕ) → List ℕ → Bool
is_among digests digest = list_any (λ other. bytes_eq other digest) digests

-- whether a digest is not to be added: its microdescriptor is held, or it stood before
abbrev pub is_passed : Rows → List (List ℕ) → List ℕ → Bool
is_passed rows before digest = is_some (micro_of rows digest) || is_among before digest

-- the digests before, and behind these the ones whose microdescriptor is not held, in their order, each once
abbrev pub missing_after : Rows → List (List ℕ) → List (List ℕ) → List (List ℕ)
missing_after rows before [] = before
missing_after rows before (digest ∷ digests) =
    if is_passed rows before digest then missing_after rows before digests
    else missing_after rows (before ++ digest ∷ []) digests

-- the digests whose microdescriptor is not held, in their order, each once
abbrev pub missing_digests : Rows → List (List ℕ) → List (List ℕ)
missing_digests rows digests = missing_after rows [] digests

-- the first 92 of these
abbrev pub first_missing : Rows → List (List ℕ) → List (List ℕ)
first_missing rows digests = take most_wanted (missing_digests rows digests)
