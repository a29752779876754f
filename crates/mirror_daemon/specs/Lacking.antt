-- How many microdescriptors a mirror lacks.
use Rattle.std.specs.Prelude.{ℕ, ◌+◌, Bool, true, false, List, [], ◌∷◌, Option, Some, None, if◌then◌else◌}
use Rattle.mirror_core.specs.{Rows.{Rows, row_of}, States.Mirrored}

-- whether a row is there, and has no text
abbrev pub has_no_text : Option (Option (List ℕ)) → Bool
has_no_text None = false
has_no_text (Some None) = true
has_no_text (Some (Some text)) = false

-- whether a digest has a row without a text
abbrev pub is_lacking : Rows → List ℕ → Bool
is_lacking rows digest = has_no_text (row_of rows digest)

-- how many rows have a digest of which this is true
abbrev pub rows_where : (List ℕ → Bool) → Rows → ℕ
rows_where test [] = 0
rows_where test (row ∷ rows) = (if test row.0 then 1 else 0) + rows_where test rows

-- how many rows have no text
abbrev pub rows_lacking : Rows → ℕ
rows_lacking rows = rows_where (is_lacking rows) rows

-- how many of the microdescriptors that the held consensus names a mirror lacks
abbrev pub lacking_count : Mirrored → ℕ
lacking_count mirror = rows_lacking mirror.rows
