-- Microdescriptors by the digests that a consensus names (dir-spec, "Computing microdescriptors"): a row for each of these digests, each once, ascending; with
-- the microdescriptor where it is held.
use Rattle.std.specs.{Prelude.{ℕ, List, [], ◌∷◌, Option, Some, None}, Map.lookup, BTreeMap.{insert_entry, is_at}}
use Rattle.std.specs.{Cmp.Lexicographic.slice_cmp, Ordering.nat_cmp}
use Rattle.sha2.specs.Sha256.{sha256}
use Rattle.mirror_core.specs.declared.taken.Taken.{Taken}
use Rattle.mirror_core.specs.declared.taken.Taken.TheVariants as taken

-- digests, and the microdescriptor of each where it is held
abbrev pub Rows : Type 0
Rows = List (List ℕ × Option (List ℕ))

-- the row of a digest, if it has one
abbrev pub row_of : Rows → List ℕ → Option (Option (List ℕ))
row_of rows digest = lookup (is_at (slice_cmp nat_cmp digest)) rows

-- what a row has
abbrev pub text_in : Option (Option (List ℕ)) → Option (List ℕ)
text_in None = None
text_in (Some text) = text

-- the microdescriptor with a digest, if it is held
abbrev pub micro_of : Rows → List ℕ → Option (List ℕ)
micro_of rows digest = text_in (row_of rows digest)

-- rows with one for a digest, which has this
abbrev pub with_row : Rows → List ℕ → Option (List ℕ) → Rows
with_row rows digest text = insert_entry (slice_cmp nat_cmp) rows digest text

-- rows with one more for each of some digests, which has what was held of it before
abbrev pub with_rows : Rows → Rows → List (List ℕ) → Rows
with_rows before rows [] = rows
with_rows before rows (digest ∷ digests) =
    with_rows before (with_row rows digest (micro_of before digest)) digests

-- the rows of some digests, each with what was held of it before
abbrev pub rows_of : Rows → List (List ℕ) → Rows
rows_of before digests = with_rows before [] digests

-- ---- one microdescriptor

-- what comes of it, by the row of its digest
abbrev pub taken_by : Option (Option (List ℕ)) → Taken
taken_by None = taken.Unwanted
taken_by (Some None) = taken.Kept
taken_by (Some (Some held)) = taken.Had

-- what comes of it
abbrev pub taking_outcome : Rows → List ℕ → Taken
taking_outcome rows text = taken_by (row_of rows (sha256 text))

-- the rows after that: where it is kept, its row has it
abbrev pub rows_by : Rows → List ℕ → Taken → Rows
rows_by rows text taken.Kept = with_row rows (sha256 text) (Some text)
rows_by rows text taken.Had = rows
rows_by rows text taken.Unwanted = rows

-- the rows after it was handed over
abbrev pub rows_after : Rows → List ℕ → Rows
rows_after rows text = rows_by rows text (taking_outcome rows text)
