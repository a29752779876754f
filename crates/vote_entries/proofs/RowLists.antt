-- Rows over lists that grow.
use Rattle.std.proofs.Common.{◌≡◌, ℕ, ◌-◌, ◌<◌, ◌≤◌, List, [], ◌∷◌, ◌++◌, length, map, take, drop, Option, Some, refl}
use Rattle.std.proofs.{Common.{sym, ap, ◌∙◌, arith}, lemmas.List.{drop-append-le, length-append, length-drop}}
use Rattle.std.proofs.lemmas.{List.{length-map, map-append, take-append-drop, take-append-le}, Option.slice_get-map}
use Rattle.std.{proofs.Math.Seq.{drop-append_seam, take-length}, specs.Prelude.{option_map, slice_get}}
use Rattle.frame_terms.specs.declared.document.Taken.{Taken}
use Rattle.frame_values.specs.declared.{found.Span.Span, values.Value.Value}
use Rattle.vote_frame.specs.declared.frame.VoteValue.{VoteValue}
use Rattle.vote_entries.specs.{Entries.entry_in, Kept.{KeptEntry, entry_of}, Saying.{addresses_in, micros_in}}
use Rattle.vote_entries.specs.Rows.{AreWithin, LiesWithin, kept_in, kept_rows, row_of, run_of, whole_in}
use Rattle.vote_entries.specs.declared.row.{EntryRow.EntryRow, KeptMicro.KeptMicro, Run.Run}

-- the part that a run names stays where more follows
part_stays : {X : Type 0} (list more : List X) (run : Run) → LiesWithin (length list) run → run_of (list ++ more) run ≡ run_of list run
part_stays list more run lies =
    let first = lies.ordered in
    let last = lies.ends in
    let few : run.end - run.start ≤ length (drop run.start list) = omega (arith, first, last, length-drop run.start list) in
    ap (λ (l : List _). take (run.end - run.start) l) (drop-append-le run.start list more (omega (arith, first, last)))
    ∙ take-append-le (run.end - run.start) (drop run.start list) more few

-- what is kept of entries stays where more addresses and `m` lines follow
pub rows_stay : (addresses others : List Span) (micros more : List KeptMicro) (rows : List EntryRow)
    → AreWithin (length addresses) (length micros) rows
    → kept_rows (addresses ++ others) (micros ++ more) rows ≡ kept_rows addresses micros rows
rows_stay addresses others micros more [] lie = refl
rows_stay addresses others micros more (row ∷ rows) lie =
    let a = part_stays addresses others row.addresses lie.0 in
    let m = part_stays micros more row.micros lie.1 in
    let rest = rows_stay addresses others micros more rows lie.2 in
    λ i. kept_in row (a i) (m i) ∷ rest i

-- and where the lists of addresses and `m` lines begin as they did
pub rows_kept : (addresses a : List Span) (micros m : List KeptMicro) (rows : List EntryRow)
    → AreWithin (length addresses) (length micros) rows
    → take (length addresses) a ≡ addresses → take (length micros) m ≡ micros
    → kept_rows a m rows ≡ kept_rows addresses micros rows
rows_kept addresses a micros m rows lie front_a front_m =
    let behind_a = drop (length addresses) a in
    let behind_m = drop (length micros) m in
    let whole_a : a ≡ addresses ++ behind_a = sym (take-append-drop (length addresses) a) ∙ ap (λ (l : List Span). l ++ behind_a) front_a in
    let whole_m : m ≡ micros ++ behind_m = sym (take-append-drop (length micros) m) ∙ ap (λ (l : List KeptMicro). l ++ behind_m) front_m in
    (λ i. kept_rows (whole_a i) (whole_m i) rows) ∙ rows_stay addresses behind_a micros behind_m rows lie

-- the run behind a list is what follows
part_behind : {X : Type 0} (list more : List X) (run : Run) → run.start ≡ length list → run.end ≡ length (list ++ more)
    → run_of (list ++ more) run ≡ more
part_behind list more run first last =
    let count : run.end - run.start ≡ length more = omega (arith, first, last, length-append list more) in
    ap (λ (n : ℕ). take n (drop run.start (list ++ more))) count
    ∙ ap (λ (n : ℕ). take (length more) (drop n (list ++ more))) first
    ∙ ap (λ (l : List _). take (length more) l) (drop-append_seam list more)
    ∙ take-length more

-- an entry by its number
pub entry_at : (bytes : List ℕ) (addresses : List Span) (micros : List KeptMicro) (rows : List EntryRow) (i : ℕ) (row : EntryRow)
    → slice_get rows i ≡ Some row
    → slice_get (map (entry_in bytes) (kept_rows addresses micros rows)) i ≡ Some (entry_in bytes (whole_in addresses micros row))
entry_at bytes addresses micros rows i row found =
    slice_get-map (entry_in bytes) (kept_rows addresses micros rows) i
    ∙ ap (λ (kept : Option KeptEntry). option_map (entry_in bytes) kept)
    (slice_get-map (whole_in addresses micros) rows i ∙ ap (λ (one : Option EntryRow). option_map (whole_in addresses micros) one) found)

-- there are as many rows as entries
pub row_inside : (addresses : List Span) (micros : List KeptMicro) (rows : List EntryRow) (i : ℕ)
    → i < length (kept_rows addresses micros rows) → i < length rows
row_inside addresses micros rows i inside = let same = length-map rows (whole_in addresses micros) in omega (arith, same, inside)

-- one more row, and what it names behind the rest
pub one_more_row : (addresses others : List Span) (micros more : List KeptMicro) (rows : List EntryRow)
    (taken : List (Taken (Value VoteValue))) (a m : Run)
    → AreWithin (length addresses) (length micros) rows
    → others ≡ addresses_in taken → more ≡ micros_in taken
    → a.start ≡ length addresses → a.end ≡ length (addresses ++ others) → m.start ≡ length micros → m.end ≡ length (micros ++ more)
    → kept_rows (addresses ++ others) (micros ++ more) (rows ++ row_of taken a m ∷ []) ≡ kept_rows addresses micros rows ++ entry_of taken ∷ []
one_more_row addresses others micros more rows taken a m lie texts lines a_first a_last m_first m_last =
    let row = row_of taken a m in
    let in_a = part_behind addresses others a a_first a_last ∙ texts in
    let in_m = part_behind micros more m m_first m_last ∙ lines in
    let one : whole_in (addresses ++ others) (micros ++ more) row ∷ [] ≡ entry_of taken ∷ [] = λ i. kept_in row (in_a i) (in_m i) ∷ [] in
    map-append (whole_in (addresses ++ others) (micros ++ more)) rows (row ∷ [])
    ∙ (λ i. rows_stay addresses others micros more rows lie i ++ one i)

-- a run lies within a longer list too
lies_more : (n k : ℕ) (run : Run) → n ≤ k → LiesWithin n run → LiesWithin k run
lies_more n k run longer lies = let last = lies.ends in record { ordered = lies.ordered; ends = omega (arith, longer, last) }

-- and so do those of all rows
pub still_within : (addresses micros a m : ℕ) (rows : List EntryRow) → addresses ≤ a → micros ≤ m → AreWithin addresses micros rows → AreWithin a m rows
still_within addresses micros a m [] more_a more_m lie = tt
still_within addresses micros a m (row ∷ rows) more_a more_m lie =
    (lies_more addresses a row.addresses more_a lie.0, lies_more micros m row.micros more_m lie.1, still_within addresses micros a m rows more_a more_m lie.2)

-- with one more row whose runs lie within
pub and_one_within : (addresses micros : ℕ) (rows : List EntryRow) (row : EntryRow) → AreWithin addresses micros rows
    → LiesWithin addresses row.addresses → LiesWithin micros row.micros → AreWithin addresses micros (rows ++ row ∷ [])
and_one_within addresses micros [] row lie a m = (a, m, tt)
and_one_within addresses micros (first ∷ rows) row lie a m = (lie.0, lie.1, and_one_within addresses micros rows row lie.2 a m)
