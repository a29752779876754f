-- The order of rows, and of the entries that they keep.
use Rattle.std.proofs.Common.{◌≡◌, ℕ, zero, suc, ◌+◌, Bool, true, false, ◌&&◌, List, [], ◌∷◌, ◌++◌, length, map, Some}
use Rattle.std.proofs.{Common.{refl, sym, ap, subst, ◌∙◌, arith}, lemmas.List.Folds.list_all-map}
use Rattle.std.proofs.lemmas.List.{Quantifiers.all_pairs_push, Sums.AllPass-from_list_all}
use Rattle.std.{proofs.lemmas.Option.get_or_from_slice_get, specs.{List.list_all, Prelude.{All, slice_get}}}
use Rattle.std.specs.Prelude.{slice_index_or}
use Rattle.dir_values.proofs.Orders.{AllPairs-cons, AllPairs-head, AllPairs-nil, AllPairs-tail}
use Rattle.dir_values.specs.{Digests.identity_below, declared.digest.Fingerprint.Fingerprint}
use Rattle.frame_values.specs.declared.found.Span.{Span}
use Rattle.vote_terms.{proofs.Orders.below_trans, specs.{Entries.Ascending, declared.entry.EntryFacts.EntryFacts}}
use Rattle.vote_entries.specs.{Entries.entry_in, Kept.{KeptEntry, is_after}, Rows.{Ascend, kept_rows, whole_in}}
use Rattle.vote_entries.specs.declared.row.{EntryRow.EntryRow, KeptMicro.KeptMicro}

-- a row comes before another
abbrev RowBelow : EntryRow → EntryRow → Type 0
RowBelow earlier later = identity_below earlier.relay.identity later.relay.identity ≡ true

-- an entry comes before another
abbrev EntryBelow : EntryFacts → EntryFacts → Type 0
EntryBelow earlier later = identity_below earlier.identity later.identity ≡ true

-- what follows from the last test of all decides
joined : (last first : Bool) → (last ≡ true → first ≡ true) → last ≡ (first && last)
joined true first h = rw (h refl) refl
joined false true h = refl
joined false false h = refl

and_true_changes_nothing : (p : Bool) → p ≡ (p && true)
and_true_changes_nothing true = refl
and_true_changes_nothing false = refl

-- an identity comes after all entries where it comes after the last
pub last_decides : (addresses : List Span) (micros : List KeptMicro) (rows : List EntryRow) (i : ℕ) (row : EntryRow) (identity : Fingerprint)
    → Ascend rows → length rows ≡ i + 1 → slice_get rows i ≡ Some row
    → identity_below row.relay.identity identity ≡ is_after (kept_rows addresses micros rows) identity
last_decides addresses micros [] i row identity ascend count found = absurd (omega (arith, count))
last_decides addresses micros (first ∷ []) zero row identity ascend count found =
    let same : first ≡ row = cc in
    ap (λ (r : EntryRow). identity_below r.relay.identity identity) (sym same) ∙ and_true_changes_nothing (identity_below first.relay.identity identity)
last_decides addresses micros (first ∷ []) (suc i) row identity ascend count found = absurd (omega (arith, count))
last_decides addresses micros (first ∷ next ∷ rows) zero row identity ascend count found = absurd (omega (arith, count))
last_decides addresses micros (first ∷ next ∷ rows) (suc i) row identity ascend count found =
    let more = last_decides addresses micros (next ∷ rows) i row identity (AllPairs-tail RowBelow first (next ∷ rows) ascend) (omega (arith, count)) found in
    let there : slice_index_or (next ∷ rows) i row ≡ row = get_or_from_slice_get (next ∷ rows) i row row found in
    let below : identity_below first.relay.identity (slice_index_or (next ∷ rows) i row).relay.identity ≡ true = ascend zero (suc i) row (omega arith) (omega (arith, count)) in
    let below_last : identity_below first.relay.identity row.relay.identity ≡ true = subst (λ (r : EntryRow). identity_below first.relay.identity r.relay.identity ≡ true) there below in
    joined (identity_below row.relay.identity identity) (identity_below first.relay.identity identity)
    (λ after. below_trans first.relay.identity row.relay.identity identity below_last after)
    ∙ ap (λ (b : Bool). identity_below first.relay.identity identity && b) more

-- rows ascend with one more behind them, whose identity comes after those of all
pub and_one_ascends : (addresses : List Span) (micros : List KeptMicro) (rows : List EntryRow) (row : EntryRow)
    → Ascend rows → is_after (kept_rows addresses micros rows) row.relay.identity ≡ true → Ascend (rows ++ row ∷ [])
and_one_ascends addresses micros rows row ascend after =
    let below : EntryRow → Bool = λ other. identity_below other.relay.identity row.relay.identity in
    let each : list_all below rows ≡ true =
    sym (list_all-map (λ (other : KeptEntry). identity_below other.relay.identity row.relay.identity) (whole_in addresses micros) rows) ∙ after in
    all_pairs_push RowBelow rows row ascend (λ k d inside. AllPass-from_list_all below rows each k d inside)

-- what comes after an identity comes after it as an entry too
heads : (bytes : List ℕ) (addresses : List Span) (micros : List KeptMicro) (first : EntryRow) (rows : List EntryRow)
    → All (λ (later : EntryRow). identity_below first.relay.identity later.relay.identity ≡ true) rows
    → All (λ (later : EntryFacts). identity_below first.relay.identity later.identity ≡ true) (map (entry_in bytes) (kept_rows addresses micros rows))
heads bytes addresses micros first [] after k d inside = absurd (omega arith)
heads bytes addresses micros first (row ∷ rows) after zero d inside = after zero row (omega arith)
heads bytes addresses micros first (row ∷ rows) after (suc k) d inside =
    heads bytes addresses micros first rows (λ j e within. after (suc j) e (omega arith)) k d (omega arith)

-- entries whose rows ascend do so too
pub entries_ascend : (bytes : List ℕ) (addresses : List Span) (micros : List KeptMicro) (rows : List EntryRow) → Ascend rows
    → Ascending (map (entry_in bytes) (kept_rows addresses micros rows))
entries_ascend bytes addresses micros [] ascend = AllPairs-nil EntryBelow
entries_ascend bytes addresses micros (row ∷ rows) ascend =
    AllPairs-cons EntryBelow (entry_in bytes (whole_in addresses micros row)) (map (entry_in bytes) (kept_rows addresses micros rows))
    (heads bytes addresses micros row rows (AllPairs-head RowBelow row rows ascend))
    (entries_ascend bytes addresses micros rows (AllPairs-tail RowBelow row rows ascend))
