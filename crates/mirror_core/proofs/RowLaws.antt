-- Rows, and one row more.
use Rattle.std.proofs.Common.{◌≡◌, ℕ, Bool, true, false, List, [], ◌∷◌, refl, sym, ap, subst, ◌∙◌}
use Rattle.std.proofs.lemmas.{Map.Lookups.exact_bytes, List.Elements.{All-nil, All-cons, All-head, All-tail}}
use Rattle.std.{proofs.lemmas.{Bool.false≢true, Slice.Eq.bytes_eq-Decides}, specs.Prelude.{Option, Some, None, ◌||◌}}
use Rattle.std.specs.{Prelude.{cond, is_some}, BTreeMap.is_at, Cmp.{tied_itself, alike_right, Equal-is, both_ways}}
use Rattle.std.specs.{Cmp.Lexicographic.{slice_cmp, nat_list_cmp_total}, Ordering.{is_eq, match_ordering, nat_cmp}}
use Rattle.std.specs.{Str.bytes_eq, declared.cmp.Ordering.{Ordering, TheVariants.{Less, Equal, Greater}}}
use Rattle.sha2.specs.Sha256.{sha256}
use Rattle.mirror_core.specs.{Laws.{AreRowsOf, HasDigest, HaveDigests}, Rows.{Rows, micro_of, row_of, rows_after}}
use Rattle.mirror_core.specs.Rows.{rows_by, rows_of, taken_by, taking_outcome, text_in, with_row, with_rows}
use Rattle.mirror_core.specs.{Wanting.is_among, declared.taken.Taken.Taken}
use Rattle.mirror_core.specs.declared.taken.Taken.TheVariants as taken

-- ---- keys

abbrev finds : List ℕ → List ℕ → Bool
finds query key = is_at (slice_cmp nat_cmp query) key

same_key : (query key : List ℕ) → finds query key ≡ true → query ≡ key
same_key query key is = exact_bytes query key ((Equal-is (slice_cmp nat_cmp query key)).0 is)

finds_itself : (key : List ℕ) → finds key key ≡ true
finds_itself key = ap is_eq (tied_itself nat_list_cmp_total key)

-- a query finds the key of the same bytes
pub finds_is : (query key : List ℕ) → finds query key ≡ bytes_eq key query
finds_is query key =
    both_ways (finds query key) (bytes_eq key query)
    (λ is. (bytes_eq-Decides key query).1 (sym (same_key query key is)))
    (λ is. subst (λ (k : List ℕ). finds query k ≡ true) (sym ((bytes_eq-Decides key query).0 is)) (finds_itself query))

-- ---- what is found after one row more

shadowed : {A : Type 0} (b : Bool) (x y z : A) → cond b x z ≡ cond b x (cond b y z)
shadowed true x y z = refl
shadowed false x y z = refl

swapped : {A : Type 0} (a b : Bool) (x y z : A) → (a ≡ true → b ≡ true → ⊥) → cond a x (cond b y z) ≡ cond b y (cond a x z)
swapped true true x y z apart = absurd (apart refl refl)
swapped true false x y z apart = refl
swapped false b x y z apart = refl

not_greater : Equal ≡ Greater → ⊥
not_greater is = false≢true (sym (ap is_eq is))

-- a new row is found by its digest, and each other as before
pub row_more : (query digest : List ℕ) (text : Option (List ℕ)) (rows : Rows)
    → row_of (with_row rows digest text) query ≡ cond (finds query digest) (Some text) (row_of rows query)
row_more query digest text [] = refl
row_more query digest text (row ∷ rows) =
    elim (slice_cmp nat_cmp digest row.0)
    as (λ (r : Ordering). slice_cmp nat_cmp digest row.0 ≡ r
    → row_of (match_ordering r ((digest, text) ∷ row ∷ rows) ((row.0, text) ∷ rows) (row ∷ with_row rows digest text)) query
    ≡ cond (finds query digest) (Some text) (row_of (row ∷ rows) query)) [
      | Less ↦ λ p. refl
      | Equal ↦ λ p. shadowed (finds query row.0) (Some text) (Some row.1) (row_of rows query)
          ∙ ap (λ (r : Ordering). cond (is_eq r) (Some text) (row_of (row ∷ rows) query))
          (sym (alike_right nat_list_cmp_total digest row.0 query p))
      | Greater ↦ λ p. ap (cond (finds query row.0) (Some row.1)) (row_more query digest text rows)
          ∙ swapped (finds query row.0) (finds query digest) (Some row.1) (Some text) (row_of rows query)
          (λ a b. not_greater (sym (tied_itself nat_list_cmp_total digest)
          ∙ ap (slice_cmp nat_cmp digest) (sym (same_key query digest b) ∙ same_key query row.0 a) ∙ p))
    ] refl

-- ---- the rows of some digests

one_or_more : (a b c : Bool) (text : Option (List ℕ)) (old : Option (Option (List ℕ))) → a ≡ b
    → (is_some (cond a (Some text) old) || c) ≡ (is_some old || (b || c))
one_or_more true b c text (Some row) is = refl
one_or_more true b c text None is = ap (λ (x : Bool). x || c) is
one_or_more false b c text (Some row) is = refl
one_or_more false b c text None is = ap (λ (x : Bool). x || c) is

rows_more : (before rows : Rows) (digests : List (List ℕ)) (query : List ℕ)
    → is_some (row_of (with_rows before rows digests) query) ≡ (is_some (row_of rows query) || is_among digests query)
rows_more before rows [] query = or_none (is_some (row_of rows query))
  where
    or_none : (b : Bool) → b ≡ (b || false)
    or_none true = refl
    or_none false = refl
rows_more before rows (digest ∷ digests) query =
    rows_more before (with_row rows digest (micro_of before digest)) digests query
    ∙ ap (λ (o : Option (Option (List ℕ))). is_some o || is_among digests query)
    (row_more query digest (micro_of before digest) rows)
    ∙ one_or_more (finds query digest) (bytes_eq digest query) (is_among digests query) (micro_of before digest)
    (row_of rows query) (finds_is query digest)

-- exactly these digests have one
pub rows_are : (before : Rows) (digests : List (List ℕ)) → AreRowsOf digests (rows_of before digests)
rows_are before digests query = rows_more before [] digests query

-- ---- digests

-- what is found of a digest has this digest
pub found_has : (rows : Rows) (digest : List ℕ) → HaveDigests rows → HasDigest (digest, micro_of rows digest)
found_has [] digest have = tt
found_has ((key, text) ∷ rows) digest have =
    by (found_has rows digest (All-tail HasDigest (key, text) rows have)) (finds digest key) refl
  where
    by : HasDigest (digest, micro_of rows digest) → (b : Bool) → finds digest key ≡ b
        → HasDigest (digest, text_in (cond b (Some text) (row_of rows digest)))
    by later true is = subst (λ (k : List ℕ). HasDigest (k, text)) (sym (same_key digest key is)) (All-head HasDigest (key, text) rows have)
    by later false is = later

-- one row more that has its digest
has_more : (rows : Rows) (digest : List ℕ) (text : Option (List ℕ)) → HaveDigests rows → HasDigest (digest, text)
    → HaveDigests (with_row rows digest text)
has_more [] digest text have has = All-cons HasDigest (digest, text) [] has (All-nil HasDigest)
has_more (row ∷ rows) digest text have has =
    elim (slice_cmp nat_cmp digest row.0)
    as (λ (r : Ordering). slice_cmp nat_cmp digest row.0 ≡ r
    → HaveDigests (match_ordering r ((digest, text) ∷ row ∷ rows) ((row.0, text) ∷ rows) (row ∷ with_row rows digest text))) [
      | Less ↦ λ p. All-cons HasDigest (digest, text) (row ∷ rows) has have
      | Equal ↦ λ p. All-cons HasDigest (row.0, text) rows
          (subst (λ (k : List ℕ). HasDigest (k, text)) (exact_bytes digest row.0 p) has) (All-tail HasDigest row rows have)
      | Greater ↦ λ p. All-cons HasDigest row (with_row rows digest text) (All-head HasDigest row rows have)
          (has_more rows digest text (All-tail HasDigest row rows have) has)
    ] refl

have_more : (before rows : Rows) (digests : List (List ℕ)) → HaveDigests before → HaveDigests rows
    → HaveDigests (with_rows before rows digests)
have_more before rows [] held have = have
have_more before rows (digest ∷ digests) held have =
    have_more before (with_row rows digest (micro_of before digest)) digests held
    (has_more rows digest (micro_of before digest) have (found_has before digest held))

-- so with the rows of other digests
pub rows_have : (before : Rows) (digests : List (List ℕ)) → HaveDigests before → HaveDigests (rows_of before digests)
rows_have before digests held = have_more before [] digests held (All-nil HasDigest)

-- ---- one microdescriptor

-- the rows have their digests after it too
pub taken_have : (rows : Rows) (text : List ℕ) → HaveDigests rows → HaveDigests (rows_after rows text)
taken_have rows text have = by (taking_outcome rows text)
  where
    by : (answer : Taken) → HaveDigests (rows_by rows text answer)
    by taken.Kept = has_more rows (sha256 text) (Some text) have refl
    by taken.Had = have
    by taken.Unwanted = have

some_kept : (row : Option (Option (List ℕ))) → taken_by row ≡ taken.Kept → is_some row ≡ true
some_kept None is = absurd (cc is)
some_kept (Some row) is = refl

still : (a b : Bool) (text : Option (List ℕ)) (old : Option (Option (List ℕ))) → (a ≡ true → is_some old ≡ true) → is_some old ≡ b
    → is_some (cond a (Some text) old) ≡ b
still true b text old found is = sym (found refl) ∙ is
still false b text old found is = is

-- and it is the same digests that have one
pub taken_are : (digests : List (List ℕ)) (rows : Rows) (text : List ℕ) → AreRowsOf digests rows
    → AreRowsOf digests (rows_after rows text)
taken_are digests rows text are query =
    by (taking_outcome rows text) refl
  where
    by : (answer : Taken) → taking_outcome rows text ≡ answer → is_some (row_of (rows_by rows text answer) query) ≡ is_among digests query
    by taken.Kept is =
        ap (λ (o : Option (Option (List ℕ))). is_some o) (row_more query (sha256 text) (Some text) rows)
        ∙ still (finds query (sha256 text)) (is_among digests query) (Some text) (row_of rows query)
        (λ found. subst (λ (k : List ℕ). is_some (row_of rows k) ≡ true) (sym (same_key query (sha256 text) found))
        (some_kept (row_of rows (sha256 text)) is)) (are query)
    by taken.Had is = are query
    by taken.Unwanted is = are query
