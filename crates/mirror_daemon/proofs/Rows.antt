-- A mirror lacks fewer microdescriptors with each that is kept.
use Rattle.std.proofs.Common.{◌≡◌, ℕ, ◌+◌, ◌<◌, ◌≤◌, Bool, true, false, List, [], ◌∷◌, Option, Some, None, refl, sym}
use Rattle.std.{proofs.{Common.{ap, subst, ◌∙◌, arith}, lemmas.Map.Lookups.exact_bytes}, specs.Prelude.if◌then◌else◌}
use Rattle.std.specs.{Prelude.{cond, is_some}, Cmp.{Equal-is, tied_itself, Lexicographic.nat_list_cmp_total}}
use Rattle.std.specs.{Cmp.Lexicographic.slice_cmp, BTreeMap.is_at, Ordering.{is_eq, match_ordering, nat_cmp}}
use Rattle.std.specs.declared.cmp.Ordering.{Ordering, TheVariants.{Less, Equal, Greater}}
use Rattle.sha2.specs.Sha256.{sha256}
use Rattle.mirror_core.{specs.Rows.{Rows, row_of, taken_by, taking_outcome, with_row}, proofs.RowLaws.row_more}
use Rattle.mirror_core.specs.declared.taken.Taken.TheVariants as taken
use Rattle.mirror_daemon.specs.Lacking.{has_no_text, is_lacking, rows_lacking, rows_where}

abbrev finds : List ℕ → List ℕ → Bool
finds query key = is_at (slice_cmp nat_cmp query) key

same_key : (query key : List ℕ) → finds query key ≡ true → query ≡ key
same_key query key is = exact_bytes query key ((Equal-is (slice_cmp nat_cmp query key)).0 is)

finds_itself : (key : List ℕ) → finds key key ≡ true
finds_itself key = ap is_eq (tied_itself nat_list_cmp_total key)

-- a row of which a test is not true counts for nothing
where_more : (test : List ℕ → Bool) (digest : List ℕ) (text : Option (List ℕ)) (rows : Rows) → test digest ≡ false
    → rows_where test (with_row rows digest text) ≡ rows_where test rows
where_more test digest text [] is = ap (λ (b : Bool). (if b then 1 else 0) + 0) is
where_more test digest text (row ∷ rows) is =
    elim (slice_cmp nat_cmp digest row.0)
    as (λ (r : Ordering). rows_where test (match_ordering r ((digest, text) ∷ row ∷ rows) ((row.0, text) ∷ rows) (row ∷ with_row rows digest text))
    ≡ rows_where test (row ∷ rows)) [
      | Less ↦ let none : 0 + rows_where test (row ∷ rows) ≡ rows_where test (row ∷ rows) = omega arith in
          ap (λ (b : Bool). (if b then 1 else 0) + rows_where test (row ∷ rows)) is ∙ none
      | Equal ↦ refl
      | Greater ↦ ap (λ (n : ℕ). (if test row.0 then 1 else 0) + n) (where_more test digest text rows is)
    ]

one_less : (a b : Bool) (m n : ℕ) → (a ≡ true → b ≡ true) → m ≤ n → (if a then 1 else 0) + m ≤ (if b then 1 else 0) + n
one_less true true m n all less = omega (arith, less)
one_less true false m n all less = absurd (cc (all refl))
one_less false true m n all less = omega (arith, less)
one_less false false m n all less = omega (arith, less)

-- a test that is true of no more
where_less : (test other : List ℕ → Bool) (rows : Rows) → ((digest : List ℕ) → test digest ≡ true → other digest ≡ true)
    → rows_where test rows ≤ rows_where other rows
where_less test other [] all = omega arith
where_less test other (row ∷ rows) all =
    one_less (test row.0) (other row.0) (rows_where test rows) (rows_where other rows) (all row.0) (where_less test other rows all)

one_fewer : (a b : Bool) (m n : ℕ) → (a ≡ true → b ≡ true) → m < n → (if a then 1 else 0) + m < (if b then 1 else 0) + n
one_fewer true true m n all less = omega (arith, less)
one_fewer true false m n all less = absurd (cc (all refl))
one_fewer false true m n all less = omega (arith, less)
one_fewer false false m n all less = omega (arith, less)

-- and not of one that has a row
where_fewer : (test other : List ℕ → Bool) (digest : List ℕ) (rows : Rows)
    → ((each : List ℕ) → test each ≡ true → other each ≡ true) → test digest ≡ false → other digest ≡ true
    → is_some (row_of rows digest) ≡ true → rows_where test rows < rows_where other rows
where_fewer test other digest [] all is_not is there = absurd (cc there)
where_fewer test other digest (row ∷ rows) all is_not is there =
    by (where_fewer test other digest rows all is_not is) (finds digest row.0) refl there
  where
    by : (is_some (row_of rows digest) ≡ true → rows_where test rows < rows_where other rows) → (b : Bool) → finds digest row.0 ≡ b → is_some (cond b (Some row.1) (row_of rows digest)) ≡ true
        → (if test row.0 then 1 else 0) + rows_where test rows < (if other row.0 then 1 else 0) + rows_where other rows
    by later true found some =
        let key : digest ≡ row.0 = same_key digest row.0 found in
        let less = where_less test other rows all in
        subst (λ (k : List ℕ). (if test k then 1 else 0) + rows_where test rows < (if other k then 1 else 0) + rows_where other rows)
        key (rw (is_not, is) (omega (arith, less)))
    by later false found some =
        one_fewer (test row.0) (other row.0) (rows_where test rows) (rows_where other rows) (all row.0) (later some)

-- what has no text after a text was put in had none before
shown : (b : Bool) (text : List ℕ) (row : Option (Option (List ℕ))) → has_no_text (cond b (Some (Some text)) row) ≡ true
    → has_no_text row ≡ true
shown true text row is = absurd (cc is)
shown false text row is = is

no_text : (row : Option (Option (List ℕ))) → taken_by row ≡ taken.Kept → has_no_text row ≡ true
no_text None is = absurd (cc is)
no_text (Some None) is = refl
no_text (Some (Some text)) is = absurd (cc is)

some_row : (row : Option (Option (List ℕ))) → taken_by row ≡ taken.Kept → is_some row ≡ true
some_row None is = absurd (cc is)
some_row (Some row) is = refl

-- fewer are lacking once one is kept
pub kept_fewer : (rows : Rows) (text : List ℕ) → taking_outcome rows text ≡ taken.Kept
    → rows_lacking (with_row rows (sha256 text) (Some text)) < rows_lacking rows
kept_fewer rows text is =
    let digest : List ℕ = sha256 text in
    let after : Rows = with_row rows digest (Some text) in
    let found : (query : List ℕ) → row_of after query ≡ cond (finds query digest) (Some (Some text)) (row_of rows query) =
    λ query. row_more query digest (Some text) rows in
    let gone : is_lacking after digest ≡ false =
    ap has_no_text (found digest)
    ∙ ap (λ (b : Bool). has_no_text (cond b (Some (Some text)) (row_of rows digest))) (finds_itself digest) in
    subst (λ (n : ℕ). n < rows_lacking rows) (sym (where_more (is_lacking after) digest (Some text) rows gone))
    (where_fewer (is_lacking after) (is_lacking rows) digest rows
    (λ query lacks. shown (finds query digest) text (row_of rows query) (subst (λ (r : Option (Option (List ℕ))). has_no_text r ≡ true) (found query) lacks))
    gone (no_text (row_of rows digest) is) (some_row (row_of rows digest) is))
