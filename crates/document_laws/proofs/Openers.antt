-- The row of a keyword, and the section that it opens.
use Rattle.std.proofs.Common.{◌≡◌, Bool, true, false, List, [], ◌∷◌, Option, Some, refl, ap, ◌∙◌}
use Rattle.std.specs.Prelude.{if◌then◌else◌}
use Rattle.frame_terms.specs.{declared.{keyword.Keyword.Keyword, row.Row.Row}, Keywords.same, Order.{opened_by, opener}}
use Rattle.frame_terms.specs.{Sections.row_of, Tables.Tables}
use Rattle.frame_laws.proofs.KnownWords.{same-sym, same-through}

module _ {S K V X : Type 0} (tables : Tables S K V X) where
  -- of a list of sections the one that a keyword opens has it as its opener
  pub opened_same : (keyword : Keyword) (list : List S) (section : S) → opened_by tables keyword list ≡ Some section
      → same (opener tables section) keyword ≡ true
  opened_same keyword [] section e = absurd (cc (e))
  opened_same keyword (other ∷ list) section e =
      by_test (same (opener tables other) keyword) refl (opened_same keyword list section) e
    where
      by_test : (test : Bool) → same (opener tables other) keyword ≡ test
          → (opened_by tables keyword list ≡ Some section → same (opener tables section) keyword ≡ true)
          → (if test then Some other else opened_by tables keyword list) ≡ Some section
          → same (opener tables section) keyword ≡ true
      by_test true is others e = cc (is, e)
      by_test false is others e = others e

-- the row of a keyword has that keyword
pub row_of-same : {K : Type 0} (rows : List (Row K)) (keyword : Keyword) (row : Row K) → row_of rows keyword ≡ Some row
    → same row.keyword keyword ≡ true
row_of-same [] keyword row e = absurd (cc (e))
row_of-same (other ∷ rows) keyword row e =
    by_test (same other.keyword keyword) refl (row_of-same rows keyword row) e
  where
    by_test : (test : Bool) → same other.keyword keyword ≡ test
        → (row_of rows keyword ≡ Some row → same row.keyword keyword ≡ true)
        → (if test then Some other else row_of rows keyword) ≡ Some row → same row.keyword keyword ≡ true
    by_test true is others e = cc (is, e)
    by_test false is others e = others e

-- keywords that are one have one row
pub row_of-one : {K : Type 0} (rows : List (Row K)) (a b : Keyword) → same a b ≡ true → row_of rows a ≡ row_of rows b
row_of-one [] a b is = refl
row_of-one (row ∷ rows) a b is =
    let one : same row.keyword a ≡ same row.keyword b =
    same-sym row.keyword a ∙ same-through a b row.keyword is ∙ same-sym b row.keyword in
    ap (λ (t : Bool). if t then Some row else row_of rows a) one
    ∙ ap (λ (r : Option (Row _)). if same row.keyword b then Some row else r) (row_of-one rows a b is)
