-- What the tables say of the rows of a section that open nothing and end nothing.
use Rattle.std.proofs.Common.{◌≡◌, ◌≤◌, length, arith, Bool, true, false, List, [], ◌∷◌, ◌++◌, Option, Some, None, refl}
use Rattle.std.proofs.{Common.{ap, subst, ◌∙◌, append_assoc}, lemmas.Bool.{and_from, and_parts, not-true}}
use Rattle.std.specs.Prelude.{◌&&◌, ◌||◌, is_none, not, if◌then◌else◌}
use Rattle.frame_terms.specs.{Keywords.same, Order.{inner, is_keyword, opener}, Sections.row_of, Tables.Tables}
use Rattle.frame_terms.specs.declared.{keyword.Keyword.Keyword, row.Row.Row}
use Rattle.frame_terms.specs.declared.section.Again.TheVariants as again
use Rattle.frame_laws.proofs.{Both.both_hold, Entries.Entry, KnownWords.{same-refl, same-sym}, MoreRows.AreInTable}
use Rattle.frame_laws.proofs.{SaidRows.{RowSays, are_apart, lack, rows_of}, Steps.IsInTable}

-- ---- the row of a keyword

module _ {K : Type 0} where
  -- of rows that are apart from a keyword one is apart
  pub apart_from : (keyword : Keyword) (front : List (Row K)) (row : Row K) (back : List (Row K))
      → lack keyword (front ++ row ∷ back) ≡ true
      → same keyword row.keyword ≡ false
  apart_from keyword [] row back apart =
      not-true (same keyword row.keyword) (and_parts (not (same keyword row.keyword)) (lack keyword back) apart).0
  apart_from keyword (other ∷ front) row back apart =
      apart_from keyword front row back
      (and_parts (not (same keyword other.keyword)) (lack keyword (front ++ row ∷ back)) apart).1

  -- a row of a table is the row of its keyword
  pub row_of-there : (front : List (Row K)) (row : Row K) (back : List (Row K))
      → are_apart (front ++ row ∷ back) ≡ true
      → row_of (front ++ row ∷ back) row.keyword ≡ Some row
  row_of-there [] row back apart =
      ap (λ (t : Bool). if t then Some row else row_of back row.keyword) (same-refl row.keyword)
  row_of-there (other ∷ front) row back apart =
      let all = front ++ row ∷ back in
      let parts = and_parts (lack other.keyword all) (are_apart all) apart in
      ap (λ (t : Bool). if t then Some other else row_of all row.keyword)
      (apart_from other.keyword front row back parts.0)
      ∙ row_of-there front row back parts.1

  -- of rows that are apart the front ones are
  lack_front : (keyword : Keyword) (front back : List (Row K)) → lack keyword (front ++ back) ≡ true
      → lack keyword front ≡ true
  lack_front keyword [] back apart = refl
  lack_front keyword (row ∷ front) back apart =
      let parts = and_parts (not (same keyword row.keyword)) (lack keyword (front ++ back)) apart in
      and_from (not (same keyword row.keyword)) (lack keyword front) parts.0 (lack_front keyword front back parts.1)

  pub apart_front : (front back : List (Row K)) → are_apart (front ++ back) ≡ true → are_apart front ≡ true
  apart_front [] back apart = refl
  apart_front (row ∷ front) back apart =
      let parts = and_parts (lack row.keyword (front ++ back)) (are_apart (front ++ back)) apart in
      and_from (lack row.keyword front) (are_apart front) (lack_front row.keyword front back parts.0)
      (apart_front front back parts.1)

  -- a row behind others that are apart from it is none of theirs
  pub lack_last : (front : List (Row K)) (last : Row K) → are_apart (front ++ last ∷ []) ≡ true
      → lack last.keyword front ≡ true
  lack_last [] last apart = refl
  lack_last (row ∷ front) last apart =
      let parts = and_parts (lack row.keyword (front ++ last ∷ [])) (are_apart (front ++ last ∷ [])) apart in
      and_from (not (same last.keyword row.keyword)) (lack last.keyword front)
      (ap not (same-sym last.keyword row.keyword ∙ apart_from row.keyword front last [] parts.0))
      (lack_last front last parts.1)

-- ---- the rows in the middle of a table

module _ {S : Type 0} where
  no_section : (found : Option S) → is_none found ≡ true → found ≡ None
  no_section None is = refl
  no_section (Some section) is = absurd (cc)

module _ {S K V X : Type 0} where
  -- the item of a row opens nothing and ends nothing
  abbrev pub is_plain : Tables S K V X → S → Row K → Bool
  is_plain tables section row =
      not (is_keyword ((tables.shape section).last) row.keyword)
      && (not (same (opener tables section) row.keyword) && is_none (inner tables section row.keyword))

module _ {V : Type 0} where
  -- nothing is written of a row
  abbrev pub is_empty : List (Entry V) → Bool
  is_empty [] = true
  is_empty (entry ∷ entries) = false

module _ {S K V X : Type 0} where
  -- each row of which items are written is plain
  abbrev pub are_plain : Tables S K V X → S → List (RowSays K V) → Bool
  are_plain tables section [] = true
  are_plain tables section (says ∷ rows) =
      (is_plain tables section says.row || is_empty says.entries) && are_plain tables section rows

  in_table : (tables : Tables S K V X) (section : S) (row : Row K)
      → row_of (tables.rows section) row.keyword ≡ Some row
      → is_plain tables section row ≡ true → IsInTable tables section row
  in_table tables section row there plain =
      let k = row.keyword in
      let is_last = is_keyword ((tables.shape section).last) k in
      let opens = same (opener tables section) k in
      let enters_none = is_none (inner tables section k) in
      let first = and_parts (not is_last) (not opens && enters_none) plain in
      let second = and_parts (not opens) enters_none first.1 in
      record {
        here = record {
          row_there = there;
          not_last = not-true is_last first.0;
          begins_nothing =
              ap (λ (t : Bool). if t then (tables.shape section).again else again.Nothing) (not-true opens second.0);
        };
        enters_none = no_section (inner tables section k) second.1;
      }

  in_table_if : (tables : Tables S K V X) (section : S) (row : Row K) (entries : List (Entry V))
      → row_of (tables.rows section) row.keyword ≡ Some row → (is_plain tables section row || is_empty entries) ≡ true
      → 1 ≤ length entries → IsInTable tables section row
  in_table_if tables section row [] there plain some = absurd (omega (arith, some))
  in_table_if tables section row (entry ∷ entries) there plain some =
      in_table tables section row there (or_false (is_plain tables section row) plain)
    where
      or_false : (t : Bool) → (t || false) ≡ true → t ≡ true
      or_false true is = refl
      or_false false is = is

  each_in_table : (tables : Tables S K V X) (section : S) (front : List (Row K)) (middle : List (RowSays K V))
      (back : List (Row K))
      → front ++ (rows_of middle ++ back) ≡ tables.rows section → are_apart (tables.rows section) ≡ true
      → are_plain tables section middle ≡ true → AreInTable tables section middle
  each_in_table tables section front [] back is apart plain = tt
  each_in_table tables section front (says ∷ middle) back is apart plain =
      let row = says.row in
      let more = rows_of middle ++ back in
      let there : row_of (tables.rows section) row.keyword ≡ Some row =
      subst (λ (l : List (Row K)). row_of l row.keyword ≡ Some row) is
      (row_of-there front row more (ap are_apart is ∙ apart)) in
      let parts =
      and_parts (is_plain tables section row || is_empty says.entries) (are_plain tables section middle) plain in
      both_hold (in_table_if tables section row says.entries there parts.0)
      (each_in_table tables section (front ++ row ∷ []) middle back
      (append_assoc front (row ∷ []) more ∙ is) apart parts.1)

  -- Rows that stand in a table behind its first one, and before others or none.
  pub middle_in_table : (tables : Tables S K V X) (section : S) (first : Row K) (middle : List (RowSays K V))
      (back : List (Row K))
      → first ∷ (rows_of middle ++ back) ≡ tables.rows section → are_apart (tables.rows section) ≡ true
      → are_plain tables section middle ≡ true → AreInTable tables section middle
  middle_in_table tables section first middle back is apart plain =
      each_in_table tables section (first ∷ []) middle back is apart plain
