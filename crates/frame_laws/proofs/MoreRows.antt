-- The items of a section that are written row by row are read one after the other.
use Rattle.std.proofs.Common.{◌≡◌, ℕ, ◌≤◌, Bool, true, false, List, [], ◌∷◌, ◌++◌, length, Option, refl, sym, ap, subst}
use Rattle.std.proofs.{Common.{◌∙◌, append_assoc, append-nil, arith}, lemmas.Bool.{and_parts, and_right, not-true}}
use Rattle.std.{proofs.lemmas.{Bool.or_from, List.Folds.list_any-append}, specs.Prelude.{◌&&◌, not}}
use Rattle.frame_terms.specs.{Keywords.same, Rows.is_many, Sections.stands, Tables.Tables}
use Rattle.frame_terms.specs.declared.{document.{Group.Group, Taken.Taken}, keyword.Keyword.Keyword, row.Row.Row}
use Rattle.frame_laws.proofs.{Both.both_hold, Entries.{Entry, after_one, all_taken, taken_at}, Limits.FitsIn}
use Rattle.frame_laws.proofs.{Limits.{fits_before, limit_inside}, Places.{after_all, after_all-append, after_all-back}}
use Rattle.frame_laws.proofs.SaidRows.{AreSaid, EachNamed, EachSuits, RowSays, are_apart, each_named, entries_of, lack}
use Rattle.frame_laws.proofs.{SaidRows.rows_of, Reading.AreMore, Steps.{IsInTable, IsNew, later_item_is_pushed}}

-- ---- which keywords stand

module _ {K V : Type 0} where
  -- no item of these rows stands
  abbrev pub NoneStand : List (Taken V) → List (RowSays K V) → Type 0
  NoneStand taken [] = Unit {0}
  NoneStand taken (says ∷ rows) = (stands says.row.keyword taken ≡ false) × NoneStand taken rows

  pub none_before : (rows : List (RowSays K V)) → NoneStand [] rows
  none_before [] = tt
  none_before (says ∷ rows) = both_hold refl (none_before rows)

  -- none of another keyword stands among the items of a row
  pub stands-other : (keyword : Keyword) (place : ℕ) (row : Row K) (entries : List (Entry V)) → EachNamed row entries
      → same row.keyword keyword ≡ false → stands keyword (all_taken place entries) ≡ false
  stands-other keyword place row [] named other = refl
  stands-other keyword place row (entry ∷ entries) named other =
      let next = after_one place entry in
      or_from (same entry.keyword keyword) (stands keyword (all_taken next entries))
      (subst (λ (k : Keyword). same k keyword ≡ false) named.0 other)
      (stands-other keyword next row entries named.1 other)

  -- of rows that are apart from one none stands after its items either
  pub none_after : (taken : List (Taken V)) (place : ℕ) (row : Row K) (entries : List (Entry V))
      (rows : List (RowSays K V))
      → EachNamed row entries → lack row.keyword (rows_of rows) ≡ true → NoneStand taken rows
      → NoneStand (taken ++ all_taken place entries) rows
  none_after taken place row entries [] named apart none = tt
  none_after taken place row entries (says ∷ rows) named apart none =
      let k = says.row.keyword in
      let parts = and_parts (not (same row.keyword k)) (lack row.keyword (rows_of rows)) apart in
      let here : stands k (taken ++ all_taken place entries) ≡ false =
      list_any-append (λ (one : Taken V). same one.keyword k) taken (all_taken place entries)
      ∙ or_from (stands k taken) (stands k (all_taken place entries)) none.0
      (stands-other k place row entries named (not-true (same row.keyword k) parts.0)) in
      both_hold here (none_after taken place row entries rows named parts.1 none.1)

-- ---- the items of a row

module _ {S K V X : Type 0} where
  -- the items of two lists
  pub more_both : (tables : Tables S K V X) (section : S) (first : Taken V) (taken : List (Taken V))
      (around : Option (Group S V)) (place : ℕ)
      (front back : List (Entry V)) → AreMore tables section first taken around place front
      → AreMore tables section first (taken ++ all_taken place front) around (after_all place front) back
      → AreMore tables section first taken around place (front ++ back)
  more_both tables section first taken around place [] back a b =
      subst (λ (l : List (Taken V)). AreMore tables section first l around place back) (append-nil taken) b
  more_both tables section first taken around place (entry ∷ front) back a b =
      let next = after_one place entry in
      let one = taken_at place entry in
      both_hold a.0 (more_both tables section first (taken ++ one ∷ []) around next front back a.1
      (subst (λ (l : List (Taken V)). AreMore tables section first l around (after_all next front) back)
      (sym (append_assoc taken (one ∷ []) (all_taken next front))) b))

  -- any number of them, of a row that may stand so often
  many_more : (tables : Tables S K V X) (section : S) (first : Taken V) (taken : List (Taken V))
      (around : Option (Group S V)) (place : ℕ)
      (row : Row K) (entries : List (Entry V)) → IsInTable tables section row → is_many row.count ≡ true
      → EachSuits tables row entries
      → FitsIn (limit_inside tables section around) first.place (after_all place entries)
      → AreMore tables section first taken around place entries
  many_more tables section first taken around place row [] table many suits within = tt
  many_more tables section first taken around place row (entry ∷ entries) table many suits within =
      let next = after_one place entry in
      let new : IsNew row (first ∷ taken) = ap (λ (t : Bool). not t && stands row.keyword (first ∷ taken)) many in
      let near =
      fits_before (limit_inside tables section around) first.place next (after_all next entries)
      (after_all-back next entries) within in
      both_hold (λ (across : X). later_item_is_pushed tables across section first taken around place entry row table near new
      (suits.0 across place))
      (many_more tables section first
      (taken ++ taken_at place entry ∷ []) around next row entries table many suits.1 within)

  -- one at most
  few_more : (tables : Tables S K V X) (section : S) (first : Taken V) (taken : List (Taken V))
      (around : Option (Group S V)) (place : ℕ)
      (row : Row K) (entries : List (Entry V)) → IsInTable tables section row → length entries ≤ 1
      → stands row.keyword (first ∷ taken) ≡ false
      → EachSuits tables row entries
      → FitsIn (limit_inside tables section around) first.place (after_all place entries)
      → AreMore tables section first taken around place entries
  few_more tables section first taken around place row [] table few new suits within = tt
  few_more tables section first taken around place row (entry ∷ []) table few new suits within =
      let may = and_right (not (is_many row.count)) (stands row.keyword (first ∷ taken)) new in
      both_hold (λ (across : X). later_item_is_pushed tables across section first taken around place entry row table within may
      (suits.0 across place)) tt
  few_more tables section first taken around place row (entry ∷ other ∷ entries) table few new suits within =
      absurd (omega (arith, few))

  row_more : (many : Bool) (tables : Tables S K V X) (section : S) (first : Taken V) (taken : List (Taken V))
      (around : Option (Group S V))
      (place : ℕ) (row : Row K) (entries : List (Entry V)) → is_many row.count ≡ many
      → (1 ≤ length entries → IsInTable tables section row)
      → stands row.keyword (first ∷ taken) ≡ false → (is_many row.count ≡ false → length entries ≤ 1)
      → EachSuits tables row entries
      → FitsIn (limit_inside tables section around) first.place (after_all place entries)
      → AreMore tables section first taken around place entries
  row_more many tables section first taken around place row [] is table new few suits within = tt
  row_more true tables section first taken around place row (entry ∷ entries) is table new few suits within =
      many_more tables section first taken around place row (entry ∷ entries) (table (omega arith)) is suits within
  row_more false tables section first taken around place row (entry ∷ entries) is table new few suits within =
      few_more tables section first taken around place row (entry ∷ entries) (table (omega arith))
      (few is) new suits within

  -- ---- the items of rows

  -- each row of which items are written is one of the section's table
  abbrev pub AreInTable : Tables S K V X → S → List (RowSays K V) → Type 0
  AreInTable tables section [] = Unit {0}
  AreInTable tables section (says ∷ rows) =
      (1 ≤ length says.entries → IsInTable tables section says.row) × AreInTable tables section rows

  -- The items of rows of a section's table, none twice and none that stands already, are each one more of the
  -- section.
  pub rows_more : (tables : Tables S K V X) (section : S) (first : Taken V) (taken : List (Taken V))
      (around : Option (Group S V)) (place : ℕ)
      (rows : List (RowSays K V)) → AreInTable tables section rows → AreSaid tables rows
      → are_apart (rows_of rows) ≡ true
      → NoneStand (first ∷ taken) rows
      → FitsIn (limit_inside tables section around) first.place (after_all place (entries_of rows))
      → AreMore tables section first taken around place (entries_of rows)
  rows_more tables section first taken around place [] table said apart none within = tt
  rows_more tables section first taken around place (says ∷ rows) table said apart none within =
      let limit = limit_inside tables section around in
      let front = says.entries in
      let back = entries_of rows in
      let next = after_all place front in
      let parts = and_parts (lack says.row.keyword (rows_of rows)) (are_apart (rows_of rows)) apart in
      let end : FitsIn limit first.place (after_all next back) =
      subst (λ (n : ℕ). FitsIn limit first.place n) (after_all-append place front back) within in
      more_both tables section first taken around place front back
      (row_more (is_many says.row.count) tables section first taken around place says.row says.entries refl table.0
      none.0 said.0.few said.0.suits
      (fits_before limit first.place next (after_all next back) (after_all-back next back) end))
      (rows_more tables section first (taken ++ all_taken place front) around next rows table.1 said.1 parts.1
      (none_after (first ∷ taken) place says.row front rows
      (each_named tables says.row front said.0.suits) parts.0 none.1) end)
