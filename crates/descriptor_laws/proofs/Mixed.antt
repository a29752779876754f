-- Items of rows between which items of other rows stand in any order.
use Rattle.std.proofs.Common.{◌≡◌, ℕ, Bool, true, false, List, [], ◌∷◌, ◌++◌, None, refl, sym, ap, ◌∙◌, append-nil}
use Rattle.std.proofs.lemmas.{Bool.{and_parts, or_from, true_from_ne_false}, List.Elements.{All-head, All-tail}}
use Rattle.std.{proofs.lemmas.List.{Elements.filter-append, Folds.list_any-append}, specs.Prelude.{All, ◌&&◌, not, map}}
use Rattle.frame_terms.specs.{Keywords.same, Rows.is_many, Sections.stands, Tables.Tables}
use Rattle.frame_terms.specs.declared.{document.Taken.Taken, keyword.Keyword.Keyword, row.Row.Row}
use Rattle.frame_laws.proofs.{Both.both_hold, Entries.{AlwaysSuits, Entry, after_one, all_taken, taken_at}}
use Rattle.frame_laws.proofs.{MoreRows.{AreInTable, NoneStand}, Places.after_all, ReadRows.{Each, IsRead, IsTaken}}
use Rattle.frame_laws.proofs.{ReadRows.{Stand, both_stand, none_at, none_of_rows}, Reading.AreMore, SaidRows.AreCounted}
use Rattle.frame_laws.proofs.{SaidRows.{RowSays, entries_of, items_at, lack, rows_of}, Steps.{IsInTable, IsNew}}
use Rattle.frame_laws.proofs.Steps.{later_item_is_pushed}

module _ {K : Type 0} where
  -- none of these keywords is one of those rows
  abbrev pub each_lacks : List (Row K) → List (Row K) → Bool
  each_lacks [] others = true
  each_lacks (row ∷ rows) others = lack row.keyword others && each_lacks rows others

module _ {S K V X : Type 0} where
  pub in_table_front : (tables : Tables S K V X) (section : S) (front back : List (RowSays K V))
      → AreInTable tables section (front ++ back) → AreInTable tables section front
  in_table_front tables section [] back are = tt
  in_table_front tables section (says ∷ front) back are =
      both_hold are.0 (in_table_front tables section front back are.1)

  pub in_table_back : (tables : Tables S K V X) (section : S) (front back : List (RowSays K V))
      → AreInTable tables section (front ++ back) → AreInTable tables section back
  in_table_back tables section [] back are = are
  in_table_back tables section (says ∷ front) back are = in_table_back tables section front back are.1

-- ---- which keywords stand

module _ {K V : Type 0} where
  pub none_of_both : (a b : List (Taken V)) (rows : List (RowSays K V)) → NoneStand a rows → NoneStand b rows
      → NoneStand (a ++ b) rows
  none_of_both a b [] first second = tt
  none_of_both a b (says ∷ rows) first second =
      let k = says.row.keyword in
      both_hold (list_any-append (λ (one : Taken V). same one.keyword k) a b ∙ or_from (stands k a) (stands k b) first.0 second.0)
      (none_of_both a b rows first.1 second.1)

  -- none of other rows stands among the items of rows
  pub none_of_others : (place : ℕ) (rows others : List (RowSays K V)) → AreCounted others
      → each_lacks (rows_of rows) (rows_of others) ≡ true → NoneStand (all_taken place (entries_of others)) rows
  none_of_others place [] others counted apart = tt
  none_of_others place (says ∷ rows) others counted apart =
      let parts = and_parts (lack says.row.keyword (rows_of others)) (each_lacks (rows_of rows) (rows_of others)) apart in
      both_hold (none_of_rows says.row.keyword place others counted parts.0)
      (none_of_others place rows others counted parts.1)

-- ---- items of several rows, each for a value

module _ {A K V : Type 0} (entry : A → Entry V) (kinds : List (Row K)) where
  -- each item has a keyword of these rows
  abbrev pub OfKinds : Type 0
  OfKinds = (k : Keyword) → lack k kinds ≡ true → (a : A) → same (entry a).keyword k ≡ false

  pub stands_not : (k : Keyword) (place : ℕ) (values : List A) → ((a : A) → same (entry a).keyword k ≡ false)
      → stands k (all_taken place (map entry values)) ≡ false
  stands_not k place [] other = refl
  stands_not k place (a ∷ values) other =
      let next = after_one place (entry a) in
      or_from (same (entry a).keyword k) (stands k (all_taken next (map entry values))) (other a)
      (stands_not k next values other)

  -- none of other rows stands among them
  pub none_of_mixed : (place : ℕ) (rows : List (RowSays K V)) (values : List A) → OfKinds
      → each_lacks (rows_of rows) kinds ≡ true → NoneStand (all_taken place (map entry values)) rows
  none_of_mixed place [] values of apart = tt
  none_of_mixed place (says ∷ rows) values of apart =
      let parts = and_parts (lack says.row.keyword kinds) (each_lacks (rows_of rows) kinds) apart in
      both_hold (stands_not says.row.keyword place values (of says.row.keyword parts.0))
      (none_of_mixed place rows values of parts.1)

module _ {A S K V X : Type 0} (tables : Tables S K V X) (section : S) (row : A → Row K) (entry : A → Entry V)
    (P : A → Type 0) (table : (a : A) → IsInTable tables section (row a))
    (many : (a : A) → is_many (row a).count ≡ true)
    (suits : (a : A) → P a → AlwaysSuits tables (row a) (entry a)) where
  -- they are each one more of the section
  pub mixed_more : (first : Taken V) (taken : List (Taken V)) (place : ℕ) (values : List A) → All P values
      → AreMore tables section first taken None place (map entry values)
  mixed_more first taken place [] are = tt
  mixed_more first taken place (a ∷ values) are =
      let new : IsNew (row a) (first ∷ taken) =
      ap (λ (t : Bool). not t && stands (row a).keyword (first ∷ taken)) (many a) in
      both_hold (λ (across : X). later_item_is_pushed tables across section first taken None place (entry a) (row a) (table a) tt new
      (suits a (All-head P a values are) across place))
      (mixed_more first (taken ++ taken_at place (entry a) ∷ []) (after_one place (entry a)) values
      (All-tail P a values are))

-- ---- the items of rows among others

module _ {K V : Type 0} where
  -- the items of rows are found by the keywords of the rows, where no other has one of these
  pub taken_among : (before taken after : List (Taken V)) (place : ℕ) (rows : List (RowSays K V))
      → Each (IsTaken taken) place rows → NoneStand before rows → NoneStand after rows
      → Each (IsTaken (before ++ (taken ++ after))) place rows
  taken_among before taken after place [] each front back = tt
  taken_among before taken after place (says ∷ rows) each front back =
      let k = says.row.keyword in
      let test : Taken V → Bool = λ one. same one.keyword k in
      both_hold (filter-append test before (taken ++ after)
      ∙ ap (λ (l : List (Taken V)). l ++ items_at (taken ++ after) k) (none_at k before front.0)
      ∙ filter-append test taken after
      ∙ ap (λ (l : List (Taken V)). items_at taken k ++ l) (none_at k after back.0)
      ∙ append-nil (items_at taken k) ∙ each.0)
      (taken_among before taken after (after_all place says.entries) rows each.1 front.1 back.1)

  -- each row is read where its items stand
  pub each_stands : (limit : ℕ) (bytes : List ℕ) (taken : List (Taken V)) (place : ℕ) (rows : List (RowSays K V))
      → Each (IsTaken taken) place rows
      → Stand limit bytes place (entries_of rows) → Each (IsRead limit bytes taken) place rows
  each_stands limit bytes taken place [] each stand = tt
  each_stands limit bytes taken place (says ∷ rows) each stand =
      let parts = both_stand limit bytes place says.entries (entries_of rows) stand in
      both_hold (record { items = each.0; stand = parts.front })
      (each_stands limit bytes taken (after_all place says.entries) rows each.1 parts.back)

module _ {V : Type 0} where
  there_is : (one : Taken V) (more : List (Taken V)) → [] ≡ one ∷ more → ⊥
  there_is one more is = cc

  -- a keyword stands that has an item
  pub stands_once : (k : Keyword) (taken : List (Taken V)) (one : Taken V) → items_at taken k ≡ one ∷ []
      → stands k taken ≡ true
  stands_once k taken one is =
      true_from_ne_false (stands k taken) (λ none. there_is one [] (sym (none_at k taken none) ∙ is))
