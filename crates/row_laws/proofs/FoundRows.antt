-- Rows of different keywords: each is found by its keyword among all that is said.
use Rattle.std.proofs.Common.{◌≡◌, Bool, true, false, List, [], ◌∷◌, ◌++◌, Option, Some, None, refl, ap, subst, ◌∙◌}
use Rattle.std.proofs.{Common.{append-nil, append_assoc}, lemmas.Bool.{and_parts, not-true}}
use Rattle.std.{proofs.lemmas.List.Elements.filter_map-append, specs.Prelude.{map, not, if◌then◌else◌}}
use Rattle.std.specs.{List.{cons_option, filter_map, find}, Option.option_map}
use Rattle.frame_terms.specs.{Keywords.same, declared.keyword.Keyword.Keyword}
use Rattle.frame_laws.proofs.{Both.both_hold, KnownWords.{same-refl, same-sym}, SaidRows.{are_apart, lack}}
use Rattle.row_laws.proofs.{Spoken.{Spoken, SpokenRow, rows_in, spoken, spoken_of}, Lookups.first_said}

module _ {F : Type 0} where
  -- what an item says, if it is of a keyword
  abbrev pub value_if : Keyword → Spoken F → Option F
  value_if keyword one = if same one.keyword keyword then Some one.value else None

  -- what all items of a keyword say
  abbrev pub values_at : List (Spoken F) → Keyword → List F
  values_at all keyword = filter_map (value_if keyword) all

  -- the first of them
  abbrev pub first_of : List F → Option F
  first_of [] = None
  first_of (f ∷ values) = Some f

  -- ---- rows that are apart are found

  mine : (keyword : Keyword) (values : List F) → values_at (map (λ (f : F). spoken keyword f) values) keyword ≡ values
  mine keyword [] = refl
  mine keyword (f ∷ values) =
      ap (λ (t : Bool). cons_option (if t then Some f else None)
      (values_at (map (λ (f : F). spoken keyword f) values) keyword))
      (same-refl keyword)
      ∙ ap (λ (l : List F). f ∷ l) (mine keyword values)

  others : (keyword other : Keyword) → same other keyword ≡ false → (values : List F)
      → values_at (map (λ (f : F). spoken other f) values) keyword ≡ []
  others keyword other apart [] = refl
  others keyword other apart (f ∷ values) =
      ap (λ (t : Bool). cons_option (if t then Some f else None)
      (values_at (map (λ (f : F). spoken other f) values) keyword))
      apart
      ∙ others keyword other apart values

module _ {K F : Type 0} where
  -- each row is found by its keyword
  abbrev pub EachFound : List (Spoken F) → List (SpokenRow K F) → Type 0
  EachFound all [] = Unit {0}
  EachFound all (one ∷ rows) = (values_at all one.row.keyword ≡ one.values) × EachFound all rows

  abbrev all_of : List (SpokenRow K F) → List (Spoken F)
  all_of rows = spoken_of (λ k f. f) rows

  lacking : (keyword : Keyword) (rows : List (SpokenRow K F)) → lack keyword (rows_in rows) ≡ true
      → values_at (all_of rows) keyword ≡ []
  lacking keyword [] apart = refl
  lacking keyword (one ∷ rows) apart =
      let parts = and_parts (not (same keyword one.row.keyword)) (lack keyword (rows_in rows)) apart in
      filter_map-append (value_if keyword) (map (λ (f : F). spoken one.row.keyword f) one.values) (all_of rows)
      ∙ ap (λ (l : List F). l ++ values_at (all_of rows) keyword)
      (others keyword one.row.keyword
      (same-sym one.row.keyword keyword ∙ not-true (same keyword one.row.keyword) parts.0) one.values)
      ∙ lacking keyword rows parts.1

  -- items in front of which none is of these rows
  abbrev NoneOf : List (Spoken F) → List (SpokenRow K F) → Type 0
  NoneOf before [] = Unit {0}
  NoneOf before (one ∷ rows) = (values_at before one.row.keyword ≡ []) × NoneOf before rows

  none_more : (before : List (Spoken F)) (one : SpokenRow K F) (rows : List (SpokenRow K F))
      → lack one.row.keyword (rows_in rows) ≡ true → NoneOf before rows
      → NoneOf (before ++ map (λ (f : F). spoken one.row.keyword f) one.values) rows
  none_more before one [] apart none = tt
  none_more before one (other ∷ rows) apart none =
      let parts = and_parts (not (same one.row.keyword other.row.keyword))
      (lack one.row.keyword (rows_in rows)) apart in
      let here = map (λ (f : F). spoken one.row.keyword f) one.values in
      both_hold (filter_map-append (value_if other.row.keyword) before here
      ∙ ap (λ (l : List F). l ++ values_at here other.row.keyword) none.0
      ∙ others other.row.keyword one.row.keyword (not-true
      (same one.row.keyword other.row.keyword) parts.0) one.values)
      (none_more before one rows parts.1 none.1)

  found_after : (before : List (Spoken F)) (rows : List (SpokenRow K F)) → are_apart (rows_in rows) ≡ true
      → NoneOf before rows → EachFound (before ++ all_of rows) rows
  found_after before [] apart none = tt
  found_after before (one ∷ rows) apart none =
      let here = map (λ (f : F). spoken one.row.keyword f) one.values in
      let k = one.row.keyword in
      let parts = and_parts (lack k (rows_in rows)) (are_apart (rows_in rows)) apart in
      both_hold (filter_map-append (value_if k) before (here ++ all_of rows)
      ∙ ap (λ (l : List F). l ++ values_at (here ++ all_of rows) k) none.0
      ∙ filter_map-append (value_if k) here (all_of rows)
      ∙ ap (λ (l : List F). l ++ values_at (all_of rows) k) (mine k one.values)
      ∙ ap (λ (l : List F). one.values ++ l) (lacking k rows parts.0)
      ∙ append-nil one.values)
      (subst (λ (l : List (Spoken F)). EachFound l rows) (append_assoc before here (all_of rows))
      (found_after (before ++ here) rows parts.1 (none_more before one rows parts.0 none.1)))

  none_in_front : (rows : List (SpokenRow K F)) → NoneOf [] rows
  none_in_front [] = tt
  none_in_front (one ∷ rows) = both_hold refl (none_in_front rows)

  pub each_found : (rows : List (SpokenRow K F)) → are_apart (rows_in rows) ≡ true → EachFound (all_of rows) rows
  each_found rows apart = found_after [] rows apart (none_in_front rows)

-- the first item of a keyword is the first of its values
pub first_is : {F : Type 0} (all : List (Spoken F)) (keyword : Keyword)
    → first_said all keyword ≡ first_of (values_at all keyword)
first_is [] keyword = refl
first_is {F} (one ∷ all) keyword = by (same one.keyword keyword) (first_is all keyword)
  where
    by : (t : Bool) → first_said all keyword ≡ first_of (values_at all keyword)
        → option_map (λ (one : Spoken F). one.value)
        (if t then Some one else find (λ (one : Spoken F). same one.keyword keyword) all)
        ≡ first_of (cons_option (if t then Some one.value else None) (values_at all keyword))
    by true rest = refl
    by false rest = rest
