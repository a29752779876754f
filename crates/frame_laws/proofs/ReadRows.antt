-- Of a section that was written row by row, the items of each row are found by its keyword, and nothing is lacking.
use Rattle.std.proofs.Common.{◌≡◌, ℕ, ◌+◌, ◌≤◌, Bool, true, false, List, [], ◌∷◌, ◌++◌, length, Option, Some, None}
use Rattle.std.proofs.{Common.{refl, sym, ap, subst, ◌∙◌, append_assoc, append-nil, arith}, lemmas.Bool.and_parts}
use Rattle.std.proofs.lemmas.{Bool.{not-true, or_from, or_parts, true_from_ne_false}, List.map-append}
use Rattle.std.{proofs.lemmas.List.{Elements.filter-append, Folds.list_any-append}, specs.Prelude.{◌&&◌, map, not}}
use Rattle.std.specs.{Prelude.if◌then◌else◌, List.find}
use Rattle.dirdoc_grammar.specs.{InPlace.EachInPlace, Writing.{AreWritable, NewItem, all_written, items_text}}
use Rattle.frame_terms.specs.{Keywords.same, Rows.is_one, Sections.{keyword_if, lacking_keyword, lacking_but, stands}}
use Rattle.frame_terms.specs.declared.{document.Taken.Taken, keyword.Keyword.Keyword, row.Row.Row}
use Rattle.frame_values.specs.Values.{item_at}
use Rattle.frame_laws.proofs.{Both.both_hold, Entries.{Entry, after_one, all_taken, item_of, taken_at}}
use Rattle.frame_laws.proofs.{KnownWords.{same-refl, same-sym}, MoreRows.{NoneStand, none_after, none_before}}
use Rattle.frame_laws.proofs.{MoreRows.stands-other, Places.{after_all, after_all-same, all_taken-append}}
use Rattle.frame_laws.proofs.{Places.{both_writable, part_in_place}, SaidRows.{AreCounted, EachNamed, IsCounted}}
use Rattle.frame_laws.proofs.SaidRows.{RowSays, are_apart, entries_of, items_at, lack, row_said, rows_of}

-- ---- the items of a keyword

module _ {V : Type 0} where
  -- of a keyword that does not stand there are none
  pub none_at : (keyword : Keyword) (taken : List (Taken V)) → stands keyword taken ≡ false
      → items_at taken keyword ≡ []
  none_at keyword [] none = refl
  none_at keyword (one ∷ taken) none =
      let parts = or_parts (same one.keyword keyword) (stands keyword taken) none in
      ap (λ (t : Bool). if t then one ∷ items_at taken keyword else items_at taken keyword) parts.0
      ∙ none_at keyword taken parts.1

  -- the first item, if there is one
  abbrev pub first_if : List (Taken V) → Option (Taken V)
  first_if [] = None
  first_if (one ∷ taken) = Some one

  by_test : (t : Bool) (one : Taken V) (found : Option (Taken V)) (items : List (Taken V)) → found ≡ first_if items
      → (if t then Some one else found) ≡ first_if (if t then one ∷ items else items)
  by_test true one found items same = refl
  by_test false one found items same = same

  -- the first item of a keyword is the one that it has
  pub item_at-first : (taken : List (Taken V)) (keyword : Keyword)
      → item_at taken keyword ≡ first_if (items_at taken keyword)
  item_at-first [] keyword = refl
  item_at-first (one ∷ taken) keyword =
      by_test (same one.keyword keyword) one (item_at taken keyword) (items_at taken keyword)
      (item_at-first taken keyword)

  differ : (one : Taken V) (more : List (Taken V)) → [] ≡ one ∷ more → ⊥
  differ one more is = cc

  -- a keyword of which there are items stands
  stands_there : (keyword : Keyword) (taken : List (Taken V)) (place : ℕ) (entries : List (Entry V))
      → items_at taken keyword ≡ all_taken place entries → 1 ≤ length entries → stands keyword taken ≡ true
  stands_there keyword taken place [] items some = absurd (omega (arith, some))
  stands_there keyword taken place (entry ∷ entries) items some =
      true_from_ne_false (stands keyword taken)
      (λ none. differ (taken_at place entry) (all_taken (after_one place entry) entries)
      (sym (none_at keyword taken none) ∙ items))

module _ {K V : Type 0} where
  -- of its row's keyword they are all
  pub all_at : (place : ℕ) (row : Row K) (entries : List (Entry V)) → EachNamed row entries
      → items_at (all_taken place entries) row.keyword ≡ all_taken place entries
  all_at place row [] named = refl
  all_at place row (entry ∷ entries) named =
      let next = after_one place entry in
      let one = taken_at place entry in
      let rest = items_at (all_taken next entries) row.keyword in
      let here : same entry.keyword row.keyword ≡ true =
      subst (λ (k : Keyword). same k row.keyword ≡ true) named.0 (same-refl row.keyword) in
      ap (λ (t : Bool). if t then one ∷ rest else rest) here
      ∙ ap (λ (l : List (Taken V)). one ∷ l) (all_at next row entries named.1)

  -- rows that are apart from a keyword have no item of it
  pub none_of_rows : (keyword : Keyword) (place : ℕ) (rows : List (RowSays K V)) → AreCounted rows
      → lack keyword (rows_of rows) ≡ true
      → stands keyword (all_taken place (entries_of rows)) ≡ false
  none_of_rows keyword place [] said apart = refl
  none_of_rows keyword place (says ∷ rows) said apart =
      let front = all_taken place says.entries in
      let next = after_all place says.entries in
      let back = all_taken next (entries_of rows) in
      let parts = and_parts (not (same keyword says.row.keyword)) (lack keyword (rows_of rows)) apart in
      ap (λ (l : List (Taken V)). stands keyword l) (all_taken-append place says.entries (entries_of rows))
      ∙ list_any-append (λ (one : Taken V). same one.keyword keyword) front back
      ∙ or_from (stands keyword front) (stands keyword back)
      (stands-other keyword place says.row says.entries said.0.named
      (same-sym says.row.keyword keyword ∙ not-true (same keyword says.row.keyword) parts.0))
      (none_of_rows keyword next rows said.1 parts.1)

  -- ---- each row

  -- a fact of each row and of the place where its items begin
  abbrev pub Each : (ℕ → RowSays K V → Type 0) → ℕ → List (RowSays K V) → Type 0
  Each P place [] = Unit {0}
  Each P place (says ∷ rows) = P place says × Each P (after_all place says.entries) rows

  -- where the items of a keyword's row begin
  abbrev pub place_of : ℕ → Keyword → List (RowSays K V) → ℕ
  place_of place keyword [] = place
  place_of place keyword (says ∷ rows) =
      if same says.row.keyword keyword then place else place_of (after_all place says.entries) keyword rows

  the_same : (a b : RowSays K V) → Some a ≡ Some b → a ≡ b
  the_same a b is = cc

  nothing_said : (says : RowSays K V) → None ≡ Some says → ⊥
  nothing_said says is = cc

  here_or_there : (t : Bool) (P : ℕ → RowSays K V → Type 0) (place next : ℕ) (other says : RowSays K V)
      (found : Option (RowSays K V))
      → P place other → (found ≡ Some says → P next says)
      → (if t then Some other else found) ≡ Some says → P (if t then place else next) says
  here_or_there true P place next other says found here there is =
      subst (λ (s : RowSays K V). P place s) (the_same other says is) here
  here_or_there false P place next other says found here there is = there is

  -- the fact of the row of a keyword
  pub of_row : (P : ℕ → RowSays K V → Type 0) (place : ℕ) (keyword : Keyword) (rows : List (RowSays K V))
      (says : RowSays K V)
      → Each P place rows → row_said keyword rows ≡ Some says → P (place_of place keyword rows) says
  of_row P place keyword [] says each is = absurd (nothing_said says is)
  of_row P place keyword (other ∷ rows) says each is =
      here_or_there (same other.row.keyword keyword) P place
      (place_of (after_all place other.entries) keyword rows) other says
      (row_said keyword rows) each.0 (of_row P (after_all place other.entries) keyword rows says each.1) is

  -- what was taken of a row's keyword is the row's items
  abbrev pub IsTaken : List (Taken V) → ℕ → RowSays K V → Type 0
  IsTaken taken place says = items_at taken says.row.keyword ≡ all_taken place says.entries

  -- after items among which none of the rows stands, this holds of each row
  each_after : (before : List (Taken V)) (place : ℕ) (rows : List (RowSays K V)) → AreCounted rows
      → are_apart (rows_of rows) ≡ true
      → NoneStand before rows → Each (IsTaken (before ++ all_taken place (entries_of rows))) place rows
  each_after before place [] said apart none = tt
  each_after before place (says ∷ rows) said apart none =
      let k = says.row.keyword in
      let front = all_taken place says.entries in
      let next = after_all place says.entries in
      let back = all_taken next (entries_of rows) in
      let test : Taken V → Bool = λ one. same one.keyword k in
      let parts = and_parts (lack k (rows_of rows)) (are_apart (rows_of rows)) apart in
      let split : before ++ all_taken place (entries_of (says ∷ rows)) ≡ before ++ (front ++ back) =
      ap (λ (l : List (Taken V)). before ++ l) (all_taken-append place says.entries (entries_of rows)) in
      let here : items_at (before ++ (front ++ back)) k ≡ front =
      filter-append test before (front ++ back)
      ∙ ap (λ (l : List (Taken V)). l ++ items_at (front ++ back) k) (none_at k before none.0)
      ∙ filter-append test front back
      ∙ ap (λ (l : List (Taken V)). l ++ items_at back k) (all_at place says.row says.entries said.0.named)
      ∙ ap (λ (l : List (Taken V)). front ++ l) (none_at k back (none_of_rows k next rows said.1 parts.0))
      ∙ append-nil front in
      let there = each_after (before ++ front) next rows said.1 parts.1
      (none_after before place says.row says.entries rows said.0.named parts.0 none.1) in
      both_hold (ap (λ (l : List (Taken V)). items_at l k) split ∙ here)
      (subst (λ (l : List (Taken V)). Each (IsTaken l) next rows) (append_assoc before front back ∙ sym split) there)

  -- The items of rows that are apart are found by the keywords of the rows.
  pub each_taken : (place : ℕ) (rows : List (RowSays K V)) → AreCounted rows → are_apart (rows_of rows) ≡ true
      → Each (IsTaken (all_taken place (entries_of rows))) place rows
  each_taken place rows said apart = each_after [] place rows said apart (none_before rows)

  -- ---- nothing is lacking

  -- of a row that has to stand nothing is lacking
  row_there : (taken : List (Taken V)) (place : ℕ) (says : RowSays K V) → IsCounted says → IsTaken taken place says
      → (is_one says.row.count && not (stands says.row.keyword taken)) ≡ false
  row_there taken place says said items =
      if_one (is_one says.row.count) (stands says.row.keyword taken)
      (λ one. stands_there says.row.keyword taken place says.entries items (said.some one))
    where
      if_one : (one there : Bool) → (one ≡ true → there ≡ true) → (one && not there) ≡ false
      if_one false there h = refl
      if_one true there h = ap not (h refl)

  -- nothing is lacking of a table whose rows these are
  pub none_lacks : (taken : List (Taken V)) (place : ℕ) (rows : List (RowSays K V)) → AreCounted rows
      → Each (IsTaken taken) place rows
      → lacking_keyword (rows_of rows) taken ≡ None
  none_lacks taken place [] said each = refl
  none_lacks taken place (says ∷ rows) said each =
      let others : Option (Row K) =
      find (λ (row : Row K). is_one row.count && not (stands row.keyword taken)) (rows_of rows) in
      ap (λ (t : Bool). keyword_if (if t then Some says.row else others)) (row_there taken place says said.0 each.0)
      ∙ none_lacks taken (after_all place says.entries) rows said.1 each.1

  -- and of one that has another row at its end, nothing but that row
  pub none_but_last : (taken : List (Taken V)) (place : ℕ) (rows : List (RowSays K V)) (last : Row K)
      → AreCounted rows
      → Each (IsTaken taken) place rows → lacking_but (rows_of rows ++ last ∷ []) last.keyword taken ≡ None
  none_but_last taken place [] last said each =
      ap (λ (t : Bool). keyword_if (if t then Some last else None))
      (it_alone (is_one last.count) (same last.keyword last.keyword) (stands last.keyword taken)
      (same-refl last.keyword))
    where
      it_alone : (one it there : Bool) → it ≡ true → (one && not it && not there) ≡ false
      it_alone one it there h = grind (arith, h)
  none_but_last taken place (says ∷ rows) last said each =
      let test : Row K → Bool =
      λ row. is_one row.count && not (same row.keyword last.keyword) && not (stands row.keyword taken) in
      ap (λ (t : Bool). keyword_if (if t then Some says.row else find test (rows_of rows ++ last ∷ [])))
      (no_less (is_one says.row.count) (same says.row.keyword last.keyword) (stands says.row.keyword taken)
      (row_there taken place says said.0 each.0))
      ∙ none_but_last taken (after_all place says.entries) rows last said.1 each.1
    where
      no_less : (one it there : Bool) → (one && not there) ≡ false → (one && not it && not there) ≡ false
      no_less false it there h = refl
      no_less true true there h = refl
      no_less true false there h = h

-- ---- what stands in the bytes

-- items may be written from a place on, and stand there
pub record Stand {V : Type 0} (limit : ℕ) (bytes : List ℕ) (place : ℕ) (entries : List (Entry V)) : Type 0 where
  pub writable : AreWritable limit place (map item_of entries)
  pub in_place : EachInPlace bytes (all_written place (map item_of entries))

-- items of two lists
pub record BothStand {V : Type 0} (limit : ℕ) (bytes : List ℕ) (place : ℕ)
    (entries others : List (Entry V)) : Type 0 where
  pub front : Stand limit bytes place entries
  pub back : Stand limit bytes (after_all place entries) others

-- The items of a row, from a place on: they are what was taken of its keyword, and stand there.
pub record IsRead {K V : Type 0} (limit : ℕ) (bytes : List ℕ) (taken : List (Taken V)) (place : ℕ)
    (says : RowSays K V) : Type 0 where
  pub items : items_at taken says.row.keyword ≡ all_taken place says.entries
  pub stand : Stand limit bytes place says.entries

-- each of these rows is read, whose items begin at a place, of what was taken
pub record AreRead {K V : Type 0} (limit : ℕ) (bytes : List ℕ) (taken : List (Taken V)) (place : ℕ)
    (rows : List (RowSays K V)) : Type 0 where
  pub each : Each (IsRead limit bytes taken) place rows

module _ {V : Type 0} where
  pub both_stand : (limit : ℕ) (bytes : List ℕ) (place : ℕ) (front back : List (Entry V))
      → Stand limit bytes place (front ++ back)
      → BothStand limit bytes place front back
  both_stand limit bytes place front back stand =
      let items = map item_of front in
      let others = map item_of back in
      let split : map item_of (front ++ back) ≡ items ++ others = map-append item_of front back in
      let end : place + length (items_text items) ≡ after_all place front = sym (after_all-same place front) in
      let write =
      both_writable limit place items others
      (subst (λ (l : List NewItem). AreWritable limit place l) split stand.writable) in
      let there =
      part_in_place bytes place items others
      (subst (λ (l : List NewItem). EachInPlace bytes (all_written place l)) split stand.in_place) in
      record {
        front = record { writable = write.front; in_place = there.front };
        back = record {
          writable = subst (λ (n : ℕ). AreWritable limit n others) end write.back;
          in_place = subst (λ (n : ℕ). EachInPlace bytes (all_written n others)) end there.back;
        };
      }

module _ {K V : Type 0} where
  each_read : (limit : ℕ) (bytes : List ℕ) (taken : List (Taken V)) (place : ℕ) (rows : List (RowSays K V))
      → Each (IsTaken taken) place rows
      → Stand limit bytes place (entries_of rows) → Each (IsRead limit bytes taken) place rows
  each_read limit bytes taken place [] each stand = tt
  each_read limit bytes taken place (says ∷ rows) each stand =
      let parts = both_stand limit bytes place says.entries (entries_of rows) stand in
      both_hold (record { items = each.0; stand = parts.front })
      (each_read limit bytes taken (after_all place says.entries) rows each.1 parts.back)

  -- rows that are apart are read whose items stand
  pub are_read : (limit : ℕ) (bytes : List ℕ) (place : ℕ) (rows : List (RowSays K V)) → AreCounted rows
      → are_apart (rows_of rows) ≡ true
      → Stand limit bytes place (entries_of rows) → AreRead limit bytes (all_taken place (entries_of rows)) place rows
  are_read limit bytes place rows said apart stand =
      record {
        each = each_read limit bytes (all_taken place (entries_of rows)) place rows
            (each_taken place rows said apart) stand;
      }

module _ {K V : Type 0} {limit : ℕ} {bytes : List ℕ} {taken : List (Taken V)} {place : ℕ} where
  -- the row of a keyword is read
  pub row_read : {rows : List (RowSays K V)} {says : RowSays K V} (keyword : Keyword)
      → AreRead limit bytes taken place rows
      → row_said keyword rows ≡ Some says → IsRead limit bytes taken (place_of place keyword rows) says
  row_read {rows} {says} keyword read is = of_row (IsRead limit bytes taken) place keyword rows says read.each is

  -- the item of a row's keyword is the first of the row
  pub item_of_row : {says : RowSays K V} → IsRead limit bytes taken place says
      → item_at taken says.row.keyword ≡ first_if (all_taken place says.entries)
  item_of_row {says} read = item_at-first taken says.row.keyword ∙ ap first_if read.items
