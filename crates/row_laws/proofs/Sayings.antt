-- Rows that are written say what they mean, where their items stand.
use Rattle.std.proofs.Common.{◌≡◌, ℕ, ◌+◌, ◌≤◌, true, false, List, [], ◌∷◌, ◌++◌, length, suc, refl, ap, ◌∙◌, arith}
use Rattle.std.{proofs.lemmas.List.{map-append, Elements.{All-head, All-tail}}, specs.Prelude.{All, map}}
use Rattle.dirdoc_grammar.specs.Writing.{AreWritable, NewItem, item_text, items_text}
use Rattle.frame_terms.specs.{Rows.{is_many, is_one}, Tables.Tables, declared.{document.Taken.Taken, row.Count.Count}}
use Rattle.frame_terms.specs.declared.row.{Count.TheVariants.{Many, One, Optional}, Row.Row}
use Rattle.frame_laws.proofs.{Both.both_hold, Entries.{Entry, after_one, all_taken, item_of}, Places.after_all}
use Rattle.frame_laws.proofs.{Places.{all_taken-append, both_writable}, ReadRows.{Stand, both_stand}, SaidRows.AreSaid}
use Rattle.frame_laws.proofs.SaidRows.{EachSuits, RowSays, entries_of, rows_of}
use Rattle.row_laws.proofs.{Rows.{Meaning, RowLaws}, Spoken.{Spoken, SpokenRow, new_items, rows_in, spoken, spoken_of}}
use Rattle.row_laws.proofs.Written.{entry_of, it_says, item_of_row, suits_its_row}

-- ---- how often

module _ {F : Type 0} where
  -- as many values as a row may have
  abbrev pub HasCount : Count → List F → Type 0
  HasCount One values = length values ≡ 1
  HasCount Optional values = length values ≤ 1
  HasCount Many values = Unit {0}

  some_of : (count : Count) (values : List F) → HasCount count values → is_one count ≡ true → 1 ≤ length values
  some_of One values has is = omega (arith, has)
  some_of Optional values has is = absurd (cc is)
  some_of Many values has is = absurd (cc is)

  few_of : (count : Count) (values : List F) → HasCount count values → is_many count ≡ false → length values ≤ 1
  few_of One values has is = omega (arith, has)
  few_of Optional values has is = has
  few_of Many values has is = absurd (cc is)

  mapped : {B : Type 0} (f : F → B) (values : List F) → length (map f values) ≡ length values
  mapped f [] = refl
  mapped f (a ∷ values) = ap suc (mapped f values)

-- what a row says may be written
pub record MayBeSaid {K F : Type 0} (MayWrite : K → F → Type 0) (one : SpokenRow K F) : Type 0 where
  pub count : HasCount one.row.count one.values
  pub each : All (MayWrite one.row.kind) one.values

module _ {K F : Type 0} where
  abbrev pub AreSpoken : (K → F → Type 0) → List (SpokenRow K F) → Type 0
  AreSpoken MayWrite [] = Unit {0}
  AreSpoken MayWrite (one ∷ rows) = MayBeSaid MayWrite one × AreSpoken MayWrite rows

module _ {S K V X F : Type 0} (tables : Tables S K V X) (m : Meaning K V F)
    (MayWrite IsRead : K → F → Type 0) (laws : RowLaws tables m MayWrite IsRead) where
  abbrev pub entry : Row K → F → Entry V
  entry row f = entry_of tables m MayWrite IsRead laws row f

  -- the item that says a value of a row
  abbrev pub item : Row K → F → NewItem
  item row f = item_of_row tables m MayWrite IsRead laws row f

  -- what was taken says this here
  abbrev pub spoken_in : List ℕ → Taken V → Spoken F
  spoken_in bytes one = spoken one.keyword (m.said bytes one.value)

  -- the rows with their items
  abbrev pub all_say : List (SpokenRow K F) → List (RowSays K V)
  all_say [] = []
  all_say (one ∷ rows) = record { row = one.row; entries = map (entry one.row) one.values } ∷ all_say rows

  -- ---- they are those that are written

  row_items : (row : Row K) (values : List F) → map item_of (map (entry row) values) ≡ map (item row) values
  row_items row [] = refl
  row_items row (f ∷ values) = ap (λ (l : List NewItem). item row f ∷ l) (row_items row values)

  pub same_items : (rows : List (SpokenRow K F)) → map item_of (entries_of (all_say rows)) ≡ new_items m.write rows
  same_items [] = refl
  same_items (one ∷ rows) =
      map-append item_of (map (entry one.row) one.values) (entries_of (all_say rows))
      ∙ ap (λ (l : List NewItem). l ++ map item_of (entries_of (all_say rows))) (row_items one.row one.values)
      ∙ ap (λ (l : List NewItem). map (item one.row) one.values ++ l) (same_items rows)

  pub same_rows : (rows : List (SpokenRow K F)) → rows_of (all_say rows) ≡ rows_in rows
  same_rows [] = refl
  same_rows (one ∷ rows) = ap (λ (l : List (Row K)). one.row ∷ l) (same_rows rows)

  -- ---- each may be said

  each_suits : (limit place : ℕ) (row : Row K) (values : List F) → All (MayWrite row.kind) values
      → AreWritable limit place (map (item row) values) → EachSuits tables row (map (entry row) values)
  each_suits limit place row [] each can = tt
  each_suits limit place row (f ∷ values) each can =
      both_hold (suits_its_row tables m MayWrite IsRead laws row f limit place
      (All-head (MayWrite row.kind) f values each) can.0)
      (each_suits limit (place + length (item_text (item row f))) row values
      (All-tail (MayWrite row.kind) f values each) can.1)

  pub all_said : (limit place : ℕ) (rows : List (SpokenRow K F)) → AreSpoken MayWrite rows
      → AreWritable limit place (new_items m.write rows) → AreSaid tables (all_say rows)
  all_said limit place [] are can = tt
  all_said limit place (one ∷ rows) are can =
      let parts = both_writable limit place (map (item one.row) one.values) (new_items m.write rows) can in
      let long = mapped (entry one.row) one.values in
      both_hold (record {
        some = λ is. omega (arith, long, some_of one.row.count one.values are.0.count is);
        few = λ is. omega (arith, long, few_of one.row.count one.values are.0.count is);
        suits = each_suits limit place one.row one.values are.0.each parts.front;
      }) (all_said limit (place + length (items_text (map (item one.row) one.values))) rows are.1 parts.back)

  -- ---- what was taken of them says what they mean

  row_says : (limit place : ℕ) (bytes : List ℕ) (row : Row K) (values : List F) → All (MayWrite row.kind) values
      → Stand limit bytes place (map (entry row) values)
      → map (spoken_in bytes) (all_taken place (map (entry row) values))
      ≡ map (λ (f : F). spoken row.keyword (m.as_read row.kind f)) values
  row_says limit place bytes row [] each stand = refl
  row_says limit place bytes row (f ∷ values) each stand =
      let parts = both_stand limit bytes place (entry row f ∷ []) (map (entry row) values) stand in
      let next = after_one place (entry row f) in
      ap (λ (g : F). spoken row.keyword g ∷ map (spoken_in bytes) (all_taken next (map (entry row) values)))
      (it_says tables m MayWrite IsRead laws limit place bytes row f
      (All-head (MayWrite row.kind) f values each) parts.front)
      ∙ ap (λ (l : List (Spoken F)). spoken row.keyword (m.as_read row.kind f) ∷ l)
      (row_says limit next bytes row values (All-tail (MayWrite row.kind) f values each) parts.back)

  pub all_spoken : (limit place : ℕ) (bytes : List ℕ) (rows : List (SpokenRow K F)) → AreSpoken MayWrite rows
      → Stand limit bytes place (entries_of (all_say rows))
      → map (spoken_in bytes) (all_taken place (entries_of (all_say rows))) ≡ spoken_of m.as_read rows
  all_spoken limit place bytes [] are stand = refl
  all_spoken limit place bytes (one ∷ rows) are stand =
      let front = map (entry one.row) one.values in
      let back = entries_of (all_say rows) in
      let next = after_all place front in
      let parts = both_stand limit bytes place front back stand in
      ap (map (spoken_in bytes)) (all_taken-append place front back)
      ∙ map-append (spoken_in bytes) (all_taken place front) (all_taken next back)
      ∙ ap (λ (l : List (Spoken F)). l ++ map (spoken_in bytes) (all_taken next back))
      (row_says limit place bytes one.row one.values are.0.each parts.front)
      ∙ ap (λ (l : List (Spoken F)).
      map (λ (f : F). spoken one.row.keyword (m.as_read one.row.kind f)) one.values ++ l)
      (all_spoken limit next bytes rows are.1 parts.back)
