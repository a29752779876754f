-- Items whose values pass a test, by the kinds of their rows; as those of which a document remembers nothing.
use Rattle.std.proofs.{Common.{◌≡◌, ℕ, Bool, true, List, [], ◌∷◌, ◌++◌, Ok, refl}, lemmas.Bool.and_parts}
use Rattle.std.specs.List.{list_all}
use Rattle.item_terms.specs.Items.{Item}
use Rattle.dirdoc_grammar.specs.Writing.{written}
use Rattle.frame_terms.specs.{Tables.Tables, declared.{document.Taken.Taken, row.Row.Row}}
use Rattle.frame_laws.proofs.{Both.both_hold, Entries.{Entry, after_one, all_taken, item_of, taken_at}}
use Rattle.frame_laws.proofs.{Remembered.Notes, SaidRows.{AreSaid, EachSuits, RowSays, entries_of, rows_of}}

module _ {V : Type 0} where
  -- the value of each item passes, wherever it stands
  abbrev pub EachPasses : (V → Bool) → List (Entry V) → Type 0
  EachPasses test [] = Unit {0}
  EachPasses test (entry ∷ entries) = ((place : ℕ) → test (entry.value place) ≡ true) × EachPasses test entries

  pub both_pass : (test : V → Bool) (front back : List (Entry V)) → EachPasses test front → EachPasses test back
      → EachPasses test (front ++ back)
  both_pass test [] back a b = b
  both_pass test (entry ∷ front) back a b = both_hold a.0 (both_pass test front back a.1 b)

module _ {S K V X : Type 0} where
  -- what an item of such a kind says passes
  abbrev pub KindsPass : Tables S K V X → (V → Bool) → (K → Bool) → Type 0
  KindsPass tables test kinds =
      (across : X) (kind : K) (item : Item) (value : V) → kinds kind ≡ true
      → tables.value_of across kind item ≡ Ok value → test value ≡ true

  row_passes : (tables : Tables S K V X) (test : V → Bool) (kinds : K → Bool) → KindsPass tables test kinds
      → (row : Row K) (entries : List (Entry V)) → kinds row.kind ≡ true → EachSuits tables row entries
      → EachPasses test entries
  row_passes tables test kinds pass row [] is suits = tt
  row_passes tables test kinds pass row (entry ∷ entries) is suits =
      both_hold (λ (place : ℕ). pass tables.start row.kind (written place (item_of entry)) (entry.value place) is
      (suits.0 tables.start place).value)
      (row_passes tables test kinds pass row entries is suits.1)

  -- the items of rows of such kinds
  pub rows_pass : (tables : Tables S K V X) (test : V → Bool) (kinds : K → Bool) → KindsPass tables test kinds
      → (rows : List (RowSays K V)) → list_all (λ (row : Row K). kinds row.kind) (rows_of rows) ≡ true
      → AreSaid tables rows
      → EachPasses test (entries_of rows)
  rows_pass tables test kinds pass [] are said = tt
  rows_pass tables test kinds pass (says ∷ rows) are said =
      let parts = and_parts (kinds says.row.kind) (list_all (λ (row : Row K). kinds row.kind) (rows_of rows)) are in
      both_pass test says.entries (entries_of rows)
      (row_passes tables test kinds pass says.row says.entries parts.0 said.0.suits)
      (rows_pass tables test kinds pass rows parts.1 said.1)

  -- of what passes nothing is remembered
  abbrev pub IsForgotten : Tables S K V X → (V → Bool) → Type 0
  IsForgotten tables test = (across : X) (one : Taken V) → test one.value ≡ true → tables.note across one ≡ Ok across

  -- items that pass may stand, whatever is remembered
  pub notes_passing : (tables : Tables S K V X) (test : V → Bool) → IsForgotten tables test
      → (across : X) (place : ℕ) (entries : List (Entry V)) → EachPasses test entries
      → Notes tables across (all_taken place entries) across
  notes_passing tables test forgotten across place [] pass = refl
  notes_passing tables test forgotten across place (entry ∷ entries) pass = (
    across,
    forgotten across (taken_at place entry) (pass.0 place),
    notes_passing tables test forgotten across (after_one place entry) entries pass.1,
  )
