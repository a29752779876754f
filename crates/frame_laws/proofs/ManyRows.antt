-- Rows of which any number of items may stand, one for each value of a list.
use Rattle.std.proofs.{Common.{◌≡◌, true, false, List, [], ◌∷◌}, lemmas.{Bool.both_ways, List.Elements.All-head}}
use Rattle.std.{proofs.lemmas.List.Elements.All-tail, specs.Prelude.{All, map}}
use Rattle.frame_terms.specs.{Rows.{is_many, is_one}, Tables.Tables, declared.row.Row.Row}
use Rattle.frame_laws.proofs.{Both.both_hold, Entries.{AlwaysSuits, Entry}, SaidRows.{EachSuits, IsSaid, RowSays}}

module _ {A K V : Type 0} where
  -- an item of a row for each value
  abbrev pub row_of_each : Row K → (A → Entry V) → List A → RowSays K V
  row_of_each row entry values = record { row = row; entries = map entry values }

module _ {A S K V X : Type 0} where
  each_suits : (tables : Tables S K V X) (row : Row K) (entry : A → Entry V) (P : A → Type 0) (values : List A)
      → All P values → ((a : A) → P a → AlwaysSuits tables row (entry a)) → EachSuits tables row (map entry values)
  each_suits tables row entry P [] are suits = tt
  each_suits tables row entry P (a ∷ values) are suits =
      both_hold (suits a (All-head P a values are))
      (each_suits tables row entry P values (All-tail P a values are) suits)

  -- values of which each may be said, of a row that may stand so often
  pub said_of_each : (tables : Tables S K V X) (row : Row K) (entry : A → Entry V) (P : A → Type 0) (values : List A)
      → is_one row.count ≡ false
      → is_many row.count ≡ true → All P values → ((a : A) → P a → AlwaysSuits tables row (entry a))
      → IsSaid tables (row_of_each row entry values)
  said_of_each tables row entry P values optional many are suits = record {
    some = λ i. absurd (both_ways (is_one row.count) optional i);
    few = λ i. absurd (both_ways (is_many row.count) i many);
    suits = each_suits tables row entry P values are suits;
  }
