-- An item that may be written suits its row wherever it stands, and says there what it means.
use Rattle.std.proofs.Common.{◌≡◌, ℕ, zero, suc, ◌+◌, false, List, [], ◌∷◌, ◌++◌, length, Option, Some, Result, Ok, Err}
use Rattle.std.{proofs.{Common.{refl, ap, subst, ◌∙◌, arith}, lemmas.Bool.and_right}, specs.Prelude.IfSome}
use Rattle.item_terms.specs.Words.{begins_dash}
use Rattle.dirdoc_grammar.specs.Writing.{AreWritable, IsWritable, IsWritableObject, NewItem, is_open, item_text}
use Rattle.dirdoc_grammar.specs.Writing.{written}
use Rattle.frame_terms.specs.{Tables.Tables, declared.{fault.FrameFault.FrameFault, row.Row.Row}}
use Rattle.frame_laws.proofs.{Entries.{AlwaysSuits, Entry}, ReadRows.Stand, WrittenRows.stand_behind}
use Rattle.row_laws.proofs.{ItemArguments.IsSound, Rows.{Meaning, RowLaws}, Spoken.{new_item, words_written}, Ties.Tied}

-- ---- somewhere in an input

abbrev zeros : ℕ → List ℕ
zeros zero = []
zeros (suc n) = 0 ∷ zeros n

length-zeros : (n : ℕ) → length (zeros n) ≡ n
length-zeros zero = refl
length-zeros (suc n) = ap suc (length-zeros n)

module _ {V : Type 0} where
  abbrev pub value_or : V → Result V FrameFault → V
  value_or none (Ok value) = value
  value_or none (Err fault) = none

module _ {V F : Type 0} where
  pub is_ok : (said : V → F) (none : V) (r : Result V FrameFault) (f : F) → Tied said r (Some f) → r ≡ Ok
      (value_or none r)
  is_ok said none (Ok value) f is = refl
  is_ok said none (Err fault) f is = absurd is

  pub says_it : (said : V → F) (none : V) (r : Result V FrameFault) (f : F) → Tied said r (Some f)
      → said (value_or none r) ≡ f
  says_it said none (Ok value) f is = is
  says_it said none (Err fault) f is = absurd is

module _ {S K V X F : Type 0} (tables : Tables S K V X) (m : Meaning K V F)
    (MayWrite IsRead : K → F → Type 0) (laws : RowLaws tables m MayWrite IsRead) where
  -- an item that is written of a row
  abbrev pub item_of_row : Row K → F → NewItem
  item_of_row row f = new_item row.keyword (m.write row.kind f)

  -- with the value that it is read with: the one that the tables read
  abbrev pub entry_of : Row K → F → Entry V
  entry_of row f = record {
    keyword = row.keyword;
    rest = (m.write row.kind f).rest;
    spaced = false;
    object = (m.write row.kind f).object;
    value = λ p. value_or m.none (tables.value_of tables.start row.kind (written p (item_of_row row f)));
  }

  -- where it stands, it is sound
  pub sound_there : (limit place : ℕ) (bytes : List ℕ) (row : Row K) (f : F) → Stand limit bytes place
      (entry_of row f ∷ [])
      → IsSound bytes (written place (item_of_row row f))
  sound_there limit place bytes row f stand =
      record { in_place = stand.in_place.0; rest = stand.writable.0.arguments }

  -- and tied to what it means
  tied_there : (row : Row K) (f : F) → MayWrite row.kind f → IfSome (m.write row.kind f).object IsWritableObject →
      (bytes : List ℕ) (place : ℕ)
      → IsSound bytes (written place (item_of_row row f))
      → Tied (m.said bytes) (tables.value_of tables.start row.kind (written place (item_of_row row f)))
      (Some (m.as_read row.kind f))
  tied_there row f may object bytes place sound =
      subst (λ (o : Option F).
      Tied (m.said bytes) (tables.value_of tables.start row.kind (written place (item_of_row row f))) o)
      (ap (m.means row.kind) (words_written place row.keyword (m.write row.kind f)) ∙ laws.again row.kind f may object)
      (laws.tied tables.start row.kind bytes (written place (item_of_row row f)) sound)

  -- it may stand behind any bytes
  alone : (row : Row K) (f : F) (limit place : ℕ) → IsWritable limit place (item_of_row row f)
      → AreWritable (length (item_text (item_of_row row f))) 0 (item_of_row row f ∷ [])
  alone row f limit place may =
      let first : IsWritable (length (item_text (item_of_row row f))) 0 (item_of_row row f) = record {
        keyword = may.keyword;
        arguments = may.arguments;
        line_fits = may.line_fits;
        object = may.object;
        within = omega arith;
      } in
      (first, tt)

  abbrev row_behind_zeros : Row K → F → ℕ → List ℕ
  row_behind_zeros row f p = zeros p ++ (items_text_of ++ [])
    where
      items_text_of : List ℕ
      items_text_of = item_text (item_of_row row f) ++ []

  somewhere : (row : Row K) (f : F) (limit place : ℕ) → IsWritable limit place (item_of_row row f) → (p : ℕ)
      → IsSound (row_behind_zeros row f p) (written p (item_of_row row f))
  somewhere row f limit place may p =
      let stand =
      stand_behind (zeros p) (length (item_text (item_of_row row f))) (entry_of row f ∷ []) []
      (alone row f limit place may) (and_right (is_open (item_of_row row f ∷ [])) (begins_dash []) refl) in
      subst (λ (n : ℕ). IsSound (row_behind_zeros row f p) (written n (item_of_row row f))) (length-zeros p)
      (sound_there _ (length (zeros p)) (row_behind_zeros row f p) row f stand)

  -- It suits its row.
  pub suits_its_row : (row : Row K) (f : F) (limit place : ℕ) → MayWrite row.kind f
      → IsWritable limit place (item_of_row row f) → AlwaysSuits tables row (entry_of row f)
  suits_its_row row f limit place may can across p =
      let item = written p (item_of_row row f) in
      record {
        keyword = refl;
        known = laws.known row.kind item;
        value =
            laws.steady across tables.start row.kind item
            ∙ is_ok (m.said (row_behind_zeros row f p)) m.none (tables.value_of tables.start row.kind item)
            (m.as_read row.kind f)
            (tied_there row f may can.object (row_behind_zeros row f p) p (somewhere row f limit place can p));
      }

  -- Where it stands it says what it means.
  pub it_says : (limit place : ℕ) (bytes : List ℕ) (row : Row K) (f : F) → MayWrite row.kind f
      → Stand limit bytes place (entry_of row f ∷ [])
      → m.said bytes ((entry_of row f).value place) ≡ m.as_read row.kind f
  it_says limit place bytes row f may stand =
      says_it (m.said bytes) m.none (tables.value_of tables.start row.kind (written place (item_of_row row f)))
      (m.as_read row.kind f) (tied_there row f may stand.writable.0.object bytes place
      (sound_there limit place bytes row f stand))
