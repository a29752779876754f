-- Rows that say a text, a moment, an identity or an object, and what is read of them.
use Rattle.std.proofs.Common.{◌≡◌, ℕ, ◌≤◌, false, List, [], ◌∷◌, Option, Some, None, refl, ap, ◌∙◌, arith}
use Rattle.std.{proofs.lemmas.Bool.both_ways, specs.Prelude.{IfSome, map, option_map}}
use Rattle.dir_bytes.specs.{Causes.last_moment, FieldTexts.{hex_text, moment_text}}
use Rattle.dir_values.specs.declared.digest.Fingerprint.{Fingerprint}
use Rattle.frame_terms.specs.{Rows.is_one, Tables.Tables, declared.{document.Taken.Taken, keyword.Keyword.Keyword}}
use Rattle.frame_terms.specs.declared.row.Row.{Row}
use Rattle.frame_values.specs.{Items.item_if, Parts.{bytes_in, moment_of, part}, Values.{fingerprint_in, item_at}}
use Rattle.frame_values.specs.{Values.{number_in, object_in, text_if, text_in}, declared.values.Value.Value}
use Rattle.frame_values.specs.declared.values.Value.TheVariants as value
use Rattle.frame_laws.proofs.{Both.both_hold, Entries.{AlwaysSuits, Entry, item_of}, ReadRows.{IsRead, item_of_row}}
use Rattle.frame_laws.proofs.{SaidRows.{IsSaid, RowSays, row_once}, StandingParts.{once, rest_part, spelled}}
use Rattle.frame_laws.proofs.WrittenItems.{lines_at, rest_at}

module _ {W : Type 0} where
  -- ---- what items say

  -- an item that says no more than that it stands
  abbrev pub silent_entry : Keyword → List ℕ → Entry (Value W)
  silent_entry keyword rest =
      record { keyword = keyword; rest = rest; spaced = false; object = None; value = λ p. value.Nothing }

  -- an item that says a text
  abbrev pub text_entry : Keyword → List ℕ → Entry (Value W)
  text_entry keyword rest = record {
    keyword = keyword;
    rest = rest;
    spaced = false;
    object = None;
    value = λ p. value.Text (rest_at p keyword rest);
  }

  -- the same where there is a text
  abbrev pub text_entry_if : Keyword → Option (List ℕ) → List (Entry (Value W))
  text_entry_if keyword None = []
  text_entry_if keyword (Some rest) = text_entry keyword rest ∷ []

  -- an item that says a moment
  abbrev pub moment_entry : Keyword → ℕ → Entry (Value W)
  moment_entry keyword moment =
      record {
        keyword = keyword;
        rest = moment_text (moment_of moment);
        spaced = false;
        object = None;
        value = λ p. value.Number
            (moment_of moment);
      }

  -- an item with an object of these words and bytes
  abbrev pub object_entry : Keyword → List ℕ → List ℕ → Entry (Value W)
  object_entry keyword words bytes = record {
    keyword = keyword;
    rest = [];
    spaced = false;
    object = Some (record { words = words; bytes = bytes });
    value = λ p. value.Object (lines_at p keyword [] words bytes);
  }

  -- an identity
  abbrev pub identity_entry : Keyword → Fingerprint → Entry (Value W)
  identity_entry keyword identity =
      record {
        keyword = keyword;
        rest = hex_text identity.0;
        spaced = false;
        object = None;
        value = λ p. value.Fingerprint identity;
      }

  -- what only items of a kind of document say
  abbrev pub own_entry : Keyword → List ℕ → (ℕ → W) → Entry (Value W)
  own_entry keyword rest own =
      record { keyword = keyword; rest = rest; spaced = false; object = None; value = λ p. value.Own (own p) }

-- the item of a text or none, as it is written
pub items_if : (W : Type 0) (keyword : Keyword) (text : Option (List ℕ))
    → map item_of (text_entry_if {W = W} keyword text) ≡ item_if keyword text
items_if W keyword None = refl
items_if W keyword (Some text) = refl

module _ {K W : Type 0} where
  -- a text of a row, where there is one
  abbrev pub row_if : Row K → Option (List ℕ) → RowSays K (Value W)
  row_if row text = record { row = row; entries = text_entry_if row.keyword text }

  -- any number of texts of a row
  abbrev pub row_each : Row K → List (List ℕ) → RowSays K (Value W)
  row_each row texts = record { row = row; entries = map (text_entry row.keyword) texts }

module _ {S K W X : Type 0} where
  -- ---- rows that are said

  -- a text or none, of a row that need not stand
  pub said_if : (tables : Tables S K (Value W) X) (row : Row K) (text : Option (List ℕ)) (P : List ℕ → Type 0)
      → is_one row.count ≡ false
      → IfSome text P → ((t : List ℕ) → P t → AlwaysSuits tables row (text_entry row.keyword t))
      → IsSaid tables (row_if row text)
  said_if tables row None P optional is suits = record {
    some = λ i. absurd (both_ways (is_one row.count) optional i);
    few = λ i. omega arith;
    suits = tt;
  }
  said_if tables row (Some text) P optional is suits =
      record { some = λ i. omega arith; few = λ i. omega arith; suits = both_hold (suits text is) tt }

  -- the same of a row that takes any text
  pub said_any_if : (tables : Tables S K (Value W) X) (row : Row K) (text : Option (List ℕ))
      → is_one row.count ≡ false
      → ((t : List ℕ) → AlwaysSuits tables row (text_entry row.keyword t)) → IsSaid tables (row_if row text)
  said_any_if tables row None optional suits = said_if tables row None (λ t. Unit {0}) optional tt (λ t is. suits t)
  said_any_if tables row (Some text) optional suits =
      said_if tables row (Some text) (λ t. Unit {0}) optional tt (λ t is. suits t)

-- ---- what is read of them

module _ {K W : Type 0} {limit : ℕ} {bytes : List ℕ} {taken : List (Taken (Value W))} {place : ℕ} where
  -- a text that is there or not
  pub text_if_said : (row : Row K) (text : Option (List ℕ)) → IsRead limit bytes taken place (row_if row text)
      → option_map (part bytes) (text_if (item_at taken row.keyword)) ≡ text
  text_if_said row None read =
      ap (λ (o : Option (Taken (Value W))). option_map (part bytes) (text_if o)) (item_of_row read)
  text_if_said row (Some text) read =
      ap (λ (o : Option (Taken (Value W))). option_map (part bytes) (text_if o)) (item_of_row read)
      ∙ ap (λ (t : List ℕ). Some t) (rest_part read.stand.in_place.0)

  -- a text
  pub text_said : (row : Row K) (text : List ℕ)
      → IsRead limit bytes taken place (row_once row (text_entry row.keyword text))
      → part bytes (text_in (text_if (item_at taken row.keyword))) ≡ text
  text_said row text read =
      ap (λ (o : Option (Taken (Value W))). part bytes (text_in (text_if o))) (item_of_row read)
      ∙ rest_part read.stand.in_place.0

  -- a moment
  pub moment_said : (row : Row K) (moment : ℕ) → moment ≤ last_moment
      → IsRead limit bytes taken place (row_once row (moment_entry row.keyword moment))
      → moment_of (number_in (item_at taken row.keyword)) ≡ moment
  moment_said row moment within read =
      ap (λ (o : Option (Taken (Value W))). moment_of (number_in o)) (item_of_row read) ∙ once moment within

  -- an identity
  pub identity_said : (row : Row K) (identity : Fingerprint)
      → IsRead limit bytes taken place (row_once row (identity_entry row.keyword identity))
      → fingerprint_in (item_at taken row.keyword) ≡ identity
  identity_said row identity read = ap (λ (o : Option (Taken (Value W))). fingerprint_in o) (item_of_row read)

  -- the bytes of an object
  pub object_said : (row : Row K) (words object : List ℕ)
      → IsRead limit bytes taken place (row_once row (object_entry row.keyword words object))
      → bytes_in bytes (object_in (item_at taken row.keyword)) ≡ object
  object_said row words object read =
      ap (λ (o : Option (Taken (Value W))). bytes_in bytes (object_in o)) (item_of_row read)
      ∙ spelled object read.stand.writable.0.object.bytes read.stand.in_place.0 refl
