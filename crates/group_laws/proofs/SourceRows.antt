-- Who an authority is, and its contact, among the rows of any kind of document: each suits its row, and is read again.
use Rattle.std.proofs.Common.{◌≡◌, ℕ, List, [], ◌∷◌, Option, None, Ok, refl}
use Rattle.dir_values.specs.declared.digest.Fingerprint.{Fingerprint}
use Rattle.frame_terms.specs.{Rows.row, Tables.Tables, declared.{keyword.Keyword.Keyword, row.Count.Count}}
use Rattle.frame_terms.specs.declared.row.Count.TheVariants.{Optional}
use Rattle.frame_terms.specs.declared.keyword.Keyword.TheVariants as the
use Rattle.frame_values.specs.{Fields.span, Lines.{rest_of, source_of}, Parts.part, declared.found.DirSource.DirSource}
use Rattle.frame_values.specs.declared.values.Value.{Value}
use Rattle.frame_values.specs.declared.values.Value.TheVariants as value
use Rattle.frame_laws.proofs.{Entries.{AlwaysSuits, Entry}, RowValues.{own_entry, row_if, said_any_if, text_entry}}
use Rattle.frame_laws.proofs.{SaidRows.IsSaid, WrittenItems.{rest_at, start_of}}
use Rattle.group_laws.{specs.LineAgain.{IsSourceInRange, source_at, source_text}, proofs.WrittenSources.address_part}
use Rattle.group_laws.proofs.{WrittenSources.{nickname_part, source_again}, Readings.{Reads, suits_reading, text_at}}

-- ---- a document that has them

module _ {S K W X : Type 0} where
  -- the tables have lines of who an authority is, of this kind, which say this
  abbrev pub HasSources : Tables S K (Value W) X → K → (DirSource → W) → Type 0
  HasSources tables kind own = Reads tables kind None (λ across. source_of) (λ source. value.Own (own source))

  -- the tables have rests of lines as they stand, of this kind
  abbrev pub HasRests : Tables S K (Value W) X → K → Type 0
  HasRests tables kind = Reads tables kind None (λ across item. Ok (rest_of item)) text_at

  -- the rest of a line, whatever it is
  pub suits_rest : {tables : Tables S K (Value W) X} {kind : K} → HasRests tables kind → (keyword : Keyword)
      (count : Count) (text : List ℕ) → AlwaysSuits tables (row keyword count kind) (text_entry keyword text)
  suits_rest has keyword count text =
      suits_reading has keyword count (text_entry keyword text) (λ p. rest_at p keyword text) refl (λ p. refl)
      (λ p. refl) (λ across p. refl)

  -- the same or none
  pub said_rest_if : {tables : Tables S K (Value W) X} {kind : K} → HasRests tables kind → (keyword : Keyword)
      (text : Option (List ℕ)) → IsSaid tables (row_if (row keyword Optional kind) text)
  said_rest_if {tables} {kind} has keyword text =
      said_any_if tables (row keyword Optional kind) text refl (λ t. suits_rest has keyword Optional t)

-- ---- an authority

-- what is read of an authority's line is this, in these bytes
pub record SourceIs (bytes : List ℕ) (found : DirSource) (its_nickname : List ℕ) (its_identity : Fingerprint)
    (its_address : List ℕ) (its_ip its_dir_port its_or_port : ℕ) : Type 0 where
  pub nickname : part bytes found.nickname ≡ its_nickname
  pub identity : found.identity ≡ its_identity
  pub address : part bytes found.address ≡ its_address
  pub ip : found.ip ≡ its_ip
  pub dir_port : found.dir_port ≡ its_dir_port
  pub or_port : found.or_port ≡ its_or_port

module _ (nickname : List ℕ) (identity : Fingerprint) (address : List ℕ) (ip dir_port or_port : ℕ) where
  -- its line
  abbrev pub source_entry : {W : Type 0} → Keyword → (DirSource → W) → Entry (Value W)
  source_entry keyword own =
      let text = source_text nickname identity address ip dir_port or_port in
      own_entry keyword text
      (λ p. own (source_at (start_of p keyword text) nickname identity address ip dir_port or_port))

  -- suits its row
  pub suits_source : {S K W X : Type 0} {tables : Tables S K (Value W) X} {kind : K} {own : DirSource → W}
      → HasSources tables kind own → (keyword : Keyword) (count : Count)
      → IsSourceInRange nickname identity address ip dir_port or_port
      → AlwaysSuits tables (row keyword count kind) (source_entry keyword own)
  suits_source {S} {K} {W} {X} {tables} {kind} {own} has keyword count are =
      let text = source_text nickname identity address ip dir_port or_port in
      suits_reading has keyword count (source_entry keyword own)
      (λ p. source_at (start_of p keyword text) nickname identity address ip dir_port or_port) refl (λ p. refl)
      (λ p. refl) (λ across p. source_again p keyword nickname identity address ip dir_port or_port are)

  -- and what is read of it is this
  pub source_back : (bytes : List ℕ) (start : ℕ)
      → part bytes (span start (source_text nickname identity address ip dir_port or_port))
      ≡ source_text nickname identity address ip dir_port or_port
      → SourceIs bytes (source_at start nickname identity address ip dir_port or_port) nickname identity address ip
      dir_port or_port
  source_back bytes start there = record {
    nickname = nickname_part bytes start nickname identity address ip dir_port or_port there;
    identity = refl;
    address = address_part bytes start nickname identity address ip dir_port or_port there;
    ip = refl;
    dir_port = refl;
    or_port = refl;
  }
