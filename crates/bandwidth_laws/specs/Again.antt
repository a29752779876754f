-- A bandwidth file that was written is read again ("Bandwidth File Format").
use Rattle.std.specs.Prelude.{◌≡◌, ℕ, ◌+◌, ◌<◌, ◌≤◌, ◌^◌, ◌==◌, ◌&&◌, not, Bool, true, false, List, ◌∷◌, ◌++◌, length}
use Rattle.std.specs.{Prelude.{All, codes}, List.{list_all, list_any}}
use Rattle.item_terms.specs.Bytes.{line_feed, nul}
use Rattle.dirdoc_grammar.specs.Writers.{is_argument_byte}
use Rattle.frame_values.specs.Ranges.{AreTwenty}
use Rattle.dir_values.specs.declared.digest.Fingerprint.{Fingerprint}
use Rattle.bandwidth_file.specs.{declared.file.{BandFile.BandFile, Header.Header}, Lines.max_line, Files.IsBandFile}
use Rattle.bandwidth_file.specs.{Files.{ends_header, max_relays}, Relays.Ascend, Texts.text_of}

-- the `=` behind a key
abbrev pub equals : ℕ
equals = 61

-- a byte that may stand in a line
abbrev pub is_line_byte : ℕ → Bool
is_line_byte byte = not (byte == line_feed) && not (byte == nul)

-- a header's line, without its NL
abbrev pub line_text : Header → List ℕ
line_text header = header.key ++ equals ∷ header.value

-- The header is what its line says: the key has no `=`, and the line has no NL and no NUL, is not too long, and is none
-- with which the header ends.
pub record StandsInHeader (header : Header) : Type 0 where
  pub key : list_any (λ byte. byte == equals) header.key ≡ false
  pub bytes : list_all is_line_byte (line_text header) ≡ true
  pub goes_on : ends_header (line_text header) ≡ false
  pub within : length (line_text header) < max_line

-- the identity is twenty bytes, and the bandwidth a number of 32 bits
pub record IsRelayInRange (relay : Fingerprint × ℕ) : Type 0 where
  pub identity : AreTwenty relay.0.0
  pub bandwidth : relay.1 < 2 ^ 32

-- Each value of the file is one that can be read, and its text passes no limit.
pub record IsInRange (file : BandFile) : Type 0 where
  pub timestamp : file.timestamp < 2 ^ 64
  pub headers : All StandsInHeader file.headers
  pub ascending : Ascend file.relays
  pub relays : All IsRelayInRange file.relays
  pub count : length file.relays ≤ max_relays

-- The text of a bandwidth file in range is that file.
abbrev pub FilesAreReadAgain : Type 0
FilesAreReadAgain = (file : BandFile) → IsInRange file → IsBandFile (text_of file) file

-- A key and a value, of bytes that are no blank, no NL and no NUL; the key is not empty, has no `=`, and is not
-- `node_id`.
pub record IsKeyAndValue (header : Header) : Type 0 where
  pub some : 0 < length header.key
  pub no_equals : list_any (λ byte. byte == equals) header.key ≡ false
  pub no_relay : header.key ≡ codes "node_id" → ⊥
  pub bytes : list_all is_argument_byte (line_text header) ≡ true

-- They are a header that is what its line says.
abbrev pub KeysAndValuesStand : Type 0
KeysAndValuesStand =
    (header : Header) → IsKeyAndValue header → length (line_text header) < max_line → StandsInHeader header

-- Bytes are one bandwidth file, or none.
abbrev pub BytesAreOneFile : Type 0
BytesAreOneFile =
    (bytes : List ℕ) (file other : BandFile) → IsBandFile bytes file → IsBandFile bytes other → file ≡ other
