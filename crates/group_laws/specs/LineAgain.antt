-- Lines that consensuses and votes have in common are read again (dir-spec, "Vote and consensus status document
-- formats", the `voting-delay`, `known-flags`, `s`, `dir-source` and `shared-rand-` lines).
use Rattle.std.specs.Prelude.{◌≡◌, ℕ, ◌+◌, ◌<◌, ◌≤◌, ◌^◌, true, List, [], ◌∷◌, ◌++◌, length, All, Ok, decimal}
use Rattle.std.specs.List.{join_with_byte}
use Rattle.base64.specs.GeneralPurpose.{IsBytes}
use Rattle.item_terms.specs.{Bytes.space, Words.{argument_start, words_of}}
use Rattle.dir_bytes.specs.FieldTexts.{address_text, hex_text}
use Rattle.dir_values.specs.{FlagSets.{Ascend, as_set, is_name, set_text}, Names.is_nickname}
use Rattle.dir_values.specs.declared.digest.Fingerprint.{Fingerprint}
use Rattle.dirdoc_grammar.specs.{Writers.is_argument, Writing.{tail, written}}
use Rattle.frame_terms.specs.{Keywords.text_of, declared.keyword.Keyword.Keyword}
use Rattle.frame_values.specs.{Fields.span, Items.bare, Lines.{delays_of, flags_of, source_of}, Ranges.AreTwenty}
use Rattle.frame_values.specs.declared.found.DirSource.{DirSource}
use Rattle.value_groups.specs.{Lines.random_of, Values.random_text, declared.value.SharedRandom.SharedRandom}

-- where the rest of a line begins that was written at a place
abbrev pub rest_start : ℕ → Keyword → List ℕ → ℕ
rest_start place keyword rest = argument_start place (text_of keyword ++ tail rest)

-- ---- two numbers of seconds

-- their text
abbrev pub delays_text : ℕ → ℕ → List ℕ
delays_text vote dist = decimal vote ++ space ∷ decimal dist

-- they are read as they were written
abbrev pub DelayLinesAreReadAgain : Type 0
DelayLinesAreReadAgain = (place : ℕ) (keyword : Keyword) (vote dist : ℕ) → vote ≤ 4294967295 → dist ≤ 4294967295
    → delays_of (written place (bare keyword (delays_text vote dist))) ≡ Ok (vote, dist)

-- ---- flags

-- the flags are names, ascending
pub record AreFlagsInRange (flags : List (List ℕ)) : Type 0 where
  pub ascend : Ascend flags
  pub each : All (λ flag. is_name flag ≡ true) flags

-- flags are read where their text stands, which spells them
abbrev pub FlagLinesAreReadAgain : Type 0
FlagLinesAreReadAgain = (place : ℕ) (keyword : Keyword) (flags : List (List ℕ)) → AreFlagsInRange flags
    → (flags_of (written place (bare keyword (set_text flags)))
    ≡ Ok (span (rest_start place keyword (set_text flags)) (set_text flags)))
    × (as_set (words_of (set_text flags)) ≡ flags)

-- ---- an authority

-- each part of an authority's line is one that such a line may have
pub record IsSourceInRange (nickname : List ℕ) (identity : Fingerprint) (address : List ℕ)
    (ip dir_port or_port : ℕ) : Type 0 where
  pub nickname_is : is_nickname nickname ≡ true
  pub identity_is : AreTwenty identity.0
  pub address_is : is_argument address ≡ true
  pub ip_is : ip < 2 ^ 32
  pub dir_port_is : dir_port ≤ 65535
  pub or_port_is : or_port ≤ 65535

-- the words of an authority
abbrev pub words_of_source : List ℕ → Fingerprint → List ℕ → ℕ → ℕ → ℕ → List (List ℕ)
words_of_source nickname identity address ip dir_port or_port =
    nickname ∷ hex_text identity.0 ∷ address ∷ address_text ip ∷ decimal dir_port ∷ decimal or_port ∷ []

-- its text
abbrev pub source_text : List ℕ → Fingerprint → List ℕ → ℕ → ℕ → ℕ → List ℕ
source_text nickname identity address ip dir_port or_port =
    join_with_byte space (words_of_source nickname identity address ip dir_port or_port)

-- what an authority's line says whose nickname stands at a place
abbrev pub source_at : ℕ → List ℕ → Fingerprint → List ℕ → ℕ → ℕ → ℕ → DirSource
source_at start nickname identity address ip dir_port or_port = record {
  nickname = span start nickname;
  identity = identity;
  address = span (start + length nickname + 1 + length (hex_text identity.0) + 1) address;
  ip = ip;
  dir_port = dir_port;
  or_port = or_port;
}

-- an authority's line is read as it was written
abbrev pub SourceLinesAreReadAgain : Type 0
SourceLinesAreReadAgain = (place : ℕ) (keyword : Keyword) (nickname : List ℕ) (identity : Fingerprint)
    (address : List ℕ) (ip dir_port or_port : ℕ) → IsSourceInRange nickname identity address ip dir_port or_port
    → source_of (written place (bare keyword (source_text nickname identity address ip dir_port or_port)))
    ≡ Ok (source_at (rest_start place keyword (source_text nickname identity address ip dir_port or_port))
    nickname identity address ip dir_port or_port)

-- ---- a shared random value

-- a count below 2 ^ 32, and 32 bytes
pub record IsRandomInRange (random : SharedRandom) : Type 0 where
  pub count : random.count ≤ 4294967295
  pub length_is : length random.value.0 ≡ 32
  pub each : IsBytes random.value.0

-- it is read as it was written
abbrev pub RandomLinesAreReadAgain : Type 0
RandomLinesAreReadAgain = (place : ℕ) (keyword : Keyword) (random : SharedRandom) → IsRandomInRange random
    → random_of (written place (bare keyword (random_text random))) ≡ Ok random
