-- Lines that say something of a relay are read again (dir-spec, "Vote and consensus status document formats").
use Rattle.std.specs.Prelude.{◌≡◌, ℕ, false, List, ◌++◌, Some, Ok}
use Rattle.item_terms.specs.Words.{argument_start}
use Rattle.dir_values.specs.declared.digest.{Digest1.Digest1, Digest2.Digest2, Fingerprint.Fingerprint}
use Rattle.dirdoc_grammar.specs.Writing.{tail, written}
use Rattle.frame_terms.specs.{Keywords.text_of, declared.keyword.Keyword.Keyword}
use Rattle.frame_values.specs.{Fields.span, Items.bare, Parts.moment_of}
use Rattle.relay_entries.specs.{Fields.methods_in, Lines.{address_of, bandwidths_of, ed_of, is_ignored, micro_of}}
use Rattle.relay_entries.specs.{Lines.relay_of, Texts.{bandwidths_text, ed_text, methods_text, micro_text, relay_text}}
use Rattle.relay_entries.specs.declared.said.{Bandwidths.Bandwidths, EdOpinion.EdOpinion, MicroLine.MicroLine}
use Rattle.relay_entries.specs.declared.said.RelayLine.{RelayLine}
use Rattle.relay_entries.specs.declared.said.EntryKind.TheVariants as kind
use Rattle.group_laws.specs.Ranges.{AreBandwidthsInRange, AreMethodsInRange, AreThirtyTwo, IsAddressInRange}
use Rattle.group_laws.specs.Ranges.{IsOpinionInRange, IsRelayInRange}

-- where the rest of a line begins that was written at a place
abbrev pub rest_start : ℕ → Keyword → List ℕ → ℕ
rest_start place keyword rest = argument_start place (text_of keyword ++ tail rest)

-- what a relay's line says whose nickname stands at a place
abbrev pub relay_at : ℕ → List ℕ → Fingerprint → Digest1 → ℕ → ℕ → ℕ → ℕ → RelayLine
relay_at start nickname identity digest published ip or_port dir_port = record {
  nickname = span start nickname;
  identity = identity;
  digest = digest;
  published = moment_of published;
  ip = ip;
  or_port = or_port;
  dir_port = dir_port;
}

-- a relay's line is read as it was written; a moment past the calendar as its last one
abbrev pub RelayLinesAreReadAgain : Type 0
RelayLinesAreReadAgain = (place : ℕ) (keyword : Keyword) (nickname : List ℕ) (identity : Fingerprint) (digest : Digest1)
    (published ip or_port dir_port : ℕ) → IsRelayInRange nickname identity digest ip or_port dir_port
    → relay_of (written place (bare keyword (relay_text nickname identity digest published ip or_port dir_port)))
    ≡ Ok (relay_at (rest_start place keyword (relay_text nickname identity digest published ip or_port dir_port))
    nickname identity digest published ip or_port dir_port)

-- a line of an address is read as it was written
abbrev pub AddressLinesAreReadAgain : Type 0
AddressLinesAreReadAgain = (place : ℕ) (keyword : Keyword) (text : List ℕ) → IsAddressInRange text
    → address_of (written place (bare keyword text)) ≡ Ok (span (rest_start place keyword text) text)

-- a line of bandwidths is read as it was written
abbrev pub BandwidthLinesAreReadAgain : Type 0
BandwidthLinesAreReadAgain = (place : ℕ) (keyword : Keyword) (w : Bandwidths) → AreBandwidthsInRange w
    → bandwidths_of (written place (bare keyword (bandwidths_text w))) ≡ Ok w

-- what a line of methods and a digest says, whose methods stand at a place
abbrev pub micro_at : ℕ → List ℕ → Digest2 → MicroLine
micro_at start methods digest = record { methods = span start (methods_text methods); digest = Some digest }

-- a line of methods and a digest is read as it was written, and the methods are spelled by their text
abbrev pub MicroLinesAreReadAgain : Type 0
MicroLinesAreReadAgain = (place : ℕ) (keyword : Keyword) (methods : List ℕ) (digest : Digest2)
    → AreMethodsInRange methods
    → AreThirtyTwo digest.0
    → (micro_of (written place (bare keyword (micro_text methods digest)))
    ≡ Ok (micro_at (rest_start place keyword (micro_text methods digest)) methods digest))
    × (methods_in (methods_text methods) ≡ methods)

-- a line of an opinion is read as that opinion, and is not passed over
abbrev pub KeyLinesAreReadAgain : Type 0
KeyLinesAreReadAgain = (place : ℕ) (keyword : Keyword) (said : EdOpinion) (text : List ℕ) → ed_text said ≡ Some text
    → IsOpinionInRange said
    → (ed_of (written place (bare keyword text)) ≡ Ok said)
    × (is_ignored kind.Ed (written place (bare keyword text)) ≡ false)
