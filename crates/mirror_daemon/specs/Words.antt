-- The grammar of the words of a mirror.
use Rattle.std.specs.Prelude.{ℕ, ◌&&◌, nat_le, List, [], ◌∷◌, String, length, Option, Some, None, codes, if◌then◌else◌}
use Rattle.std.specs.{List.list_all, Global.Global}
use Rattle.clap.specs.Words.{Kinds, Row, first_of}
use Rattle.dir_values.specs.declared.digest.Fingerprint.{Fingerprint}
use Rattle.list_values.specs.Parts.{parts_of}
use Rattle.daemon_words.specs.{Serving.is_address, Values.roster}
use Rattle.mirror_daemon.specs.{CommandLine.{faults, options}, declared.words.MirrorWords.MirrorWords}

-- so many peers are asked at most
abbrev pub most_peers : ℕ
most_peers = 32

-- some texts, where they are addresses and not too many
abbrev pub if_peers : List (List ℕ) → Option (List (List ℕ))
if_peers texts = if nat_le (length texts) most_peers && list_all is_address texts then Some texts else None

-- the addresses that a text has with one comma between them: 1 to 32
abbrev pub peers : List ℕ → Option (List (List ℕ))
peers text = if_peers (parts_of text)

-- the address that a text is, if it is one
abbrev pub address : List ℕ → Option (List ℕ)
address text = if is_address text then Some text else None

-- what a mirror is run with, where all was read
abbrev pub words_to_run : Option (List Fingerprint) → Option (List (List ℕ)) → Option (List ℕ) → Option MirrorWords
words_to_run (Some members) (Some addresses) (Some place) =
    Some (record { roster = members; peers = addresses; listen = place })
words_to_run _ _ _ = None

-- what the texts of the three options tell
abbrev pub words_of : List ℕ → List ℕ → List ℕ → Option MirrorWords
words_of authorities others place = words_to_run (roster authorities) (peers others) (address place)

-- the same, where all three options stand there
abbrev pub words_with : Option (List ℕ) → Option (List ℕ) → Option (List ℕ) → Option MirrorWords
words_with (Some authorities) (Some others) (Some place) = words_of authorities others place
words_with _ _ _ = None

-- what stands among the values
abbrev pub words_in : List Row → Option MirrorWords
words_in values =
    words_with (first_of (codes "authorities") values) (first_of (codes "peers") values) (first_of (codes "listen") values)

-- what the values tell, if nothing is wrong with the words
abbrev pub words_read : Kinds → List Row → Option MirrorWords
words_read [] values = words_in values
words_read _ values = None

-- what the words of a mirror tell, if they are of the grammar
abbrev pub mirror_words : List (String Global) → Option MirrorWords
mirror_words words = words_read (faults words) (options words)
