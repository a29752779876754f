-- The text of a bandwidth file.
use Rattle.std.specs.{Prelude.{ℕ, List, [], ◌∷◌, ◌++◌, codes, decimal}, List.flat_map}
use Rattle.item_terms.specs.Bytes.{line_feed}
use Rattle.dir_values.specs.{Digests.fingerprint_text, declared.digest.Fingerprint.Fingerprint}
use Rattle.bandwidth_file.specs.declared.file.{BandFile.BandFile, Header.Header}

-- a header line
abbrev pub header_text : Header → List ℕ
header_text header = header.key ++ 61 ∷ [] ++ header.value ++ line_feed ∷ []

-- a relay line
abbrev pub relay_text : Fingerprint × ℕ → List ℕ
relay_text relay = codes "node_id=$" ++ fingerprint_text relay.0 ++ codes " bw=" ++ decimal relay.1 ++ line_feed ∷ []

-- the time of measuring, the headers, the line between, and the relays by their identities
abbrev pub text_of : BandFile → List ℕ
text_of file =
    decimal file.timestamp ++ line_feed ∷ [] ++ flat_map header_text file.headers
    ++ codes "=====\n" ++ flat_map relay_text file.relays
