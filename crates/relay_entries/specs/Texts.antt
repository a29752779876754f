-- The texts of what documents that list relays say of a relay (dir-spec, "Vote and consensus status document formats").
use Rattle.std.specs.{Prelude.{ℕ, List, [], ◌∷◌, ◌++◌, map, codes, decimal, Option, Some, None}, List.join_with_byte}
use Rattle.dir_bytes.specs.FieldTexts.{address_text, base64_text, moment_text}
use Rattle.dir_values.specs.{Digests.{digest1_text, digest2_text}, declared.digest.{Digest1.Digest1, Digest2.Digest2}}
use Rattle.dir_values.specs.declared.digest.Fingerprint.{Fingerprint}
use Rattle.frame_values.specs.Parts.{moment_of}
use Rattle.item_terms.specs.Bytes.{comma, space}
use Rattle.relay_entries.specs.declared.said.{Bandwidths.Bandwidths, EdOpinion.EdOpinion}
use Rattle.relay_entries.specs.declared.said.EdOpinion.TheVariants as opinion

-- who a relay is: its nickname and its identity
abbrev pub named_text : List ℕ → Fingerprint → List ℕ
named_text nickname identity = nickname ++ space ∷ base64_text identity.0

-- when its descriptor was published, its IPv4 address, its onion routing port and its directory port
abbrev pub reached_text : ℕ → ℕ → ℕ → ℕ → List ℕ
reached_text published ip or_port dir_port =
    moment_text (moment_of published) ++ space ∷ address_text ip ++ space ∷ decimal or_port ++ space ∷ decimal dir_port

-- who it is, the digest of its descriptor, and the rest
abbrev pub relay_text : List ℕ → Fingerprint → Digest1 → ℕ → ℕ → ℕ → ℕ → List ℕ
relay_text nickname identity digest published ip or_port dir_port =
    named_text nickname identity ++ space ∷ digest1_text digest ++ space ∷ reached_text published ip or_port dir_port

-- a word of a key and a number, where there is one
abbrev pub number_word : List ℕ → Option ℕ → List (List ℕ)
number_word key None = []
number_word key (Some number) = (key ++ decimal number) ∷ []

-- bandwidths by their keys; nothing where neither is known
abbrev pub bandwidths_text : Bandwidths → List ℕ
bandwidths_text w =
    join_with_byte space (number_word (codes "Bandwidth=") w.bandwidth ++ number_word (codes "Measured=") w.measured)

-- methods with commas between them
abbrev pub methods_text : List ℕ → List ℕ
methods_text methods = join_with_byte comma (map decimal methods)

-- a digest behind a space and the name of its algorithm
abbrev pub sha256_text : Digest2 → List ℕ
sha256_text digest = codes " sha256=" ++ digest2_text digest

-- methods, and the digest of the microdescriptor that is made under them
abbrev pub micro_text : List ℕ → Digest2 → List ℕ
micro_text methods digest = methods_text methods ++ sha256_text digest

-- an opinion of a relay's Ed25519 identity, where there is one
abbrev pub ed_text : EdOpinion → Option (List ℕ)
ed_text (opinion.Key bytes) = Some (codes "ed25519 " ++ base64_text bytes)
ed_text opinion.None = Some (codes "ed25519 none")
ed_text opinion.Absent = None
