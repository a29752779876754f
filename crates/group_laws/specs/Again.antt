-- Lines of signatures are read again, in any kind of document (dir-spec, "Vote and consensus status document formats",
-- the `directory-signature` line).
use Rattle.std.specs.Prelude.{◌≡◌, ℕ, ◌+◌, true, List, [], ◌∷◌, ◌++◌, length, IfSome, Ok, Option, Some, None, codes}
use Rattle.std.specs.{Prelude.option_map, List.join_with_byte}
use Rattle.item_terms.specs.{Bytes.space, Items.Item}
use Rattle.dir_bytes.specs.FieldTexts.{hex_text}
use Rattle.dir_values.specs.{Digests.fingerprint, Names.algorithm, declared.algorithm.Algorithm.Algorithm}
use Rattle.dir_values.specs.declared.digest.{Digest1.Digest1, Fingerprint.Fingerprint}
use Rattle.dirdoc_grammar.specs.{Bodies.{begin_line, body_text}, Writers.is_argument, Writing.{tail, written}}
use Rattle.frame_terms.specs.{Keywords.text_of, declared.keyword.Keyword.Keyword}
use Rattle.frame_values.specs.{Fields.span, Items.with_object, Ranges.AreTwenty, Signatures.known_signature_of}
use Rattle.frame_values.specs.{Signatures.signature_of, declared.found.VoteSignature.VoteSignature}

-- ---- the line

-- the words of who signed: the name of an algorithm or none, the identity, and the digest of the signing key
abbrev pub signer_words : Option (List ℕ) → Fingerprint → Digest1 → List (List ℕ)
signer_words None identity key = hex_text identity.0 ∷ hex_text key.0 ∷ []
signer_words (Some name) identity key = name ∷ hex_text identity.0 ∷ hex_text key.0 ∷ []

-- their text
abbrev pub signer_text : Option (List ℕ) → Fingerprint → Digest1 → List ℕ
signer_text name identity key = join_with_byte space (signer_words name identity key)

-- the name of an algorithm is one word, which spells no identity, and the identity and the digest have twenty bytes
pub record IsSignerInRange (name : Option (List ℕ)) (identity : Fingerprint) (key : Digest1) : Type 0 where
  pub name_is : IfSome name (λ (n : List ℕ). (is_argument n ≡ true) × (fingerprint n ≡ None))
  pub identity_is : AreTwenty identity.0
  pub key_is : AreTwenty key.0

-- ---- what it says

-- the algorithm that a name names or none, where it is known
abbrev pub named_algorithm : Option (List ℕ) → Option (Option Algorithm)
named_algorithm None = Some None
named_algorithm (Some name) = option_map (λ found. Some found) (algorithm name)

-- where the lines of the signature begin whose item stands at a place
abbrev pub lines_start : ℕ → Keyword → List ℕ → ℕ
lines_start place keyword rest =
    place + (length (text_of keyword ++ tail rest) + 1) + (length (begin_line (codes "SIGNATURE")) + 1)

-- what a signature says whose item stands at a place
abbrev pub signature_at : ℕ → Keyword → Option (List ℕ) → Option Algorithm → Fingerprint → Digest1 → List ℕ
    → VoteSignature
signature_at place keyword name found identity key bytes = record {
  algorithm = found;
  identity = identity;
  key_digest = key;
  signature = span (lines_start place keyword (signer_text name identity key)) (body_text bytes);
}

-- the same, and nothing where its algorithm is not known
abbrev pub signature_said : ℕ → Keyword → Option (List ℕ) → Fingerprint → Digest1 → List ℕ → Option VoteSignature
signature_said place keyword name identity key bytes =
    option_map (λ (found : Option Algorithm). signature_at place keyword name found identity key bytes) (named_algorithm name)

-- the item of a signature that was written at a place
abbrev pub signature_written : ℕ → Keyword → Option (List ℕ) → Fingerprint → Digest1 → List ℕ → Item
signature_written place keyword name identity key bytes =
    written place (with_object keyword (signer_text name identity key) (codes "SIGNATURE") bytes)

-- A signature is read as it was written: one of several, which says nothing by an algorithm that is not known, and the
-- one of a document, by an algorithm that is known or none.
abbrev pub SignatureLinesAreReadAgain : Type 0
SignatureLinesAreReadAgain = (place : ℕ) (keyword : Keyword) (name : Option (List ℕ)) (identity : Fingerprint)
    (key : Digest1) (bytes : List ℕ) → IsSignerInRange name identity key
    → (known_signature_of (signature_written place keyword name identity key bytes)
    ≡ Ok (signature_said place keyword name identity key bytes))
    × ((found : Option Algorithm) → named_algorithm name ≡ Some found
    → signature_of (signature_written place keyword name identity key bytes)
    ≡ Ok (signature_at place keyword name found identity key bytes))
