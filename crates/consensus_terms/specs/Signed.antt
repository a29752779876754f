-- The signatures of a consensus (dir-spec, "Vote and consensus status document formats").
use Rattle.std.specs.{Prelude.{ℕ, false, List, [], ◌∷◌, ◌++◌, Some, codes, if◌then◌else◌}, List.{fold, flat_map}}
use Rattle.std.specs.Str.{bytes_eq}
use Rattle.sha1.specs.Sha1.{sha1}
use Rattle.sha2.specs.Sha256.{sha256}
use Rattle.item_terms.specs.Bytes.{space}
use Rattle.dir_bytes.specs.FieldTexts.{hex_text}
use Rattle.dir_values.specs.Digests.{identity_below}
use Rattle.dirdoc_grammar.specs.Writing.{NewItem, item_text}
use Rattle.consensus_terms.specs.declared.signature.{Digests.Digests, SignatureLine.SignatureLine}

-- ---- what is signed

-- the signed part: the text without signatures, and the first word after it with one space
abbrev pub signed_part : List ℕ → List ℕ
signed_part text = text ++ codes "directory-signature "

-- its digests
abbrev pub digests_of : List ℕ → Digests
digests_of text = record {
  sha1 = record { 0 = sha1 (signed_part text) };
  sha256 = record { 0 = sha256 (signed_part text) };
}

-- ---- the order of signatures

-- a signature among others that ascend by identity, behind those of its own identity
abbrev pub with_line : List SignatureLine → SignatureLine → List SignatureLine
with_line [] line = line ∷ []
with_line (first ∷ rest) line =
    if identity_below line.identity first.identity then line ∷ first ∷ rest else first ∷ with_line rest line

-- signatures ascending by identity, those of one identity in their order
abbrev pub in_order : List SignatureLine → List SignatureLine
in_order lines = fold with_line [] lines

-- ---- their texts

-- the name of an algorithm and a space; SHA-1 is not named
abbrev pub algorithm_text : List ℕ → List ℕ
algorithm_text name = if bytes_eq name (codes "sha1") then [] else name ++ space ∷ []

-- by whom a consensus is signed, and with which key
abbrev pub signer_text : SignatureLine → List ℕ
signer_text line = algorithm_text line.algorithm ++ hex_text line.identity.0 ++ space ∷ hex_text line.key_digest.0

-- a signature, as an item
abbrev pub signature_item : SignatureLine → NewItem
signature_item line = record {
  keyword = codes "directory-signature";
  arguments = signer_text line;
  spaced = false;
  object = Some (record { words = codes "SIGNATURE"; bytes = line.signature });
}

-- the text of a signature
unfoldable pub signature_text : SignatureLine → List ℕ
signature_text line = item_text (signature_item line)

-- the texts of signatures
abbrev pub signature_texts : List SignatureLine → List ℕ
signature_texts lines = flat_map signature_text lines

-- a text without signatures with signatures behind it
abbrev pub signed : List ℕ → List SignatureLine → List ℕ
signed text lines = text ++ signature_texts (in_order lines)
