-- What the private functions of this crate say.
use Rattle.std.specs.{Prelude.{ℕ, List, [], ◌∷◌, ◌++◌, codes, if◌then◌else◌}, List.flat_map, Str.bytes_eq}
use Rattle.item_terms.specs.Bytes.{line_feed, space}
use Rattle.dir_bytes.specs.FieldTexts.{hex_text}
use Rattle.dirdoc_grammar.specs.Writing.{item_text, items_text}
use Rattle.frame_terms.specs.{Keywords.text_of, declared.keyword.Keyword.Keyword}
use Rattle.consensus_terms.specs.declared.signature.SignatureLine.{SignatureLine}
use Rattle.detached_doc.specs.declared.detached.{AdditionalDigest.AdditionalDigest, Detached.Detached}
use Rattle.detached_doc.specs.{declared.detached.DetachedLine.DetachedLine, Texts.{additional_if, digest_item}}
use Rattle.detached_doc.specs.Texts.{head_items, plain_if}

-- a keyword and two words, behind a space each
abbrev pub two_words : Keyword → List ℕ → List ℕ → List ℕ
two_words keyword first second = text_of keyword ++ space ∷ (first ++ space ∷ second)

-- an identity and the digest of a key, behind a space each, and the end of the line
abbrev pub signer_part : SignatureLine → List ℕ
signer_part line =
    space ∷ (hex_text line.identity.0 ++ space ∷ (hex_text line.key_digest.0 ++ line_feed ∷ []))

-- the name of an algorithm behind a space; SHA-1 is not named
abbrev pub named_part : List ℕ → List ℕ
named_part name = if bytes_eq name (codes "sha1") then [] else space ∷ name

-- the text of the items that stand once
unfoldable pub head_text : Detached → List ℕ
head_text d = items_text (head_items d)

-- the text of the digest of another flavour
unfoldable pub digest_text : AdditionalDigest → List ℕ
digest_text digest = item_text (digest_item digest)

-- the text of a signature, where it is over another flavour
unfoldable pub additional_line_text : DetachedLine → List ℕ
additional_line_text line = items_text (additional_if line.flavour line.line)

-- the text of a signature, where it is over the ns flavour
unfoldable pub plain_line_text : DetachedLine → List ℕ
plain_line_text line = items_text (plain_if line.flavour line.line)

-- the text with these signatures in this order
abbrev pub parts : Detached → List DetachedLine → List ℕ
parts d lines =
    head_text d
    ++ (flat_map digest_text d.additional
    ++ (flat_map additional_line_text lines
    ++ flat_map plain_line_text lines))
