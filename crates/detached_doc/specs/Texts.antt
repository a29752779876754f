-- The text of detached signatures: the digest, the times, the digests of other flavours, their signatures, and those of the
-- ns flavour (dir-spec, "Serving and fetching detached signatures").
use Rattle.std.specs.{Prelude.{ℕ, List, [], ◌∷◌, ◌++◌, Option, Some, None, codes, map, if◌then◌else◌}, List.flat_map}
use Rattle.item_terms.specs.Bytes.{space}
use Rattle.dir_bytes.specs.FieldTexts.{hex_text}
use Rattle.dirdoc_grammar.specs.Writing.{NewItem, items_text}
use Rattle.frame_terms.specs.declared.keyword.Keyword.TheVariants as the
use Rattle.frame_values.specs.Items.{bare, moment_item, with_object}
use Rattle.consensus_terms.specs.{Signed.signature_item, declared.signature.SignatureLine.SignatureLine}
use Rattle.detached_doc.specs.declared.detached.{AdditionalDigest.AdditionalDigest, Detached.Detached}
use Rattle.detached_doc.specs.{declared.detached.DetachedLine.DetachedLine, Order.in_order}

-- ---- the items

-- the digest of another flavour: the flavour, the algorithm, and the digest in hex
abbrev pub digest_item : AdditionalDigest → NewItem
digest_item digest =
    bare the.AdditionalDigest (digest.flavour ++ space ∷ (digest.algorithm ++ space ∷ hex_text digest.digest))

-- by whom another flavour is signed: the flavour, the algorithm, SHA-1 too, the identity, and the digest of the signing key
abbrev pub additional_text : List ℕ → SignatureLine → List ℕ
additional_text flavour line =
    flavour ++ space ∷ (line.algorithm ++ space ∷ (hex_text line.identity.0 ++ space ∷ hex_text line.key_digest.0))

-- a signature over another flavour
abbrev pub additional_item : List ℕ → SignatureLine → NewItem
additional_item flavour line =
    with_object the.AdditionalSignature (additional_text flavour line) (codes "SIGNATURE") line.signature

-- the item of a signature, where it is over another flavour
abbrev pub additional_if : Option (List ℕ) → SignatureLine → List NewItem
additional_if None line = []
additional_if (Some flavour) line = additional_item flavour line ∷ []

-- the item of a signature, where it is over the ns flavour
abbrev pub plain_if : Option (List ℕ) → SignatureLine → List NewItem
plain_if None line = signature_item line ∷ []
plain_if (Some flavour) line = []

-- the items that stand once
abbrev pub head_items : Detached → List NewItem
head_items d =
    bare the.ConsensusDigest (hex_text d.ns.0)
    ∷ moment_item the.ValidAfter d.valid_after
    ∷ moment_item the.FreshUntil d.fresh_until
    ∷ moment_item the.ValidUntil d.valid_until
    ∷ []

-- those of signatures over other flavours, in this order
abbrev pub additional_items : List DetachedLine → List NewItem
additional_items lines = flat_map (λ (line : DetachedLine). additional_if line.flavour line.line) lines

-- those of signatures over the ns flavour, in this order
abbrev pub plain_items : List DetachedLine → List NewItem
plain_items lines = flat_map (λ (line : DetachedLine). plain_if line.flavour line.line) lines

-- all of them, with these signatures in this order
abbrev pub items_with : Detached → List DetachedLine → List NewItem
items_with d lines =
    head_items d ++ (map digest_item d.additional ++ (additional_items lines ++ plain_items lines))

-- all of them: the digests of other flavours in their order, the signatures of each sort ascending by identity
abbrev pub detached_items : Detached → List NewItem
detached_items d = items_with d (in_order d.signatures)

-- ---- the text

-- the text of detached signatures
abbrev pub detached_text : Detached → List ℕ
detached_text d = items_text (detached_items d)
