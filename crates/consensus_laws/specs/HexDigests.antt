-- The digests of other flavours that are read are hex (dir-spec, "Serving and fetching detached signatures").
use Rattle.std.specs.Prelude.{◌≡◌, ℕ, List, [], ◌∷◌, Some, Ok}
use Rattle.item_terms.specs.Items.{Item, items_from}
use Rattle.dir_bytes.specs.HexBytes.{hex_bytes}
use Rattle.frame_values.specs.Parts.{part}
use Rattle.detached_frame.specs.{Lines.additional_digest_of, declared.said.AdditionalDigestLine.AdditionalDigestLine}
use Rattle.detached_doc.specs.Facts.{hex_in}

-- The digest of the line, where it is read as one of another flavour, spells in hex the bytes that are kept of it.
abbrev pub SpellsDigest : List ℕ → Item → Type 0
SpellsDigest bytes item =
    (line : AdditionalDigestLine) → additional_digest_of item ≡ Ok line
    → hex_bytes (part bytes line.digest) ≡ Some (hex_in bytes line.digest)

-- it is so of each of these items
abbrev pub EachSpellsDigest : List ℕ → List Item → Type 0
EachSpellsDigest bytes [] = Unit {0}
EachSpellsDigest bytes (item ∷ items) = SpellsDigest bytes item × EachSpellsDigest bytes items

-- It is so of each item of a document.
abbrev pub DigestsAreHex : Type 0
DigestsAreHex = (start limit : ℕ) (bytes : List ℕ) → EachSpellsDigest bytes (items_from start limit bytes).items
