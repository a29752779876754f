-- A server descriptor that was written is read again (dir-spec, "Server descriptor format").
use Rattle.std.specs.Prelude.{◌≡◌, ℕ, List, [], ◌∷◌, ◌++◌, length, option_map, Some, Ok}
use Rattle.sha1.specs.Sha1.{sha1}
use Rattle.sha2.specs.Sha256.{sha256}
use Rattle.item_terms.specs.Bytes.{space}
use Rattle.dirdoc_grammar.specs.Writing.{NewItem, items_text}
use Rattle.frame_terms.specs.Keywords.{text_of}
use Rattle.frame_terms.specs.declared.keyword.Keyword.TheVariants as the
use Rattle.frame_values.specs.Items.{bare, item_if}
use Rattle.descriptor_doc.specs.declared.descriptor.{Descriptor.Descriptor, EdSignature.EdSignature}
use Rattle.descriptor_doc.specs.{Descriptors.ed_prefix, Reading.descriptor_of}
use Rattle.descriptor_text.specs.{Lines.ed_signature_text, Texts.{address_items, descriptor_text, exit_items}}
use Rattle.descriptor_text.specs.Texts.{front_items, service_items}
use Rattle.descriptor_laws.specs.Ranges.{IsInRange}

-- the items before both signatures
abbrev pub unsigned_items : Descriptor → List NewItem
unsigned_items d = front_items d ++ (exit_items d ++ address_items d ++ service_items d)

-- the item of the Ed25519 signature
abbrev pub ed_signature_items : Descriptor → List NewItem
ed_signature_items d = item_if the.RouterSigEd25519 (option_map ed_signature_text d.router_sig_ed25519)

-- the text that the signing key signs: all items, the last one without its object
abbrev pub signed_text : Descriptor → List ℕ
signed_text d = items_text (unsigned_items d ++ ed_signature_items d ++ bare the.RouterSignature [] ∷ [])

-- the text that the Ed25519 signature is made over: through the first space after `router-sig-ed25519`
abbrev pub ed_signed_text : Descriptor → List ℕ
ed_signed_text d = items_text (unsigned_items d) ++ (text_of the.RouterSigEd25519 ++ space ∷ [])

-- an Ed25519 signature as it is read of that text
abbrev pub signature_as_written : Descriptor → EdSignature → EdSignature
signature_as_written d signature =
    record { signature = signature.signature; covered = record { 0 = sha256 (ed_prefix ++ ed_signed_text d) } }

-- the descriptor as it is read of its text: it says the same, with what is computed from that text; of its families nothing
-- is written, or read
abbrev pub as_written : Descriptor → Descriptor
as_written d = record d {
  router_sig_ed25519 = option_map (signature_as_written d) d.router_sig_ed25519;
  identity = record { 0 = sha1 d.signing_key };
  digest = record { 0 = sha1 (signed_text d) };
  text = descriptor_text d;
  family_certs = Some [];
}

-- A descriptor that was written is read again, whatever follows: what is read says the same, has the identity, the digests
-- and the text of the text that was written, and ends with it.
abbrev pub DescriptorsAreReadAgain : Type 0
DescriptorsAreReadAgain = (d : Descriptor) (rest : List ℕ) → IsInRange d
    → descriptor_of (descriptor_text d ++ rest) ≡ Ok (as_written d, length (descriptor_text d))
