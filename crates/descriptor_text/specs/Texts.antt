-- The canonical text of a server descriptor: its items in the order of the table, with single spaces (dir-spec, "Server
-- descriptor format"). What is computed from a text that was read is not written: `identity`, `digest`, `text`, and what an
-- Ed25519 signature is made over.
use Rattle.std.specs.Prelude.{ℕ, Bool, List, [], ◌∷◌, ◌++◌, map, codes, decimal, if◌then◌else◌, Option, Some, None}
use Rattle.std.specs.Prelude.{option_map}
use Rattle.dir_bytes.specs.FieldTexts.{base64_text}
use Rattle.dir_values.specs.{Ports.summary_text, declared.policy.PolicyItem.PolicyItem}
use Rattle.dirdoc_grammar.specs.Writing.{NewItem, items_text}
use Rattle.descriptor_frame.specs.declared.certificate.EdCert.{EdCert}
use Rattle.frame_terms.specs.declared.keyword.Keyword.{Keyword}
use Rattle.frame_terms.specs.declared.keyword.Keyword.TheVariants as the
use Rattle.frame_values.specs.Items.{bare, with_object, item_if, moment_item}
use Rattle.exit_summary.specs.Texts.{item_text}
use Rattle.descriptor_doc.specs.declared.descriptor.Descriptor.{Descriptor}
use Rattle.descriptor_text.specs.Lines.{bandwidth_text, ed_signature_text, family_text, groups_text, hibernating_text}
use Rattle.descriptor_text.specs.Lines.{router_text}

-- an item with an object of these words, where there are bytes of it
abbrev pub object_if : Keyword → List ℕ → Option (List ℕ) → List NewItem
object_if keyword words None = []
object_if keyword words (Some bytes) = with_object keyword [] words bytes ∷ []

-- the words of an RSA key
abbrev pub rsa_words : List ℕ
rsa_words = codes "RSA PUBLIC KEY"

-- the bytes of an Ed25519 certificate: those that are signed, and the signature
abbrev pub certificate_bytes : EdCert → List ℕ
certificate_bytes certificate = certificate.covered ++ certificate.signature

-- ---- items

-- the relay, and its Ed25519 identity
abbrev pub name_items : Descriptor → List NewItem
name_items d =
    bare the.Router (router_text d.router)
    ∷ object_if the.IdentityEd25519 (codes "ED25519 CERT") (option_map certificate_bytes d.identity_ed25519)
    ++ item_if the.MasterKeyEd25519 (option_map base64_text d.master_key_ed25519)

-- what it runs on, when the descriptor was made, and its RSA identity
abbrev pub origin_items : Descriptor → List NewItem
origin_items d =
    item_if the.Platform d.platform ++ moment_item the.Published d.published
    ∷ item_if the.Fingerprint (option_map groups_text d.fingerprint)

-- for how long it runs, what it can carry, and whether it rests
abbrev pub state_items : Descriptor → List NewItem
state_items d =
    item_if the.Uptime (option_map decimal d.uptime) ++ bare the.Bandwidth (bandwidth_text d.bandwidth)
    ∷ item_if the.Hibernating (option_map hibernating_text d.hibernating)

-- its keys
abbrev pub key_items : Descriptor → List NewItem
key_items d =
    object_if the.OnionKey rsa_words d.onion_key ++ with_object the.SigningKey [] rsa_words d.signing_key
    ∷ item_if the.NtorOnionKey (option_map base64_text d.ntor_onion_key)

-- what an item of an exit policy does
abbrev pub policy_keyword : Bool → Keyword
policy_keyword accept = if accept then the.Accept else the.Reject

-- an item of its exit policy
abbrev pub policy_item : PolicyItem → NewItem
policy_item item = bare (policy_keyword item.accept) (item_text item)

-- its exit policy, item by item, and the summary of that for IPv6
abbrev pub exit_items : Descriptor → List NewItem
exit_items d = map policy_item d.policy ++ item_if the.Ipv6Policy (option_map summary_text d.ipv6_policy)

-- its family and its further addresses
abbrev pub address_items : Descriptor → List NewItem
address_items d = item_if the.Family (option_map family_text d.family) ++ map (bare the.OrAddress) d.or_addresses

-- an item without arguments, where something holds
abbrev pub mark_if : Keyword → Bool → List NewItem
mark_if keyword holds = if holds then bare keyword [] ∷ [] else []

-- whether it answers directory requests over its onion routing port, its protocols and its operator
abbrev pub service_items : Descriptor → List NewItem
service_items d =
    mark_if the.TunnelledDirServer d.tunnelled_dir_server ++ item_if the.Proto d.proto ++ item_if the.Contact d.contact

-- its signatures
abbrev pub signature_items : Descriptor → List NewItem
signature_items d =
    item_if the.RouterSigEd25519 (option_map ed_signature_text d.router_sig_ed25519)
    ++ with_object the.RouterSignature [] (codes "SIGNATURE") d.router_signature ∷ []

-- the items before its exit policy
abbrev pub front_items : Descriptor → List NewItem
front_items d = name_items d ++ origin_items d ++ state_items d ++ key_items d

-- those from there on
abbrev pub back_items : Descriptor → List NewItem
back_items d = exit_items d ++ address_items d ++ service_items d ++ signature_items d

-- the items of a descriptor that says this
abbrev pub descriptor_items : Descriptor → List NewItem
descriptor_items d = front_items d ++ back_items d

-- the text of a descriptor that says this
abbrev pub descriptor_text : Descriptor → List ℕ
descriptor_text d = items_text (descriptor_items d)
