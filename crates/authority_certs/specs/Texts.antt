-- The canonical text of a certificate: its items in the order of the table, with single spaces (dir-spec, "Creating key
-- certificates").
use Rattle.std.specs.Prelude.{ℕ, List, [], ◌∷◌, ◌++◌, codes}
use Rattle.dir_bytes.specs.FieldTexts.{hex_text}
use Rattle.dirdoc_grammar.specs.Writing.{NewItem, items_text}
use Rattle.frame_terms.specs.declared.keyword.Keyword.TheVariants as the
use Rattle.frame_values.specs.Items.{bare, with_object, item_if, moment_item}
use Rattle.authority_certs.specs.declared.cert.Cert.{Cert}

-- whose certificate it is
abbrev pub holder_items : Cert → List NewItem
holder_items cert =
    bare the.DirKeyCertificateVersion (codes "3") ∷ item_if the.DirAddress cert.address
    ++ bare the.Fingerprint (hex_text cert.fingerprint.0) ∷ []

-- its keys and its times
abbrev pub key_items : Cert → List NewItem
key_items cert =
    with_object the.DirIdentityKey [] (codes "RSA PUBLIC KEY") cert.identity_key
    ∷ moment_item the.DirKeyPublished cert.published ∷ moment_item the.DirKeyExpires cert.expires
    ∷ with_object the.DirSigningKey [] (codes "RSA PUBLIC KEY") cert.signing_key ∷ []

-- its signatures
abbrev pub proof_items : Cert → List NewItem
proof_items cert =
    with_object the.DirKeyCrosscert [] (codes "ID SIGNATURE") cert.crosscert
    ∷ with_object the.DirKeyCertification [] (codes "SIGNATURE") cert.certification ∷ []

-- the items of a certificate that says this
abbrev pub cert_items : Cert → List NewItem
cert_items cert = holder_items cert ++ key_items cert ++ proof_items cert

-- the text of a certificate that says this
abbrev pub cert_text : Cert → List ℕ
cert_text cert = items_text (cert_items cert)
