-- The certificate of an authority of a rehearsal (dir-spec, "Creating key certificates"), signed by the test scheme.
use Rattle.std.specs.Prelude.{ℕ, List, [], ◌∷◌, ◌++◌, None, codes}
use Rattle.sha1.specs.Sha1.{sha1}
use Rattle.dir_bytes.specs.FieldTexts.{hex_text}
use Rattle.dirdoc_grammar.specs.{Bodies.object_text, Writing.{NewItem, items_text}}
use Rattle.frame_terms.specs.declared.keyword.Keyword.TheVariants as the
use Rattle.frame_values.specs.Items.{bare, moment_item, with_object}
use Rattle.key_port.specs.TestScheme.{test_signature}
use Rattle.key_port.specs.declared.verifier.KeyKind.TheVariants as kind
use Rattle.authority_certs.specs.declared.cert.Cert.{Cert}
use Rattle.vote_rehearsal.specs.declared.authority.Authority.{Authority}

-- 2025-12-01 00:00:00, when it was made
abbrev pub certificate_published : ℕ
certificate_published = 1764547200

-- 2026-12-01 00:00:00, when it expires
abbrev pub certificate_expires : ℕ
certificate_expires = 1796083200

-- the signing key's signature over the digest of the identity key
abbrev pub crosscert_of : Authority → List ℕ
crosscert_of authority = test_signature kind.Signing authority.signing_key (sha1 authority.identity_key)

-- whose certificate it is
abbrev pub holder_items : Authority → List NewItem
holder_items authority =
    bare the.DirKeyCertificateVersion (codes "3") ∷ bare the.Fingerprint (hex_text authority.identity.0) ∷ []

-- its keys and its times
abbrev pub key_items : Authority → List NewItem
key_items authority =
    with_object the.DirIdentityKey [] (codes "RSA PUBLIC KEY") authority.identity_key
    ∷ moment_item the.DirKeyPublished certificate_published ∷ moment_item the.DirKeyExpires certificate_expires
    ∷ with_object the.DirSigningKey [] (codes "RSA PUBLIC KEY") authority.signing_key ∷ []

-- its last items, up to the certification's object
abbrev pub last_items : Authority → List NewItem
last_items authority =
    with_object the.DirKeyCrosscert [] (codes "ID SIGNATURE") (crosscert_of authority)
    ∷ bare the.DirKeyCertification [] ∷ []

-- the text that the certification is made over: through the line `dir-key-certification`
unfoldable pub covered_text : Authority → List ℕ
covered_text authority = items_text (holder_items authority ++ key_items authority ++ last_items authority)

-- its digest
abbrev pub covered_digest : Authority → List ℕ
covered_digest authority = sha1 (covered_text authority)

-- the identity key's signature over that
abbrev pub certification_of : Authority → List ℕ
certification_of authority = test_signature kind.Identity authority.identity_key (covered_digest authority)

-- the bytes of the certificate
unfoldable pub certificate_bytes : Authority → List ℕ
certificate_bytes authority =
    covered_text authority ++ object_text (codes "SIGNATURE") (certification_of authority)

-- what the certificate says
unfoldable pub certificate_of : Authority → Cert
certificate_of authority = record {
  address = None;
  fingerprint = authority.identity;
  identity_key = authority.identity_key;
  published = certificate_published;
  expires = certificate_expires;
  signing_key = authority.signing_key;
  crosscert = crosscert_of authority;
  certification = certification_of authority;
  covered = record { 0 = covered_digest authority };
}
