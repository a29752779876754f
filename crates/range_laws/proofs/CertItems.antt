-- The items of a certificate that says what is in range may be written, but for the limits.
use Rattle.std.proofs.Common.{◌≡◌, ℕ, true, List, [], ◌∷◌, ◌++◌, Option, Some, None, refl}
use Rattle.std.{proofs.lemmas.List.Elements.All-append, specs.Prelude.{IfSome, codes}}
use Rattle.base64.specs.GeneralPurpose.{IsBytes}
use Rattle.dir_bytes.specs.FieldTexts.{hex_text}
use Rattle.dirdoc_grammar.specs.{Writers.is_argument, Writing.IsLineRest}
use Rattle.grammar_laws.{proofs.LineRests.{rest_of_argument, rest_of_nothing}, specs.Written.IsItem}
use Rattle.frame_terms.specs.declared.keyword.Keyword.{Keyword}
use Rattle.frame_terms.specs.declared.keyword.Keyword.TheVariants as the
use Rattle.frame_values.specs.Items.{bare, item_if, moment_item, with_object}
use Rattle.frame_laws.proofs.WordTexts.{word_of_identity}
use Rattle.authority_certs.specs.{Texts.{cert_items, holder_items, key_items, proof_items}, declared.cert.Cert.Cert}
use Rattle.certificate_laws.specs.Again.{SaysInRange}
use Rattle.vote_laws.proofs.MayWrite.{MayWrite, bare_may, first_may, if_may, none_may, object_may, timed_may, two_may}

-- the keys and signatures are bytes
pub record HasBytes (cert : Cert) : Type 0 where
  pub identity_key : IsBytes cert.identity_key
  pub signing_key : IsBytes cert.signing_key
  pub crosscert : IsBytes cert.crosscert
  pub certification : IsBytes cert.certification

address_rest : (address : Option (List ℕ)) → IfSome address (λ text. is_argument text ≡ true)
    → IfSome address IsLineRest
address_rest None is = tt
address_rest (Some text) is = rest_of_argument text is

three : IsLineRest (codes "3")
three = rest_of_argument (codes "3") refl

holder_may : (cert : Cert) → SaysInRange cert → MayWrite (holder_items cert)
holder_may cert says =
    let hex = hex_text cert.fingerprint.0 in
    let word = word_of_identity cert.fingerprint.0 says.fingerprint.count says.fingerprint.each in
    let version = bare the.DirKeyCertificateVersion (codes "3") in
    let address = item_if the.DirAddress cert.address in
    let identity = bare the.Fingerprint hex in
    All-append IsItem (version ∷ address) (identity ∷ [])
    (first_may version address (bare_may the.DirKeyCertificateVersion (codes "3") three)
    (if_may the.DirAddress cert.address (address_rest cert.address says.address)))
    (first_may identity [] (bare_may the.Fingerprint hex (rest_of_argument hex word)) none_may)

key_may : (keyword : Keyword) (bytes : List ℕ) → IsBytes bytes
    → IsItem (with_object keyword [] (codes "RSA PUBLIC KEY") bytes)
key_may keyword bytes are = object_may keyword [] (codes "RSA PUBLIC KEY") bytes rest_of_nothing refl are

keys_may : (cert : Cert) → HasBytes cert → MayWrite (key_items cert)
keys_may cert has =
    let a = with_object the.DirIdentityKey [] (codes "RSA PUBLIC KEY") cert.identity_key in
    let b = moment_item the.DirKeyPublished cert.published in
    let c = moment_item the.DirKeyExpires cert.expires in
    let d = with_object the.DirSigningKey [] (codes "RSA PUBLIC KEY") cert.signing_key in
    first_may a (b ∷ c ∷ d ∷ []) (key_may the.DirIdentityKey cert.identity_key has.identity_key)
    (first_may b (c ∷ d ∷ []) (timed_may the.DirKeyPublished cert.published)
    (two_may c d (timed_may the.DirKeyExpires cert.expires) (key_may the.DirSigningKey cert.signing_key has.signing_key)))

proofs_may : (cert : Cert) → HasBytes cert → MayWrite (proof_items cert)
proofs_may cert has =
    let crosscert = codes "ID SIGNATURE" in
    let certification = codes "SIGNATURE" in
    two_may (with_object the.DirKeyCrosscert [] crosscert cert.crosscert)
    (with_object the.DirKeyCertification [] certification cert.certification)
    (object_may the.DirKeyCrosscert [] crosscert cert.crosscert rest_of_nothing refl has.crosscert)
    (object_may the.DirKeyCertification [] certification cert.certification rest_of_nothing refl has.certification)

pub cert_may : (cert : Cert) → SaysInRange cert → HasBytes cert → MayWrite (cert_items cert)
cert_may cert says has =
    All-append IsItem (holder_items cert ++ key_items cert) (proof_items cert)
    (All-append IsItem (holder_items cert) (key_items cert) (holder_may cert says) (keys_may cert has))
    (proofs_may cert has)
