-- A certificate that was written is read again (dir-spec, "Creating key certificates").
use Rattle.std.specs.Prelude.{◌≡◌, ℕ, ◌≤◌, true, List, [], ◌∷◌, ◌++◌, length, codes, IfSome, Ok}
use Rattle.sha1.specs.Sha1.{sha1}
use Rattle.dir_bytes.specs.Causes.{last_moment}
use Rattle.dir_values.specs.declared.digest.Digest1.{Digest1}
use Rattle.dirdoc_grammar.specs.{Writers.is_argument, Writing.{NewItem, AreWritable, items_text}}
use Rattle.frame_terms.specs.declared.keyword.Keyword.TheVariants as the
use Rattle.frame_values.specs.{Items.{bare, with_object}, Ranges.AreTwenty}
use Rattle.authority_certs.specs.{declared.cert.Cert.Cert, Reading.{cert_of, max_cert}, Texts.{cert_items, cert_text}}
use Rattle.authority_certs.specs.Texts.{holder_items, key_items}

-- each of the certificate's values is one that can be read: its address is an argument, its identity twenty bytes,
-- and its moments are of the calendar
pub record SaysInRange (cert : Cert) : Type 0 where
  pub address : IfSome cert.address (λ address. is_argument address ≡ true)
  pub fingerprint : AreTwenty cert.fingerprint.0
  pub published : cert.published ≤ last_moment
  pub expires : cert.expires ≤ last_moment

-- The certificate says what can be read, and its items may be written: its objects are bytes, and no line, no object
-- and not the whole passes its limit.
pub record IsInRange (cert : Cert) : Type 0 where
  pub says : SaysInRange cert
  pub items : AreWritable max_cert 0 (cert_items cert)

-- the items whose text is covered: all of them, the last one without its object
abbrev pub covered_items : Cert → List NewItem
covered_items cert =
    holder_items cert ++ key_items cert ++ with_object the.DirKeyCrosscert [] (codes "ID SIGNATURE") cert.crosscert
    ∷ bare the.DirKeyCertification [] ∷ []

-- the digest of the covered text
abbrev pub covered_digest : Cert → Digest1
covered_digest cert = record { 0 = sha1 (items_text (covered_items cert)) }

-- the certificate as it is read of its text: it says the same, with the digest of that text
abbrev pub as_written : Cert → Cert
as_written cert = record cert { covered = covered_digest cert }

-- A certificate that was written is read again, whatever follows: what is read says the same, has the digest of the
-- text that was written, and ends with it.
abbrev pub CertificatesAreReadAgain : Type 0
CertificatesAreReadAgain = (cert : Cert) (rest : List ℕ) → IsInRange cert
    → cert_of (cert_text cert ++ rest) ≡ Ok (as_written cert, length (cert_text cert))
