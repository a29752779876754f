-- What is read of a certificate is in range, but for the limits (dir-spec, "Creating key certificates").
use Rattle.std.specs.Prelude.{◌≡◌, ℕ, List, All, Ok}
use Rattle.base64.specs.GeneralPurpose.{IsBytes}
use Rattle.grammar_laws.specs.Written.{AreWithinLimits, IsItem}
use Rattle.authority_certs.specs.{Reading.{cert_of, max_cert}, Texts.cert_items, declared.cert.Cert.Cert}
use Rattle.certificate_laws.specs.Again.{IsInRange, SaysInRange}

-- Each of the certificate's values is one that can be read, and each of its items may be written, but for the limits: of
-- its line, of its object and of the whole.
pub record IsInRangeButForLimits (cert : Cert) : Type 0 where
  pub says : SaysInRange cert
  pub items : All IsItem (cert_items cert)

-- A certificate that is read from bytes is in range, but for the limits. It may pass one: its crosscert is written as
-- `ID SIGNATURE`, where it was read as `SIGNATURE`, so that its text may be six bytes longer than what was read.
abbrev pub CertificatesReadAreInRange : Type 0
CertificatesReadAreInRange = (bytes : List ℕ) (cert : Cert) (used : ℕ) → IsBytes bytes → cert_of bytes ≡ Ok (cert, used)
    → IsInRangeButForLimits cert

-- One of which no item passes a limit is in range.
abbrev pub CertificatesWithinLimitsAreInRange : Type 0
CertificatesWithinLimitsAreInRange = (cert : Cert) → IsInRangeButForLimits cert
    → AreWithinLimits max_cert 0 (cert_items cert) → IsInRange cert
