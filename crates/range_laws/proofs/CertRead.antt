-- What is read of a certificate is in range, but for the limits.
use Rattle.std.proofs.Common.{length, refl, sym, subst}
use Rattle.authority_certs.specs.{Certs.cert_in, Heads.{head_with, no_head}, Reading.{max_cert, with_cert}}
use Rattle.authority_certs.specs.{Tables.cert_tables, Texts.cert_items, declared.frame.CertKind.CertKind}
use Rattle.certificate_laws.specs.Again.{SaysInRange}
use Rattle.row_laws.proofs.KindRanges.{read_is}
use Rattle.range_laws.specs.Certificates.{CertificatesReadAreInRange, CertificatesWithinLimitsAreInRange}
use Rattle.range_laws.{specs.Certificates.IsInRangeButForLimits, proofs.CertItems.cert_may}
use Rattle.range_laws.proofs.CertRanges.{HaveCertificates, has_bytes, nothing_says, section_says}
use Rattle.vote_laws.proofs.MayWrite.{items_writable}

abbrev itself : CertKind → CertKind
itself kind = kind

alone : (name : Unit {0}) → HaveCertificates cert_tables name itself
alone name = record {
  rows = refl;
  values = λ across of item. refl;
  apart = λ around keyword begins. absurd (cc (begins));
}

pub cert_in_range : CertificatesReadAreInRange
cert_in_range bytes cert used are is =
    let found =
    read_is cert_tables bytes 0 max_cert (length bytes) head_with no_head (λ head. SaysInRange (cert_in bytes head))
    (nothing_says bytes)
    (λ head section taken each counts says. section_says cert_tables section itself (alone section) bytes are taken each)
    (cert_in bytes) (with_cert bytes) (λ head after. refl) (λ refusal. refl) cert used is in
    subst IsInRangeButForLimits (sym found.1)
    (record { says = found.2; items = cert_may (cert_in bytes found.0) found.2 (has_bytes bytes found.0 are) })

-- ---- with the limits

pub cert_within : CertificatesWithinLimitsAreInRange
cert_within cert is within = record { says = is.says; items = items_writable max_cert 0 (cert_items cert) is.items within }
