-- What a certificate says (dir-spec, "Creating key certificates").
use Rattle.std.specs.Prelude.{ℕ, List, slice_range, option_map}
use Rattle.sha1.specs.Sha1.{sha1}
use Rattle.frame_values.specs.Parts.{part, bytes_in, moment_of}
use Rattle.authority_certs.specs.declared.{cert.Cert.Cert, head.CertHead.CertHead}

-- the text that the certification is made over: from the first item through the line `dir-key-certification` with its
-- NL
abbrev pub covered_part : List ℕ → CertHead → List ℕ
covered_part bytes head = slice_range bytes head.begin head.covered_end

-- the certificate's bytes, from its first item through its last object
abbrev pub whole_part : List ℕ → CertHead → List ℕ
whole_part bytes head = slice_range bytes head.begin head.end

-- what the certificate says of whose section this was kept, in these bytes
abbrev pub cert_in : List ℕ → CertHead → Cert
cert_in bytes head = record {
  address = option_map (part bytes) head.address;
  fingerprint = head.fingerprint;
  identity_key = bytes_in bytes head.identity_key;
  published = moment_of head.published;
  expires = moment_of head.expires;
  signing_key = bytes_in bytes head.signing_key;
  crosscert = bytes_in bytes head.crosscert;
  certification = bytes_in bytes head.certification;
  covered = record { 0 = sha1 (covered_part bytes head) };
}
