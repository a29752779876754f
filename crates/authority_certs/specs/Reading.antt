-- The certificate that bytes begin with, or their first fault (dir-spec, "Creating key certificates").
use Rattle.std.specs.Prelude.{◌≡◌, ℕ, ◌≤◌, List, length, Result, Ok, Err}
use Rattle.item_terms.specs.Items.{items_of}
use Rattle.frame_terms.specs.{declared.fault.ReadRefusal.ReadRefusal, Documents.{document_of, finish}, Refusals.Fails}
use Rattle.authority_certs.specs.{declared.{cert.Cert.Cert, head.CertHead.CertHead}, Heads.{no_head, head_with}}
use Rattle.authority_certs.specs.{Certs.cert_in, Tables.cert_tables}

-- how many bytes a certificate may have
abbrev pub max_cert : ℕ
max_cert = 65536

-- what the certificate says of which this was kept
abbrev pub with_cert : List ℕ → Result (CertHead × ℕ) ReadRefusal → Result (Cert × ℕ) ReadRefusal
with_cert bytes (Ok (head, used)) = Ok (cert_in bytes head, used)
with_cert bytes (Err refusal) = Err refusal

-- the certificate that the bytes begin with, and the place after it; or the first fault
abbrev pub cert_of : List ℕ → Result (Cert × ℕ) ReadRefusal
cert_of bytes =
    with_cert bytes (finish head_with no_head (document_of cert_tables (length bytes) (items_of max_cert bytes)))

-- what reading answers: that certificate, which is within the bytes; or the first fault, or want of memory
abbrev pub ReadsCert : List ℕ → Result (Cert × ℕ) ReadRefusal → Type 0
ReadsCert bytes (Ok (cert, used)) = (cert_of bytes ≡ Ok (cert, used)) × (used ≤ length bytes)
ReadsCert bytes (Err refusal) = Fails refusal (cert_of bytes)
