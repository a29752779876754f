-- A certificate has a byte, and a microdescriptor has one.
use Rattle.std.proofs.Common.{◌≡◌, ℕ, ◌<◌, List, length, Result, Ok, Err, ap, refl, subst}
use Rattle.frame_terms.specs.{Documents.{document_of, finish}, declared.fault.ReadRefusal.ReadRefusal}
use Rattle.item_terms.specs.Items.{items_of}
use Rattle.authority_certs.specs.Heads as cert_heads
use Rattle.authority_certs.specs.{Reading.{cert_of, max_cert, with_cert}, Tables.cert_tables, declared.cert.Cert.Cert}
use Rattle.authority_certs.specs.declared.head.CertHead.{CertHead}
use Rattle.micro_desc.specs.Heads as micro_heads
use Rattle.micro_desc.specs.{Reading.{max_micro, micro_of, with_micro}, Tables.micro_tables}
use Rattle.micro_desc.specs.declared.{head.MicroHead.MicroHead, micro.Micro.Micro}
use Rattle.mirror_core.{proofs.UsedBytes.have_bytes, specs.Bytes.HaveBytes}

-- how many bytes what was read has
abbrev used_of : {X : Type 0} → Result (X × ℕ) ReadRefusal → ℕ
used_of (Ok read) = read.1
used_of (Err refusal) = 0

-- what is kept of a document has a byte
abbrev KeepsBytes : {F : Type 0} → Result (F × ℕ) ReadRefusal → Type 0
KeepsBytes {F} kept = (facts : F) (used : ℕ) → kept ≡ Ok (facts, used) → 0 < used

cert_by : (bytes : List ℕ) (kept : Result (CertHead × ℕ) ReadRefusal) (cert : Cert) (used : ℕ) → KeepsBytes kept
    → with_cert bytes kept ≡ Ok (cert, used) → 0 < used
cert_by bytes (Ok (head, n)) cert used some is = subst (λ (k : ℕ). 0 < k) (ap used_of is) (some head n refl)
cert_by bytes (Err refusal) cert used some is = absurd (cc is)

pub certs_have : HaveBytes cert_of
certs_have bytes cert used some is =
    let read = document_of cert_tables (length bytes) (items_of max_cert bytes) in
    cert_by bytes (finish cert_heads.head_with cert_heads.no_head read) cert used
    (λ head n kept. have_bytes cert_heads.head_with cert_tables cert_heads.no_head head max_cert bytes n some kept) is

micro_by : (bytes : List ℕ) (kept : Result (MicroHead × ℕ) ReadRefusal) (micro : Micro) (used : ℕ) → KeepsBytes kept
    → with_micro bytes kept ≡ Ok (micro, used) → 0 < used
micro_by bytes (Ok (head, n)) micro used some is = subst (λ (k : ℕ). 0 < k) (ap used_of is) (some head n refl)
micro_by bytes (Err refusal) micro used some is = absurd (cc is)

pub micros_have : HaveBytes micro_of
micros_have bytes micro used some is =
    let read = document_of micro_tables (length bytes) (items_of max_micro bytes) in
    micro_by bytes (finish micro_heads.head_with micro_heads.no_head read) micro used
    (λ head n kept. have_bytes micro_heads.head_with micro_tables micro_heads.no_head head max_micro bytes n some kept) is
