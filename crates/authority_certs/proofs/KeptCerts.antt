-- The certificate that is read.
use Rattle.std.proofs.Common.{◌≡◌, ℕ, List, length, Ok, Result, sym, ap, ◌∙◌}
use Rattle.item_terms.specs.Items.{Contents, items_of}
use Rattle.frame_terms.specs.{declared.fault.ReadRefusal.ReadRefusal, Documents.{document_of, finish}}
use Rattle.authority_certs.specs.{declared.{cert.Cert.Cert, head.CertHead.CertHead}, Heads.{no_head, head_with}}
use Rattle.authority_certs.specs.{Certs.cert_in, Tables.cert_tables, Reading.{cert_of, max_cert, with_cert}}

abbrev kept_of : CertHead → Contents → List ℕ → Result (CertHead × ℕ) ReadRefusal
kept_of start items bytes = finish head_with start (document_of cert_tables (length bytes) items)

abbrev ok_of : Cert → ℕ → Result (Cert × ℕ) ReadRefusal
ok_of cert used = Ok (cert, used)

pub reads : (bytes : List ℕ) (start head : CertHead) (items : Contents) (used : ℕ) (cert : Cert)
    → items ≡ items_of max_cert bytes → start ≡ no_head
    → finish head_with start (document_of cert_tables (length bytes) items) ≡ Ok (head, used)
    → cert ≡ cert_in bytes head → cert_of bytes ≡ Ok (cert, used)
reads bytes start head items used cert e f g h =
    let kept : kept_of no_head (items_of max_cert bytes) bytes ≡ Ok (head, used) =
    ap (λ (i : Contents). kept_of no_head i bytes) (sym e) ∙ ap (λ (s : CertHead). kept_of s items bytes) (sym f) ∙ g in
    ap (λ (r : Result (CertHead × ℕ) ReadRefusal). with_cert bytes r) kept ∙ ap (λ (c : Cert). ok_of c used) (sym h)
