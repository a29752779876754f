use Rattle.std.proofs.Common.{length, refl}
use Rattle.item_terms.specs.Items.{items_of}
use Rattle.frame_terms.specs.Documents.{document_of}
use Rattle.authority_certs.specs.{Certs.cert_in, Heads.{head_with, no_head}, Reading.{max_cert, with_cert}}
use Rattle.authority_certs.specs.Tables.{cert_tables}
use Rattle.document_commands.proofs.MadeOf.{comes_of}
use Rattle.document_commands.proofs.cert.CertDocument.frame.Goals as goal

pub returns-clause-comes : goal.returns-clause-comes
returns-clause-comes c =
    let bytes = c.args.arg2.now in
    comes_of (λ fault. fault) (with_cert bytes) (λ kept _. cert_in bytes kept) (λ kept n. refl) (λ fault. refl) head_with no_head
    (document_of cert_tables (length bytes) (items_of max_cert bytes))
