use Rattle.std.proofs.Common.{length, refl}
use Rattle.item_terms.specs.Items.{items_of}
use Rattle.frame_terms.specs.Documents.{document_of}
use Rattle.detached_frame.specs.Tables.{detached_tables}
use Rattle.detached_doc.specs.{Facts.detached_in, Kept.{kept_with, none_kept}, Reading.{max_detached, with_detached}}
use Rattle.document_commands.proofs.MadeOf.{comes_of}
use Rattle.document_commands.proofs.detached.DetachedDocument.frame.Goals as goal

pub returns-clause-comes : goal.returns-clause-comes
returns-clause-comes c =
    let bytes = c.args.arg2.now in
    comes_of (λ fault. fault) (with_detached bytes) (λ kept _. detached_in bytes kept) (λ kept n. refl) (λ fault. refl) kept_with none_kept
    (document_of detached_tables (length bytes) (items_of max_detached bytes))
