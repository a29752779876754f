use Rattle.std.proofs.Common.{length, refl}
use Rattle.item_terms.specs.Items.{items_of}
use Rattle.frame_terms.specs.Documents.{document_of}
use Rattle.micro_desc.specs.{Heads.{head_with, no_head}, Micros.micro_in, Reading.{max_micro, with_micro}}
use Rattle.micro_desc.specs.Tables.{micro_tables}
use Rattle.document_commands.{specs.NextMicro.{next_micro, or_refused, unless_behind}, proofs.MadeOf.comes_of}
use Rattle.document_commands.proofs.micro.MicroDocument.frame.Goals as goal

pub returns-clause-comes : goal.returns-clause-comes
returns-clause-comes c =
    let bytes = c.args.arg2.now in
    comes_of (unless_behind (next_micro bytes)) (λ read. or_refused bytes (with_micro bytes read)) (λ kept _. micro_in bytes kept)
    (λ kept n. refl) (λ fault. refl) head_with no_head (document_of micro_tables (length bytes) (items_of max_micro bytes))
