use Rattle.std.proofs.Common.{◌-◌, length, drop, refl, take}
use Rattle.item_terms.specs.Items.{items_of}
use Rattle.frame_terms.specs.Documents.{document_of}
use Rattle.descriptor_frame.specs.Tables.{descriptor_tables}
use Rattle.descriptor_doc.specs.{Descriptors.descriptor_in, Heads.{kept_with, none_kept}, Reading.front_of}
use Rattle.descriptor_doc.{specs.Reading.{max_descriptor, with_descriptor}, proofs.DescriptorPlaces.descriptor_faults}
use Rattle.document_commands.proofs.MadeOf.{comes_behind}
use Rattle.document_commands.proofs.descriptor.DescriptorDocument.frame.Goals as goal

pub returns-clause-comes : goal.returns-clause-comes
returns-clause-comes c =
    let n = front_of c.args.arg2.now in
    let own = drop n c.args.arg2.now in
    comes_behind n (λ fault. fault) (with_descriptor n own) (λ kept end. descriptor_in (take end own) kept)
    (λ kept end. refl) (λ fault. refl) kept_with none_kept
    (document_of descriptor_tables (length own) (items_of (max_descriptor - n) own))

pub returns-clause-within : goal.returns-clause-within
returns-clause-within c = λ some. descriptor_faults
