use Rattle.std.proofs.Common.{length, refl, subst, sym}
use Rattle.item_terms.specs.Items.{items_of}
use Rattle.frame_terms.specs.Documents.{document_of}
use Rattle.consensus_frame.specs.Tables.{consensus_tables}
use Rattle.consensus_terms.specs.declared.flavour.Flavour.{Flavour}
use Rattle.consensus_doc.specs.{Drafts.{no_draft, with_section}, Reading.{consensus_in, consensus_of, flavour_of}}
use Rattle.consensus_doc.specs.Reading.{max_consensus, with_consensus}
use Rattle.document_commands.{specs.Ends.ComesOf, proofs.MadeOf.comes_of}
use Rattle.document_commands.proofs.consensus.SignedConsensusDocument.frame.Goals as goal

pub returns-clause-comes : goal.returns-clause-comes
returns-clause-comes c =
    let bytes = c.args.bytes.now in
    let items = items_of max_consensus bytes in
    let flavour = flavour_of items.items in
    subst
    (λ (f : Flavour). ComesOf 0 (λ fault. fault) (document_of (consensus_tables f) (length bytes) items) (consensus_of bytes))
    (sym c.flavour_of.ensures)
    (comes_of (λ fault. fault) (with_consensus flavour) (λ kept _. consensus_in flavour kept) (λ kept n. refl) (λ fault. refl)
    (with_section flavour bytes) no_draft (document_of (consensus_tables flavour) (length bytes) items))
