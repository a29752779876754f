use Rattle.consensus_doc.proofs.Drafting.{is_read}
use Rattle.consensus_doc.proofs.reading.read.Goals as goal

pub returns-clause-consensus : goal.returns-clause-consensus
returns-clause-consensus c =
    is_read c.args.bytes.now c.flavour_of-flavour.result c.in_ok-draft.draft c.in_ok-draft.used c.consensus_in.result
    c.flavour_of-flavour.ensures c.in_ok-draft.ensures.draft c.consensus_in.ensures
