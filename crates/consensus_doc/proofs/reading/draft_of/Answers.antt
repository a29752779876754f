use Rattle.std.proofs.Common.{ap, refl, sym}
use Rattle.consensus_doc.{specs.Keeping.Kept, proofs.{Drafting.drafted, Moments.of_draft}}
use Rattle.consensus_doc.proofs.reading.draft_of.Goals as goal

pub returns-clause-draft : goal.returns-clause-draft
returns-clause-draft c =
    drafted c.args.flavour c.args.bytes.now c.no_draft.result c.new-items.result c.read_document.new.facts
    c.reader.inside.draft c.in_ok-used.used c.new-items.ensures c.no_draft.ensures c.in_ok-used.ensures.folds
    (ap (λ (kept : Kept). kept.draft) (sym c.reader.view_is))

pub returns-clause-within : goal.returns-clause-within
returns-clause-within c = c.in_ok-used.ensures.within 0 67108864 c.args.bytes.now c.new-items.ensures refl

pub returns-clause-moments : goal.returns-clause-moments
returns-clause-moments c =
    of_draft c.args.flavour c.args.bytes.now c.reader.inside.draft c.in_ok-used.used (returns-clause-draft c)
