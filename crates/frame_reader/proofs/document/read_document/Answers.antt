use Rattle.frame_reader.proofs.Within.{ends_within}
use Rattle.frame_reader.proofs.document.read_document.Goals as goal

pub returns-clause-within : goal.returns-clause-within
returns-clause-within g c =
    ends_within g.K.Facts.with
    (g.F.Frame.tables c.args.frame) c.args.length c.args.items.now c.args.facts.now c.read.new.facts c.read.result c.read.ensures
