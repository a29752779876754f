use Rattle.mirror_core.proofs.Reading.{micro_fault, reads_micro}
use Rattle.mirror_core.proofs.kinds.MicrosKind.read.Goals as goal

pub returns-clause-reads : goal.returns-clause-reads
returns-clause-reads c = reads_micro c.args.bytes.now c.read.result c.requires.some c.read.ensures

pub returns-clause-within : goal.returns-clause-within
returns-clause-within c = micro_fault c.args.bytes.now c.read.result c.read.ensures
