use Rattle.mirror_core.proofs.Reading.{cert_fault, reads_cert}
use Rattle.mirror_core.proofs.kinds.CertsKind.read.Goals as goal

pub returns-clause-reads : goal.returns-clause-reads
returns-clause-reads c = reads_cert c.args.bytes.now c.read.result c.requires.some c.read.ensures

pub returns-clause-within : goal.returns-clause-within
returns-clause-within c = cert_fault c.args.bytes.now c.read.result c.read.ensures
