use Rattle.descriptor_doc.proofs.ReadUnder.{fails_under, reads_under}
use Rattle.descriptor_doc.proofs.reading.read_under.Goals as goal

pub returns-in-Err : goal.returns-in-Err
returns-in-Err c = fails_under c.args.newest c.args.bytes.now c.in-Err.refusal c.in-Err.ensures

pub returns-in-Ok-as_read : goal.returns-in-Ok-as_read
returns-in-Ok-as_read c =
    reads_under c.args.newest c.args.bytes.now c.in-Ok.read.0 c.in-Ok-as_read.descriptor c.in-Ok.read.1 c.in-Ok.ensures
    c.in-Ok-as_read.ensures
