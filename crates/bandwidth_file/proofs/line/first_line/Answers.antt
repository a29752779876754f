use Rattle.std.proofs.Common.{take, refl}
use Rattle.bandwidth_file.proofs.FirstLines.{ended_line, open_line}
use Rattle.bandwidth_file.proofs.line.first_line.Goals as goal

pub returns-in-Some-clause-line : goal.returns-in-Some-clause-line
returns-in-Some-clause-line c = ended_line c.args.rest.now (take c.in-Some.len c.args.rest.now) c.in-Some.len c.requires c.in-Some.ensures refl

pub returns-in-None-clause-line : goal.returns-in-None-clause-line
returns-in-None-clause-line c = open_line c.args.rest.now c.requires c.in-None.ensures
