use Rattle.std.proofs.Common.{refl}
use Rattle.bandwidth_file.proofs.OpenInputs.{fault_there}
use Rattle.bandwidth_file.proofs.front.front_before.Goals as goal

pub returns-in-Ok-clause-front : goal.returns-in-Ok-clause-front
returns-in-Ok-clause-front c =
    record { place = c.args.place; ends = c.requires.ends; file_is = c.in-Ok.ensures.file; behind = refl }

pub returns-in-Err-clause-fault : goal.returns-in-Err-clause-fault
returns-in-Err-clause-fault c =
    fault_there c.args.bytes.now c.args.place c.in-Err.refusal c.requires.ends c.in-Err.ensures.fault
