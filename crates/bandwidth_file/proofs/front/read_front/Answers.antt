use Rattle.bandwidth_file.proofs.OpenInputs.{fault_open}
use Rattle.bandwidth_file.proofs.front.read_front.Goals as goal

pub returns-in-None-clause-fault : goal.returns-in-None-clause-fault
returns-in-None-clause-fault c =
    fault_open c.args.bytes.now c.not_ended.result c.in-None.ensures.place c.not_ended.ensures
