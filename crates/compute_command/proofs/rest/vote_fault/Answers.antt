use Rattle.std.proofs.Common.{arith}
use Rattle.compute_command.proofs.Turning.{fault_within}
use Rattle.compute_command.proofs.rest.vote_fault.Goals as goal

pub overflow_add-result : goal.overflow_add-result
overflow_add-result c =
    let within =
    fault_within c.args.feeder c.finish.result c.in-Err-Frame.field-0 c.in-Err-Frame.fault c.in-Err-Frame.is
    c.in-Err-Frame.field-0-is c.finish.ensures in
    omega (arith, within, c.requires.short)
