use Rattle.std.proofs.Common.{inr, subst}
use Rattle.item_terms.specs.Lines.{lines}
use Rattle.bandwidth_file.{specs.{Files.first_fault, Refusals.RefusedAs}, proofs.OpenInputs.lines_first}
use Rattle.bandwidth_file.proofs.front.not_ended.Goals as goal

pub returns-in_default : goal.returns-in_default
returns-in_default c =
    lines_first c.args.bytes.now c.in-Err-Fault.place c.in-Err-Fault.reason (inr c.in_default.not-Timestamp)
    (subst (RefusedAs (first_fault (lines c.args.bytes.now))) c.in-Err-Fault.field-0-is c.in-Err-Fault.ensures.fault)
