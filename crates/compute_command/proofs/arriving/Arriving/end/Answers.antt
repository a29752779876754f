use Rattle.compute_command.proofs.Arrivals.{end_held, end_not_held, end_refused}
use Rattle.compute_command.proofs.arriving.Arriving.end.Goals as goal

pub returns-in-Some-clause-ends : goal.returns-in-Some-clause-ends
returns-in-Some-clause-ends c =
    λ rules wanted bytes is short.
    end_refused rules wanted bytes c.args.self c.in_ok-fault.field-0 is short c.in_ok-fault.ensures c.in-Some.fault
    c.in-Some.is

pub returns-in-Ok-clause-ends : goal.returns-in-Ok-clause-ends
returns-in-Ok-clause-ends c =
    λ rules wanted bytes is short.
    end_held rules wanted bytes c.args.self c.in_ok-fault.field-0 is short c.in_ok-fault.ensures c.in-Ok.accepted
    c.in-None.is c.in-Ok.ensures

pub returns-in-Err-clause-ends : goal.returns-in-Err-clause-ends
returns-in-Err-clause-ends c =
    λ rules wanted bytes is short.
    end_not_held rules wanted bytes c.args.self c.in_ok-fault.field-0 is short c.in_ok-fault.ensures c.in-Err.why
    c.in-None.is c.in-Err.ensures
