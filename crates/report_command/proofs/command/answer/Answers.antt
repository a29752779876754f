use Rattle.std.proofs.Common.{ℕ, subst}
use Rattle.dir_bytes.specs.Causes.{Rose}
use Rattle.compute_command.proofs.Faults.{no_fault}
use Rattle.report_command.proofs.command.answer.Goals as goal

pub returns-in-Ok-clause-fault : goal.returns-in-Ok-clause-fault
returns-in-Ok-clause-fault g c = λ failed.
    let same = no_fault _ _ c.in-Ok.ensures.faults c.in-Ok.ensures.told in
    subst (λ (count : ℕ). Rose count (g.V.Verifier.faults c.of_held.new.verifier)) same (c.of_held.ensures.fault failed)
