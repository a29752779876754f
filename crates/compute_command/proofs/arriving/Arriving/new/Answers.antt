use Rattle.std.{proofs.Common.{◌≡◌, Result, Ok, Err, refl}, specs.Prelude.IfOk}
use Rattle.compute_command.specs.declared.{arriving.Arriving.Arriving, checking.Checking.Checking}
use Rattle.compute_command.specs.{Arriving.{BeginsBehind, NoneArrived}, Checked.NoneCame}
use Rattle.compute_command.proofs.Arrivals.{none_arrived}
use Rattle.compute_command.proofs.arriving.Arriving.new.Goals as goal

none_if : {E : Type 0} (result : Result Arriving E) (checking : Checking) → IfOk result (λ new. BeginsBehind 0 checking new)
    → IfOk result (λ new. new.votes ≡ checking) → NoneCame checking → IfOk result NoneArrived
unfolding none_arrived
none_if (Ok new) checking begins same came =
    λ rules wanted. (none_arrived rules wanted new checking begins same (came rules wanted), refl)
none_if (Err e) checking begins same came = tt

pub returns-clause-none : goal.returns-clause-none
returns-clause-none c =
    none_if c.behind.result c.in_ok-new.field-0 c.behind.ensures.begins c.behind.ensures.same c.in_ok-new.ensures.checked
