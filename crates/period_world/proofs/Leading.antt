-- A call at a state leads a world on.
use Rattle.std.proofs.Common.{Result, Ok, Err, IfOk, refl}
use Rattle.dir_bytes.specs.declared.fault.Memory.{Memory}
use Rattle.dir_values.specs.declared.digest.Fingerprint.{Fingerprint}
use Rattle.key_port.specs.Answers.{Relation, Rules}
use Rattle.period_terms.specs.declared.{answer.Answer.Answer, state.State.State}
use Rattle.period_laws.specs.Worlds.{World}
use Rattle.period_world.specs.{Calls.{Arrival, TakesOne}, WorldCalls.LeadsOn}

pub leads_on : (may_give : Relation) (rules : Rules) (old new : State) (coming : Arrival) (answer : Answer)
    → TakesOne may_give rules old coming answer new → LeadsOn may_give rules old coming answer new
leads_on may_give rules old new coming answer takes =
    λ (world : World) (member : Fingerprint) at may.
    (old, record { period_state = at; may = may; takes = takes }, refl)

pub leads_so : (may_give : Relation) (rules : Rules) (old new : State) (coming : Arrival)
    (result : Result Answer Memory) → IfOk result (λ answer. TakesOne may_give rules old coming answer new)
    → IfOk result (λ answer. LeadsOn may_give rules old coming answer new)
leads_so may_give rules old new coming (Ok answer) takes = leads_on may_give rules old new coming answer takes
leads_so may_give rules old new coming (Err fault) takes = tt
