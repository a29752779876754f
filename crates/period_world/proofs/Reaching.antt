-- Calls at several authorities are what happens in a world.
use Rattle.std.proofs.Common.{◌≡◌, Bool, true, cond, List, [], ◌∷◌, Option, Some, refl, sym, ap, ◌∙◌}
use Rattle.dir_values.specs.declared.digest.Fingerprint.{Fingerprint}
use Rattle.key_port.specs.Answers.{Relation, Rules}
use Rattle.period_terms.specs.{declared.{answer.Answer.Answer, event.Event.Event, state.State.State}, States.Outcome}
use Rattle.period_terms.specs.Steps.{step}
use Rattle.period_laws.specs.Worlds as w
use Rattle.period_laws.specs.Worlds.{World, WorldEvent, At, Elsewhere, SignedDigest, may_come}
use Rattle.period_world.specs.declared.coming.Coming.TheVariants as comings
use Rattle.period_world.specs.{Calls.{Arrival, IsEvent}, WorldCalls.{Call, Happening, Called, Alone, may_arrive}}
use Rattle.period_world.specs.WorldCalls.{IsCall, called_world, LeadsTo, CallsAreWorlds}

-- what may come may come as an event
comes : (signed : List SignedDigest) (coming : Arrival) (event : Event) → IsEvent coming event
    → may_arrive signed coming ≡ true → may_come signed event ≡ true
comes signed (comings.Vote vote via now) event is may = rw is refl
comes signed (comings.Moment now) event is may = rw is.1 refl
comes signed (comings.Signature signature) event is may = rw is may

-- an outcome is its answer and its state
moved_so : (world : World) (member : Fingerprint) (s : State) (answer : Answer) (after : State) (o : Outcome Answer)
    → answer ≡ o.answer → after ≡ o.after
    → w.moved_world world member s (record { answer = answer; after = after }) ≡ w.moved_world world member s o
moved_so world member s answer after o e f = rw (e, f) refl

-- where something may come to a state, it is answered there
comes_there : (world : World) (member : Fingerprint) (s : State) (event : Event) → world.states member ≡ Some s
    → may_come world.signed event ≡ true
    → w.moved_world world member s (step s event) ≡ w.happens world (At member event)
comes_there world member s event at may =
    sym (ap (λ (b : Bool). cond b (w.moved_world world member s (step s event)) world) may)
    ∙ sym (ap (λ (o : Option State). w.came world member event o) at)

-- a call is something that happens
call_happens : (may_give : Relation) (rules : Rules) (world : World) (call : Call) (s : State)
    (k : IsCall may_give rules world call s) → called_world world call s ≡ w.happens world (At call.member k.takes.event)
call_happens may_give rules world call s k =
    moved_so world call.member s call.answer call.after (step s k.takes.event) k.takes.answered k.takes.after
    ∙ comes_there world call.member s k.takes.event k.period_state
    (comes world.signed call.coming k.takes.event k.takes.is k.may)

one_happens : (may_give : Relation) (rules : Rules) (world : World) (one : Happening) (next : World)
    → LeadsTo may_give rules world one next → (event : WorldEvent) × (next ≡ w.happens world event)
one_happens may_give rules world (Called call) next l =
    (At call.member l.1.takes.event, l.2 ∙ call_happens may_give rules world call l.0 l.1)
one_happens may_give rules world (Alone one) next l = (Elsewhere one, l)

pub reached : CallsAreWorlds
reached may_give rules world end [] l = record { events = []; reached = l }
reached may_give rules world end (one ∷ happenings) l =
    let first = one_happens may_give rules world one l.0 l.1 in
    let others = reached may_give rules l.0 end happenings l.2 in
    record {
      events = first.0 ∷ others.events;
      reached = others.reached ∙ ap (λ (x : World). w.run_world x others.events) first.1;
    }
