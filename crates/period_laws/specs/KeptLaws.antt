-- That the stored changes of a period always tell the state.
use Rattle.std.specs.Prelude.{List}
use Rattle.period_terms.specs.{declared.{event.Event.Event, state.State.State}, KeptFacts.AgreesWithChanges, Steps.step}
use Rattle.period_terms.specs.Histories.{IsStart, run}

-- Each step keeps it, and so it holds after whatever came.
abbrev pub StepsKeepIt : Type 0
StepsKeepIt = (state : State) (event : Event) → AgreesWithChanges state → AgreesWithChanges (step state event).after

-- In each state that a start leads to, what is held agrees with the changes.
abbrev pub ChangesTell : Type 0
ChangesTell = (start : State) (events : List Event) → IsStart start → AgreesWithChanges (run start events)
