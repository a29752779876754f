-- A state under its lock after one more event.
use Rattle.std.proofs.Common.{◌≡◌, ◌+◌, List, ◌++◌, length, sym, ap, ◌∙◌, subst, option_to_list}
use Rattle.key_port.specs.Answers.{Rules}
use Rattle.period_terms.specs.declared.{answer.Answer.Answer, entry.Entry.Entry, event.Event.Event, state.State.State}
use Rattle.period_terms.specs.{Histories.{after, entry_if}, Steps.step}
use Rattle.period_laws.{specs.Checked.{IsChecked, IsCheckedHistory, anything}, proofs.Leading.{on, front}}
use Rattle.period_laws.proofs.Verified as verified
use Rattle.serve_board.specs.{Boards.{StepsThere, answer_at}, Turns.Stands}

module _ (rules : Rules) where
  -- what a value stands for
  abbrev pub StandsFor : State → State → List Entry → Type 0
  StandsFor value start story = Stands after (IsCheckedHistory rules) value start story

  goes_on : (start : State) (story : List Entry) (event : Event) (answer : Answer)
      → IsCheckedHistory rules start story → IsChecked anything rules (after start story) event
      → answer ≡ answer_at (after start story) event
      → IsCheckedHistory rules start (story ++ option_to_list (entry_if event answer))
  goes_on start story event answer k checked is =
      subst (λ (a : Answer). IsCheckedHistory rules start (story ++ option_to_list (entry_if event a))) (sym is)
      (verified.goes_on rules start story event k checked)

  -- what was checked at the value was checked after the list
  checked_there : (value start : State) (story : List Entry) (event : Event) → StandsFor value start story
      → IsChecked anything rules value event → IsChecked anything rules (after start story) event
  checked_there value start story event stands checked =
      subst (λ (s : State). IsChecked anything rules s event) stands.value_is checked

  -- the answer at a value is that after the list
  pub steps_there : (value start : State) (story : List Entry) (event : Event) (answer : Answer)
      → StandsFor value start story → IsChecked anything rules value event → answer ≡ answer_at value event
      → StepsThere rules event start story answer
  steps_there value start story event answer stands checked is =
      let there : answer ≡ answer_at (after start story) event =
      is ∙ ap (λ (v : State). answer_at v event) stands.value_is in
      record {
        answer_is = there;
        is_story =
            goes_on start story event answer stands.is_story
            (checked_there value start story event stands checked) there;
      }

  -- the value after the event stands for the list with its entry
  pub stands_more : (value new start : State) (story : List Entry) (event : Event) (answer : Answer)
      → StandsFor value start story → IsChecked anything rules value event → answer ≡ answer_at value event
      → new ≡ (step value event).after → StandsFor new start (story ++ option_to_list (entry_if event answer))
  stands_more value new start story event answer stands checked is next =
      let there : answer ≡ answer_at (after start story) event =
      is ∙ ap (λ (v : State). answer_at v event) stands.value_is in
      record {
        value_is = next ∙ ap (λ (v : State). (step v event).after) stands.value_is
            ∙ sym (subst (λ (a : Answer). after start (story ++ option_to_list (entry_if event a))
            ≡ (step (after start story) event).after) (sym there) (on start story event stands.is_story.is).leads);
        is_story =
            goes_on start story event answer stands.is_story
            (checked_there value start story event stands checked) there;
      }

  -- the front of the value counts the list
  pub front_there : (value start : State) (story : List Entry) → StandsFor value start story
      → value.front ≡ start.front + length story
  front_there value start story stands =
      ap (λ (v : State). v.front) stands.value_is ∙ front start story stands.is_story.is
