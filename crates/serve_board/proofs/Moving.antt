-- What an advance finds and leaves, and what the pass then knows.
use Rattle.std.proofs.Common.{◌≡◌, ℕ, List, ◌++◌, Option, Result, Ok, Err, option_to_list, refl, sym, ap, ◌∙◌, subst}
use Rattle.std.{proofs.Common.append-nil, specs.Prelude.{IfOk, OnErr}}
use Rattle.dir_bytes.specs.declared.fault.Memory.{Memory}
use Rattle.key_port.specs.Answers.{Relation, Rules}
use Rattle.period_core.specs.Signing.{Advances}
use Rattle.period_lock.specs.Turns.{Knowledge, OwnsItsPart, TakesTurn, entries, entry_by}
use Rattle.period_terms.specs.declared.{answer.{Advance.Advance, Answer.TheVariants.Moment}, entry.Entry.Entry}
use Rattle.period_terms.specs.declared.{event.{Event.TheVariants.Advanced, Signing.Signing}, state.State.State}
use Rattle.period_terms.specs.{Advances.{MayGiveAt, advance, given_told}, Histories.{after, entry_if}, States.Outcome}
use Rattle.period_terms.specs.States.{vote_of}
use Rattle.period_laws.{specs.Checked.IsCheckedHistory, proofs.{Verified.anyone_may, Given.told}}
use Rattle.serve_board.specs.Boards as boards
use Rattle.serve_board.specs.{Boards.{Locks, Parts, answer_at}, Events.{MovesThere, moved_entry}, Turns.Stands}
use Rattle.serve_board.proofs.{Standing.{event_told, reading_told}, PeriodStates.{steps_there, stands_more}}
use Rattle.serve_board.proofs.Told.{told_may}

-- what is told is what was given, as the answer and the state tell
told_is : (old : State) (now : ℕ) (given : Signing) (answer : Advance) (new : State)
    → answer ≡ (advance old now given).answer → new ≡ (advance old now given).after
    → given_told answer new ≡ given_told (advance old now given).answer (advance old now given).after
told_is old now given answer new a n =
    ap (λ (x : Advance). given_told x new) a
    ∙ ap (λ (x : State). given_told (advance old now given).answer x) n

-- the same comes of it
same_comes : (old : State) (now : ℕ) (given : Signing) (answer : Advance) (new : State)
    → answer ≡ (advance old now given).answer → new ≡ (advance old now given).after
    → advance old now (given_told answer new) ≡ advance old now given
same_comes old now given answer new a n =
    ap (λ (x : Signing). advance old now x) (told_is old now given answer new a n) ∙ told old now given

module _ (may_give : Relation) (rules : Rules) (now : ℕ) where
  -- what is told may be given
  may_told : (value new : State) (answer : Advance) (step : Advances may_give rules value now answer new)
      → MayGiveAt may_give rules value (given_told answer new)
  may_told value new answer step =
      subst (λ (g : Signing). MayGiveAt may_give rules value g)
      (sym (told_is value now step.given answer new step.comes.0 step.comes.1))
      (told_may may_give rules value now step.given step.may)

  -- an advance of a value is one of what it stands for
  pub moves_there : (value new start : State) (story : List Entry) (answer : Result Advance Memory)
      → Stands after (IsCheckedHistory rules) value start story
      → IfOk answer (λ (a : Advance). Advances may_give rules value now a new)
      → MovesThere may_give rules now start story answer new
  moves_there value new start story (Ok answer) stands step = (
    steps_there rules value start story (Advanced now (given_told answer new)) (Moment answer) stands
        (anyone_may may_give rules value.computed (vote_of value.votes value.own) (given_told answer new)
        (may_told value new answer step))
        (ap Moment (step.comes.0 ∙ sym (ap (λ (o : Outcome Advance). o.answer)
        (same_comes value now step.given answer new step.comes.0 step.comes.1)))),
    subst (λ (s : State). MayGiveAt may_give rules s (given_told answer new)) stands.value_is
        (may_told value new answer step),
  )
  moves_there value new start story (Err fault) stands step = stands.is_story

  -- the value after it stands for the list with its entry
  pub moves_more : (value new start : State) (story : List Entry) (answer : Result Advance Memory)
      → Stands after (IsCheckedHistory rules) value start story
      → IfOk answer (λ (a : Advance). Advances may_give rules value now a new) → OnErr answer (new ≡ value)
      → Stands after (IsCheckedHistory rules) new start (story ++ option_to_list (moved_entry now answer new))
  moves_more value new start story (Ok answer) stands step left =
      let same : advance value now (given_told answer new) ≡ advance value now step.given =
      same_comes value now step.given answer new step.comes.0 step.comes.1 in
      stands_more rules value new start story (Advanced now (given_told answer new)) (Moment answer) stands
      (anyone_may may_give rules value.computed (vote_of value.votes value.own) (given_told answer new)
      (may_told value new answer step))
      (ap Moment (step.comes.0 ∙ sym (ap (λ (o : Outcome Advance). o.answer) same)))
      (step.comes.1 ∙ sym (ap (λ (o : Outcome Advance). o.after) same))
  moves_more value new start story (Err fault) stands step left =
      subst (λ (l : List Entry). Stands after (IsCheckedHistory rules) new start l) (sym (append-nil story))
      (subst (λ (s : State). Stands after (IsCheckedHistory rules) s start story) (sym left) stands)

  module _ {R E : Type 0} (board : Locks) (before : Parts) (then : Knowledge State Entry)
      (answers : State → List Entry → R → E → Type 0) (entry : R → E → Option Entry) (reply : R) (event : E)
      (turn : TakesTurn answers entry board.state before.state then reply event) (owns : OwnsItsPart then) where
    -- a turn whose event advances is an advance of the pass, or a reading
    pub advance_told : (answer : Result Advance Memory) (new : State)
        → MovesThere may_give rules now board.state.start (entries turn.story) answer new
        → entry reply event ≡ moved_entry now answer new
        → boards.Advances rules board before (record { state = then; pool = before.pool }) may_give now answer
    advance_told (Ok answer) new moves same = record {
      given = given_told answer new;
      makes = record {
        takes = record {
          story = turn.story;
          longer = turn.longer;
          answer_is = moves.0.answer_is;
          seen = turn.seen ∙ ap (λ (x : Option Entry). turn.story ++ entry_by before.state.number x) same;
          mine = turn.mine ∙ ap (λ (x : Option Entry). before.state.mine ++ entry_by before.state.number x) same;
          is_story =
              (event_told after (IsCheckedHistory rules) board.state before.state then answers entry reply event turn
              answer_at entry_if (Advanced now (given_told answer new)) (Moment answer) moves.0 same owns).is_story;
          owns = owns;
          number = turn.number;
          of = turn.of;
        };
        pool = refl;
      };
      may = moves.1;
    }
    advance_told (Err fault) new moves same = record {
      takes =
          reading_told after (IsCheckedHistory rules) board.state before.state then answers entry reply event turn
          (λ state answer. Unit {0}) fault (record { right_there = tt; is_story = moves }) same owns;
      pool = refl;
    }
