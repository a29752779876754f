-- What comes of signatures that are offered, from what the calls tell.
use Rattle.std.{proofs.Common.{◌≡◌, ℕ, List, Option, Some, Ok, inr, ap, ◌∙◌, subst}, specs.Prelude.MatchResult}
use Rattle.std.specs.Prelude.{Result}
use Rattle.dir_bytes.specs.declared.fault.Memory.{Memory}
use Rattle.key_port.specs.Answers.{Rules, Steps}
use Rattle.checked_sigs.specs.Checks.{ChecksAll, Tally}
use Rattle.http_words.specs.declared.replies.Reply.{Reply}
use Rattle.http_words.specs.declared.replies.Reply.TheVariants as reply
use Rattle.period_core.specs.Views.{view_of}
use Rattle.period_terms.specs.declared.{state.State.State, view.PeriodView.PeriodView}
use Rattle.serve_board.specs.Boards.{Locks, Parts, Sees}
use Rattle.serve_answers.{specs.Handling.{OffersAccepted, SeesView, TakesSignatures}, proofs.LineCounts.line_count}

module _ (rules : Rules) (board : Locks) (before : Parts) where
  -- what was seen to check signatures against
  view_seen : (then : Parts) (view : Option PeriodView)
      → Sees rules board before then
      (λ (state : State) (answer : Result (Option PeriodView) Memory).
      MatchResult answer (λ found. found ≡ view_of state) (λ _. Unit {0})) (Ok view)
      → SeesView rules board before then view
  view_seen then view sees = record {
    takes = record {
      longer = sees.takes.longer;
      right_there = sees.takes.right_there;
      mine = sees.takes.mine;
      is_story = sees.takes.is_story;
      owns = sees.takes.owns;
      number = sees.takes.number;
      of = sees.takes.of;
    };
    pool = sees.pool;
  }

  -- they are offered
  pub each_offered : {V : Type 0} (steps : Steps V) (faults faults_then : ℕ)
      (verifier verifier_then : V) (body : List ℕ) (between then : Parts) (found : Option PeriodView)
      (view : PeriodView) (tally : Tally) (answer : Reply) → found ≡ Some view
      → Sees rules board before between
      (λ (state : State) (answer : Result (Option PeriodView) Memory).
      MatchResult answer (λ found. found ≡ view_of state) (λ _. Unit {0})) (Ok found)
      → ChecksAll rules steps body view tally verifier verifier_then
      → OffersAccepted rules board between tally then answer
      → TakesSignatures rules steps board before then faults faults_then verifier verifier_then body answer
  each_offered steps faults faults_then verifier verifier_then body between then found view tally answer is sees
      checks offers =
      inr (inr record {
        view = view;
        between = between;
        detached = checks.d;
        tally = tally;
        held = offers.held;
        sees = subst (SeesView rules board before between) is (view_seen between found sees);
        is = checks.is;
        tells = checks.tells;
        signed = offers.signed;
        told =
            offers.told
            ∙ ap (λ (n : ℕ). reply.Taken offers.held n)
            (line_count rules steps view checks.d checks.d.signatures tally verifier verifier_then checks.tells);
      })
