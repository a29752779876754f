-- A run is that of its command.
use Rattle.std.proofs.Common.{◌≡◌, ℕ, List, Option, Some, None, true, subst}
use Rattle.key_port.specs.Answers.{Rules}
use Rattle.daemon_words.specs.declared.{command.Command.Command, serving.Serve.Serve}
use Rattle.daemon_words.specs.declared.command.Command.TheVariants as command
use Rattle.exit_status.specs.declared.status.Status.{Status}
use Rattle.authority_daemon.specs.{Commands.{May, Answerable}, Inside.is_gathered, Moments.{Moment, Telling}}
use Rattle.authority_daemon.{specs.World.{AnswersWhatItMust, IsRun, Runs}, proofs.Completeness.completes}

-- `serve` has no text that it must answer with
none_must : (rules : Rules) (wanted : Serve) (c : Command) (now : ℕ) (bytes : List ℕ)
    → Some (command.Serve wanted) ≡ Some c → Answerable rules c now bytes → ⊥
none_must rules wanted c now bytes is can =
    let same : command.Serve wanted ≡ c = cc is in
    subst (λ (k : Command). Answerable rules k now bytes → ⊥) same (λ none. none) can

module _ {S C V N G L : Type 0} (its : May N) (tells : Telling C G) (old new : Moment S C V N G L) (s : Status) where
  -- a command whose input is gathered runs as such
  pub runs : (c : Command) → is_gathered c ≡ true → IsRun its (Some c) old new s → Runs its tells (Some c) old new s
  runs (command.Compute wanted) gathers is = absurd (cc gathers)
  runs (command.Check named) gathers is = is
  runs (command.Show named) gathers is = is
  runs (command.MakeVote wanted) gathers is = is
  runs (command.Rehearse wanted) gathers is = absurd (cc gathers)
  runs (command.Report wanted) gathers is = is
  runs (command.Serve wanted) gathers is = absurd (cc gathers)

  -- and answers what it must
  pub run_completes : (given : Option Command) → Runs its tells given old new s
      → AnswersWhatItMust its.rules given old new s
  run_completes None is = completes its None old new s is
  run_completes (Some (command.Compute wanted)) is = completes its (Some (command.Compute wanted)) old new s is
  run_completes (Some (command.Check named)) is = completes its (Some (command.Check named)) old new s is
  run_completes (Some (command.Show named)) is = completes its (Some (command.Show named)) old new s is
  run_completes (Some (command.MakeVote wanted)) is =
      completes its (Some (command.MakeVote wanted)) old new s is
  run_completes (Some (command.Rehearse wanted)) is = completes its (Some (command.Rehearse wanted)) old new s is
  run_completes (Some (command.Report wanted)) is = completes its (Some (command.Report wanted)) old new s is
  run_completes (Some (command.Serve wanted)) is =
      λ must. absurd (none_must its.rules wanted must.command new.last must.bytes must.words must.answerable)
