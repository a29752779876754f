-- An input that has to be answered is not refused.
use Rattle.std.proofs.Common.{◌≡◌, ◌∙◌, ◌⊎◌, ℕ, List, Option, ap, subst, refl, arith, Err, inl, inr}
use Rattle.count_terms.specs.declared.newest.Newest.{Newest}
use Rattle.dir_bytes.specs.Causes.{Rose}
use Rattle.daemon_words.specs.declared.command.{Command.Command, Measures.Measures}
use Rattle.daemon_words.specs.declared.command.Command.TheVariants as command
use Rattle.daemon_words.specs.declared.command.Measures.TheVariants as measures
use Rattle.exit_status.specs.{declared.status.{Refusal.Refusal, Status.Status}, Told.{by_compute, by_file_vote}}
use Rattle.exit_status.specs.Told.{by_make_vote, by_report}
use Rattle.exit_status.specs.declared.status.Refusal.TheVariants as refusal
use Rattle.exit_status.specs.declared.status.Status.TheVariants as status
use Rattle.document_commands.proofs.NotRefused as document
use Rattle.compute_command.proofs.NotRefused as votes
use Rattle.station_commands.proofs.NotRefused as stations
use Rattle.station_commands.specs.Answerable as station
use Rattle.station_commands.specs.declared.refusal.MakeVoteRefusal.{MakeVoteRefusal}
use Rattle.station_commands.proofs.FilesNotRefused as file
use Rattle.report_command.proofs.NotRefused as report
use Rattle.authority_daemon.specs.{Commands.{Answers, Answerable, CanMakeVoteBy, MakeVoteBy, May}, Runs.Ends}
use Rattle.authority_daemon.specs.{Runs.{KeepsLimit, Told}, Moments.Moment, World.{AnswersWhatItMust, IsRun}}

-- it is the verifier's or the signer's
abbrev IsOfKeys : Refusal → Type 0
IsOfKeys why = (why ≡ refusal.Verifier) ⊎ (why ≡ refusal.Signer)

-- of a vote
of_vote : (own : MakeVoteRefusal) (why : Refusal) → why ≡ by_make_vote own → station.IsOfKeys own → IsOfKeys why
of_vote own why told (inl same) = inl (told ∙ ap by_make_vote same)
of_vote own why told (inr same) = inr (told ∙ ap by_make_vote same)

-- of `make-vote`, by where measured bandwidths come from
made_not_refused : {N : Type 0} (its : May N) (from : Measures) (newest : Newest) (now : ℕ) (bytes : List ℕ)
    (old new : N)
    (why : Refusal) → CanMakeVoteBy its.rules from newest now bytes
    → MakeVoteBy its from newest now bytes old new (Err why) → IsOfKeys why
made_not_refused its measures.Station newest now bytes old new why can (own, told, answer) =
    of_vote own why told (stations.not_refused its.gives its.steps its.rules newest now bytes old new own can answer)
made_not_refused its measures.File newest now bytes old new why can (own, told, answer) =
    let keys = file.files_not_refused its.gives its.steps its.rules newest now bytes old new own can answer in
    of_vote keys.0 why (told ∙ ap by_file_vote keys.1) keys.2

-- a line for each command
pub not_refused : {N : Type 0} (its : May N) (c : Command) (now : ℕ) (bytes : List ℕ) (old new : N) (why : Refusal)
    → Answerable its.rules c now bytes → Answers its c now bytes old new (Err why) → IsOfKeys why
not_refused its (command.Compute wanted) now bytes old new why can (own, told, answer) =
    inl (told ∙ ap by_compute (votes.not_refused its.rules wanted bytes own can answer))
not_refused its (command.Check named) now bytes old new why can (own, told, answer) =
    absurd (document.check_not_refused named bytes own can answer)
not_refused its (command.Show named) now bytes old new why can (own, told, answer) =
    absurd (document.show_not_refused named bytes own can answer)
not_refused its (command.MakeVote wanted) now bytes old new why can answer =
    made_not_refused its wanted.bandwidths wanted.newest now bytes old new why can answer
not_refused its (command.Rehearse wanted) now bytes old new why can answer = absurd answer
not_refused its (command.Report wanted) now bytes old new why can (own, told, answer) =
    inl (told ∙ ap by_report (report.not_refused its.rules wanted bytes own can answer))
not_refused its (command.Serve wanted) now bytes old new why can answer = absurd can

module _ {S C V N G L : Type 0} (its : May N) (given : Option Command) (old new : Moment S C V N G L) where
  abbrev refused : Refusal → Status
  refused why = status.Refused why

  -- the verifier or the signer failed
  of_keys : (why : Refusal) → IsRun its given old new (status.Refused why) → ¬ Rose old.verifier_faults new.verifier_faults
      → ¬ Rose old.signer_faults new.signer_faults → IsOfKeys why → ⊥
  of_keys why is verify sign (inl same) = verify (is.verifier.cause (ap refused same))
  of_keys why is verify sign (inr same) = sign (is.signer.cause (ap refused same))

  -- A status that meets the clauses of a run is 'done', or 'no memory'.
  pub completes : (s : Status) → IsRun its given old new s → AnswersWhatItMust its.rules given old new s
  completes status.Done is must read write verify sign = tt
  completes status.Memory is must read write verify sign = tt
  completes status.BadWords is must read write verify sign = absurd (cc (is.words, must.words))
  completes status.ReadFault is must read write verify sign = absurd (read (is.source.cause refl))
  completes status.WriteFault is must read write verify sign = absurd (write (is.sink.cause refl))
  completes status.TooLong is must read write verify sign =
      let over = subst (λ l. Told l (λ bytes. KeepsLimit bytes status.TooLong)) must.input
      (is.limit must.command must.words) in absurd (omega (arith, over, must.within))
  completes (status.Refused why) is must read write verify sign =
      let refuses = subst (λ l. Told l (λ bytes. Ends (Answers its must.command new.last bytes old.signer new.signer)
      old.written new.written (status.Refused why)))
      must.input (is.ends must.command must.words) in
      absurd (of_keys why is verify sign
      (not_refused its must.command new.last must.bytes old.signer new.signer why must.answerable refuses))
