-- What each command answers to an input.
use Rattle.std.specs.Prelude.{◌≡◌, Bool, true, false, ℕ, List, Option, Some, None, Result, Ok, Err}
use Rattle.count_terms.specs.declared.newest.Newest.{Newest}
use Rattle.key_port.specs.{Answers.{Relation, Rules, rules}, Signing.SignerSteps}
use Rattle.daemon_words.specs.declared.{command.{Command.Command, Measures.Measures}, rehearsal.Rehearse.Rehearse}
use Rattle.daemon_words.specs.Stops.{AnsweredAs}
use Rattle.daemon_words.specs.declared.command.Command.TheVariants as command
use Rattle.daemon_words.specs.declared.command.Measures.TheVariants as measures
use Rattle.exit_status.specs.Told.{by_compute, by_file_vote, by_make_vote, by_report, by_subject}
use Rattle.exit_status.specs.declared.status.Refusal.{Refusal}
use Rattle.exit_status.specs.declared.status.Refusal.TheVariants as refusal
use Rattle.document_commands.specs.Answers.{CheckAnswers, IsSubject, ShowAnswers}
use Rattle.compute_command.specs.Answers.{CanCompute, ComputeAnswers}
use Rattle.station_commands.specs.{Voting.{IsBeforeDescriptors, MakeVoteAnswers}, WithFile.FileVoteAnswers}
use Rattle.station_commands.specs.Answerable.{CanMakeVote, CanMakeVoteWithFile}
use Rattle.report_command.specs.Answers.{CanReport, ReportAnswers}
use Rattle.report_command.specs.declared.refusal.NoReport.TheVariants as report
use Rattle.vote_rehearsal.specs.Summaries.{summary_of}

-- What the keys outside may answer: which signatures may be accepted, refused and given; and the steps of the signer.
pub record May (N : Type 0) : Type 1 where
  pub rules : Rules
  pub gives : Relation
  pub steps : SignerSteps N

-- these
abbrev pub may : {N : Type 0} → Relation → Relation → Relation → SignerSteps N → May N
may accepts refuses gives steps = record { rules = rules accepts refuses; gives = gives; steps = steps }

-- what `rehearse` answers, whatever the input: the summary of its numbers, and no refusal
abbrev pub RehearseAnswers : Rehearse → Result (List ℕ) Refusal → Type 0
RehearseAnswers wanted (Ok text) = text ≡ summary_of wanted.seed wanted.relays wanted.authorities
RehearseAnswers wanted (Err why) = ⊥

-- what `make-vote` answers, by where measured bandwidths come from, and by the newest method that is known
abbrev pub MakeVoteBy : {N : Type 0} → May N → Measures → Newest → ℕ → List ℕ → N → N → Result (List ℕ) Refusal → Type 0
MakeVoteBy its measures.Station newest now bytes old new answer =
    AnsweredAs by_make_vote (λ own. MakeVoteAnswers its.rules its.gives its.steps newest now bytes own old new) answer
MakeVoteBy its measures.File newest now bytes old new answer =
    AnsweredAs by_file_vote (λ own. FileVoteAnswers its.rules its.gives its.steps newest now bytes own old new) answer

-- what a command answers to an input, at the moment that the clock gave, and what became of the signer: a line for each
-- command
abbrev pub Answers : {N : Type 0} → May N → Command → ℕ → List ℕ → N → N → Result (List ℕ) Refusal → Type 0
Answers its (command.Compute wanted) now bytes old new answer =
    AnsweredAs by_compute (ComputeAnswers its.rules wanted bytes) answer
Answers its (command.Check named) now bytes old new answer = AnsweredAs by_subject (CheckAnswers named bytes) answer
Answers its (command.Show named) now bytes old new answer = AnsweredAs by_subject (ShowAnswers named bytes) answer
Answers its (command.MakeVote wanted) now bytes old new answer =
    MakeVoteBy its wanted.bandwidths wanted.newest now bytes old new answer
Answers its (command.Rehearse wanted) now bytes old new answer = RehearseAnswers wanted answer
Answers its (command.Report wanted) now bytes old new answer =
    AnsweredAs by_report (ReportAnswers its.rules wanted bytes) answer
Answers its (command.Serve wanted) now bytes old new answer = ⊥

-- What a command uses: whether it reads the input, has signatures verified, has something signed, and asks a clock.
pub record Uses : Type 0 where
  pub reads : Bool
  pub verifies : Bool
  pub signs : Bool
  pub clock : Bool

-- what words use that give this command, or none: a line for each command
abbrev pub uses : Option Command → Uses
uses (Some (command.Compute wanted)) = record { reads = true; verifies = true; signs = false; clock = false }
uses (Some (command.Check named)) = record { reads = true; verifies = false; signs = false; clock = false }
uses (Some (command.Show named)) = record { reads = true; verifies = false; signs = false; clock = false }
uses (Some (command.MakeVote wanted)) = record { reads = true; verifies = true; signs = true; clock = true }
uses (Some (command.Rehearse wanted)) = record { reads = false; verifies = false; signs = false; clock = false }
uses (Some (command.Report wanted)) = record { reads = true; verifies = true; signs = false; clock = false }
uses (Some (command.Serve wanted)) = record { reads = true; verifies = true; signs = true; clock = true }
uses None = record { reads = false; verifies = false; signs = false; clock = false }

-- what `make-vote` refuses before it has a signature verified: what its station is given, and the file in front of it
abbrev pub IsOfStation : Refusal → Type 0
IsOfStation (refusal.Station why) = IsBeforeDescriptors why
IsOfStation (refusal.Bandwidth why) = Unit {0}
IsOfStation _ = ⊥

-- what `report` refuses before it has one verified: what the documents of its input are
abbrev pub IsOfDocuments : Refusal → Type 0
IsOfDocuments (refusal.Document why) = Unit {0}
IsOfDocuments (refusal.Report (report.Missing place)) = Unit {0}
IsOfDocuments _ = ⊥

-- What a command refuses before it has a signature verified: a line for each command. With `compute` a vote may be checked
-- before the fault behind it has come.
abbrev pub IsEarly : Command → Refusal → Type 0
IsEarly (command.Compute wanted) why = ⊥
IsEarly (command.Check named) why = Unit {0}
IsEarly (command.Show named) why = Unit {0}
IsEarly (command.MakeVote wanted) why = IsOfStation why
IsEarly (command.Rehearse wanted) why = Unit {0}
IsEarly (command.Report wanted) why = IsOfDocuments why
IsEarly (command.Serve wanted) why = ⊥

-- what is refused before the signer is asked
abbrev pub IsBeforeSigner : Refusal → Type 0
IsBeforeSigner refusal.Signer = ⊥
IsBeforeSigner refusal.Gate = ⊥
IsBeforeSigner refusal.MadeVote = ⊥
IsBeforeSigner _ = Unit {0}

-- the inputs that `make-vote` has to answer with a vote at a moment, by where measured bandwidths come from, and by the
-- newest method that is known
abbrev pub CanMakeVoteBy : Rules → Measures → Newest → ℕ → List ℕ → Type 0
CanMakeVoteBy rules measures.Station newest now bytes = CanMakeVote rules newest now bytes
CanMakeVoteBy rules measures.File newest now bytes = CanMakeVoteWithFile rules newest now bytes

-- the inputs that a command has to answer with a text at a moment: a line for each command
abbrev pub Answerable : Rules → Command → ℕ → List ℕ → Type 0
Answerable rules (command.Compute wanted) now bytes = CanCompute rules wanted bytes
Answerable rules (command.Check named) now bytes = IsSubject named bytes
Answerable rules (command.Show named) now bytes = IsSubject named bytes
Answerable rules (command.MakeVote wanted) now bytes = CanMakeVoteBy rules wanted.bandwidths wanted.newest now bytes
Answerable rules (command.Rehearse wanted) now bytes = Unit {0}
Answerable rules (command.Report wanted) now bytes = CanReport rules wanted bytes
Answerable rules (command.Serve wanted) now bytes = ⊥
