-- What the private functions of this crate return.
use Rattle.std.specs.{Prelude.{◌≡◌, ◌≢◌, ◌≤◌, ℕ, List, length, Result, Ok, Err}, Global.Vec}
use Rattle.dir_bytes.specs.FieldTexts.{moment_text}
use Rattle.frame_terms.specs.declared.fault.{FrameFault.FrameFault, ReadRefusal.{ReadRefusal, TheVariants.Frame}}
use Rattle.frame_terms.specs.Refusals.{Fails}
use Rattle.key_port.specs.Answers.{Rules}
use Rattle.vote_terms.specs.Votes.{ReadVote}
use Rattle.blank_lines.specs.Behind.{fault_behind}
use Rattle.vote_doc.specs.Reading.{vote_from}
use Rattle.consensus_doc.specs.Reading.{consensus_of}
use Rattle.consensus_terms.specs.declared.consensus.SignedConsensus.{SignedConsensus}
use Rattle.consensus_terms.specs.declared.flavour.Flavour.TheVariants.{Microdesc, Ns}
use Rattle.daemon_words.specs.declared.{stop.Stop.Stop, report.Report.Report}
use Rattle.daemon_words.specs.declared.stop.Stop.TheVariants as stop
use Rattle.report_command.specs.declared.refusal.{InputRefusal.InputRefusal, ReportRefusal.ReportRefusal}
use Rattle.report_command.specs.Answers.{AsksVerifier, IsMicrodesc, IsOfAnother, RefusesVote, Reports}
use Rattle.report_command.specs.declared.refusal.NoReport.TheVariants as report
use Rattle.report_command.specs.declared.refusal.ReportRefusal.TheVariants as refusal
use Rattle.health_report.specs.Reports.{IsReport}

-- what reading a vote of the input answers: the vote that begins at a place, which ends within the input; or its first fault, or
-- want of memory
abbrev pub ReadsVoteAt : ℕ → List ℕ → Result (ReadVote × ℕ) ReadRefusal → Type 0
ReadsVoteAt place bytes (Ok (vote, after)) = (vote_from place bytes ≡ Ok (vote, after)) × (after ≤ length bytes)
ReadsVoteAt place bytes (Err refusal) = Fails refusal (vote_from place bytes)

-- what was read are the votes and the place, or the refusal is theirs
abbrev pub ReadsVotes : Result (List ReadVote × ℕ) (Stop InputRefusal) → Result (Vec ReadVote × ℕ) (Stop InputRefusal)
    → Type 0
ReadsVotes read (Ok (votes, at)) = read ≡ Ok (votes.items, at)
ReadsVotes read (Err (stop.Refused why)) = read ≡ Err (stop.Refused why)
ReadsVotes read (Err stop.Memory) = Unit {0}

-- some number of the bytes are this consensus
pub record IsConsensus (bytes : List ℕ) (consensus : SignedConsensus) : Type 0 where
  pub used : ℕ
  pub is : consensus_of bytes ≡ Ok (consensus, used)

-- the bytes are no consensus, for a fault that stands there
pub record IsFault (at : ℕ) (bytes : List ℕ) (fault : FrameFault) : Type 0 where
  pub own : FrameFault
  pub fails : consensus_of bytes ≡ Err (Frame own)
  pub fault_is : fault ≡ fault_behind at own

-- what was read is the consensus that bytes are, which begin at a place of the input, or the refusal is its fault
abbrev pub ReadsConsensusAt : ℕ → List ℕ → Result SignedConsensus (Stop FrameFault) → Type 0
ReadsConsensusAt at bytes (Ok consensus) = IsConsensus bytes consensus
ReadsConsensusAt at bytes (Err (stop.Refused fault)) = IsFault at bytes fault
ReadsConsensusAt at bytes (Err stop.Memory) = Unit {0}

-- what is answered to votes and a consensus
abbrev pub AnswersWith : Rules → Report → List ReadVote → SignedConsensus → List ℕ → Result (Vec ℕ) (Stop ReportRefusal) → Type 0
AnswersWith rules wanted votes consensus rest (Ok text) = Reports rules wanted text.items votes rest consensus
AnswersWith rules wanted votes consensus rest (Err (stop.Refused (refusal.Vote number word))) =
    RefusesVote rules wanted number word votes rest consensus
AnswersWith rules wanted votes consensus rest (Err (stop.Refused refusal.Verifier)) =
    AsksVerifier rules wanted votes rest consensus
AnswersWith rules wanted votes consensus rest (Err (stop.Refused (refusal.Report (report.Period begin)))) =
    IsOfAnother rules wanted begin votes rest consensus
AnswersWith rules wanted votes consensus rest (Err (stop.Refused (refusal.Report report.Flavour))) =
    IsMicrodesc rules wanted votes rest consensus
AnswersWith rules wanted votes consensus rest (Err stop.Memory) = Unit {0}
AnswersWith rules wanted votes consensus rest (Err (stop.Refused _)) = ⊥

-- what is answered to held votes and a consensus
abbrev pub AnswersOf : Rules → Report → List ReadVote → SignedConsensus → List ℕ → Result (Vec ℕ) (Stop ReportRefusal) → Type 0
AnswersOf rules wanted votes consensus rest (Ok text) =
    (consensus.facts.valid_after ≡ wanted.valid_after) × (consensus.flavour ≡ Ns)
    × IsReport rules wanted.roster votes consensus rest text.items
AnswersOf rules wanted votes consensus rest (Err (stop.Refused refusal.Verifier)) =
    (consensus.facts.valid_after ≡ wanted.valid_after) × (consensus.flavour ≡ Ns)
AnswersOf rules wanted votes consensus rest (Err (stop.Refused (refusal.Report (report.Period begin)))) =
    (consensus.facts.valid_after ≢ wanted.valid_after) × (begin.text ≡ moment_text consensus.facts.valid_after)
AnswersOf rules wanted votes consensus rest (Err (stop.Refused (refusal.Report report.Flavour))) =
    (consensus.facts.valid_after ≡ wanted.valid_after) × (consensus.flavour ≡ Microdesc)
AnswersOf rules wanted votes consensus rest (Err stop.Memory) = Unit {0}
AnswersOf rules wanted votes consensus rest (Err (stop.Refused _)) = ⊥
