-- The command that writes a health report.
use Rattle.std.specs.Prelude.{◌≡◌, ◌≢◌, ◌⊎◌, ℕ, List, All, Result, Ok, Err}
use Rattle.dir_bytes.specs.FieldTexts.{moment_text}
use Rattle.frame_terms.specs.declared.fault.{FrameFault.FrameFault, ReadRefusal.TheVariants.Frame}
use Rattle.key_port.specs.Answers.{Rules}
use Rattle.vote_terms.specs.{Acceptable.{AsksOf, IsAcceptable, IsFirstRefused, RefusesNone}, Held.held, Votes.ReadVote}
use Rattle.vote_terms.specs.declared.word.VoteWord.{VoteWord}
use Rattle.blank_lines.specs.Behind.{fault_behind}
use Rattle.consensus_doc.specs.Reading.{consensus_of}
use Rattle.consensus_terms.specs.declared.consensus.SignedConsensus.{SignedConsensus}
use Rattle.consensus_terms.specs.declared.flavour.Flavour.TheVariants.{Microdesc, Ns}
use Rattle.daemon_words.specs.declared.{stop.Stop.Stop, report.Report.Report}
use Rattle.daemon_words.specs.declared.stop.Stop.TheVariants as stop
use Rattle.report_command.specs.declared.refusal.InputRefusal.TheVariants as input
use Rattle.report_command.specs.{declared.refusal.{MomentText.MomentText, ReportRefusal.ReportRefusal}, Inputs.votes_of}
use Rattle.report_command.specs.Inputs.{rest_from}
use Rattle.report_command.specs.declared.refusal.NoReport.TheVariants as report
use Rattle.report_command.specs.declared.refusal.ReportRefusal.TheVariants as refusal
use Rattle.health_report.specs.Reports.{IsReport}

-- each of these votes is acceptable
abbrev pub AreAcceptable : Rules → Report → List ReadVote → Type 0
AreAcceptable rules wanted votes = All (λ vote. IsAcceptable rules wanted.roster wanted.valid_after vote) votes

-- The input is these votes, and from a place behind the line on these bytes, which are this consensus.
pub record Reads (bytes : List ℕ) (votes : List ReadVote) (rest : List ℕ) (consensus : SignedConsensus) : Type 0 where
  pub at : ℕ
  pub used : ℕ
  pub votes_are : votes_of bytes ≡ Ok (votes, at)
  pub rest_is : rest ≡ rest_from at bytes
  pub consensus_is : consensus_of rest ≡ Ok (consensus, used)

-- The input reads so, and the answer to what it says is this.
pub record ReadsWith (Says : List ReadVote → List ℕ → SignedConsensus → Type 0) (bytes : List ℕ) : Type 0 where
  pub votes : List ReadVote
  pub rest : List ℕ
  pub consensus : SignedConsensus
  pub reads : Reads bytes votes rest consensus
  pub says : Says votes rest consensus

-- ---- what is answered to votes and a consensus

-- Each vote is acceptable, and the consensus is of the period and of the ns flavour. The text is the report of those that are
-- held.
pub record Reports (rules : Rules) (wanted : Report) (text : List ℕ) (votes : List ReadVote) (rest : List ℕ)
    (consensus : SignedConsensus) : Type 0 where
  pub acceptable : AreAcceptable rules wanted votes
  pub period : consensus.facts.valid_after ≡ wanted.valid_after
  pub flavour : consensus.flavour ≡ Ns
  pub report : IsReport rules wanted.roster (held votes) consensus rest text

-- Each vote is acceptable, and the consensus is of another period, whose begin is this text.
pub record IsOfAnother (rules : Rules) (wanted : Report) (begin : MomentText) (votes : List ReadVote) (rest : List ℕ)
    (consensus : SignedConsensus) : Type 0 where
  pub acceptable : AreAcceptable rules wanted votes
  pub other : consensus.facts.valid_after ≢ wanted.valid_after
  pub begins : begin.text ≡ moment_text consensus.facts.valid_after

-- Each vote is acceptable, and the consensus is of the period, and of the microdesc flavour.
pub record IsMicrodesc (rules : Rules) (wanted : Report) (votes : List ReadVote) (rest : List ℕ)
    (consensus : SignedConsensus) : Type 0 where
  pub acceptable : AreAcceptable rules wanted votes
  pub period : consensus.facts.valid_after ≡ wanted.valid_after
  pub flavour : consensus.flavour ≡ Microdesc

-- the vote with this number, from 1, is the first that is not acceptable, by this word
abbrev pub RefusesVote : Rules → Report → ℕ → VoteWord → List ReadVote → List ℕ → SignedConsensus → Type 0
RefusesVote rules wanted number word votes rest consensus =
    IsFirstRefused rules wanted.roster wanted.valid_after votes number word

-- Each vote is acceptable, and the consensus is of the period and of the ns flavour, so that its signatures are asked of.
pub record AsksOfConsensus (rules : Rules) (wanted : Report) (votes : List ReadVote) (consensus : SignedConsensus) : Type 0 where
  pub acceptable : AreAcceptable rules wanted votes
  pub period : consensus.facts.valid_after ≡ wanted.valid_after
  pub flavour : consensus.flavour ≡ Ns

-- the verifier is asked of a vote behind acceptable ones, or of the consensus
abbrev pub AsksVerifier : Rules → Report → List ReadVote → List ℕ → SignedConsensus → Type 0
AsksVerifier rules wanted votes rest consensus =
    AsksOf rules wanted.roster wanted.valid_after votes ⊎ AsksOfConsensus rules wanted votes consensus

-- ---- what is answered to an input

-- the fault of the consensus that the input is to end with
pub record ConsensusFails (bytes : List ℕ) (fault : FrameFault) : Type 0 where
  pub votes : List ReadVote
  pub at : ℕ
  pub own : FrameFault
  pub votes_are : votes_of bytes ≡ Ok (votes, at)
  pub fails : consensus_of (rest_from at bytes) ≡ Err (Frame own)
  pub fault_is : fault ≡ fault_behind at own

-- what the command answers to an input: a report, or a refusal. Where the verifier failed it was asked.
abbrev pub ReportAnswers : Rules → Report → List ℕ → Result (List ℕ) ReportRefusal → Type 0
ReportAnswers rules wanted bytes (Ok text) = ReadsWith (Reports rules wanted text) bytes
ReportAnswers rules wanted bytes (Err (refusal.Votes fault)) = votes_of bytes ≡ Err (stop.Refused (input.Fault fault))
ReportAnswers rules wanted bytes (Err (refusal.Report (report.Missing place))) =
    votes_of bytes ≡ Err (stop.Refused (input.Missing place))
ReportAnswers rules wanted bytes (Err (refusal.Consensus fault)) = ConsensusFails bytes fault
ReportAnswers rules wanted bytes (Err (refusal.Vote number word)) = ReadsWith (RefusesVote rules wanted number word) bytes
ReportAnswers rules wanted bytes (Err refusal.Verifier) = ReadsWith (AsksVerifier rules wanted) bytes
ReportAnswers rules wanted bytes (Err (refusal.Report (report.Period begin))) =
    ReadsWith (IsOfAnother rules wanted begin) bytes
ReportAnswers rules wanted bytes (Err (refusal.Report report.Flavour)) = ReadsWith (IsMicrodesc rules wanted) bytes

-- ---- an input that must be answered

-- The input is acceptable votes, the line, and a consensus of the ns flavour of the period; and the verifier may refuse none
-- of the signatures of the votes.
pub record CanReport (rules : Rules) (wanted : Report) (bytes : List ℕ) : Type 0 where
  pub votes : List ReadVote
  pub rest : List ℕ
  pub consensus : SignedConsensus
  pub reads : Reads bytes votes rest consensus
  pub acceptable : AreAcceptable rules wanted votes
  pub none_refused : All (λ vote. RefusesNone rules vote) votes
  pub period : consensus.facts.valid_after ≡ wanted.valid_after
  pub flavour : consensus.flavour ≡ Ns

-- the input is refused for what its documents are
abbrev pub IsOfDocuments : Stop ReportRefusal → Type 0
IsOfDocuments (stop.Refused (refusal.Votes fault)) = Unit {0}
IsOfDocuments (stop.Refused (refusal.Consensus fault)) = Unit {0}
IsOfDocuments (stop.Refused (refusal.Report (report.Missing place))) = Unit {0}
IsOfDocuments _ = ⊥
