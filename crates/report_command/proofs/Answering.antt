-- What is answered to an input, from what is answered to what it says.
use Rattle.std.{proofs.Common.{◌≡◌, ℕ, List, Result, Ok, Err, subst}, specs.Global.Vec}
use Rattle.frame_terms.specs.declared.fault.{FrameFault.FrameFault, ReadRefusal.ReadRefusal}
use Rattle.frame_terms.specs.declared.fault.ReadRefusal.TheVariants as read
use Rattle.key_port.specs.Answers.{Rules}
use Rattle.vote_terms.specs.Votes.{ReadVote}
use Rattle.consensus_doc.specs.Reading.{consensus_of}
use Rattle.consensus_terms.specs.declared.{consensus.SignedConsensus.SignedConsensus, flavour.Flavour.Flavour}
use Rattle.daemon_words.specs.{declared.{report.Report.Report, stop.Stop.Stop}, Stops.Answered}
use Rattle.daemon_words.specs.declared.stop.Stop.TheVariants as stop
use Rattle.report_command.specs.declared.refusal.{InputRefusal.InputRefusal, ReportRefusal.ReportRefusal}
use Rattle.report_command.specs.{Answers.{Reads, ReportAnswers}, Inputs.{rest_from, votes_of}, Told.of_fault}
use Rattle.report_command.specs.{Told.of_input, Private.{AnswersWith, ReadsConsensusAt, ReadsVotes}}
use Rattle.report_command.specs.declared.refusal.InputRefusal.TheVariants as input
use Rattle.report_command.specs.declared.refusal.NoReport.TheVariants as report
use Rattle.report_command.specs.declared.refusal.ReportRefusal.TheVariants as refusal

abbrev failed : FrameFault → Result (SignedConsensus × ℕ) ReadRefusal
failed fault = Err (read.Frame fault)

-- ---- votes and a consensus

module _ (rules : Rules) (wanted : Report) (votes : List ReadVote) (consensus : SignedConsensus) (rest : List ℕ) where
  -- ---- an input

  -- the input says this
  pub of_reading : (bytes : List ℕ) (result : Result (Vec ℕ) (Stop ReportRefusal)) → Reads bytes votes rest consensus
      → AnswersWith rules wanted votes consensus rest result → Answered (ReportAnswers rules wanted bytes) result
  of_reading bytes (Ok text) reads a =
      record { votes = votes; rest = rest; consensus = consensus; reads = reads; says = a }
  of_reading bytes (Err stop.Memory) reads a = tt
  of_reading bytes (Err (stop.Refused (refusal.Vote number word))) reads a =
      record { votes = votes; rest = rest; consensus = consensus; reads = reads; says = a }
  of_reading bytes (Err (stop.Refused (refusal.Report (report.Period begin)))) reads a =
      record { votes = votes; rest = rest; consensus = consensus; reads = reads; says = a }
  of_reading bytes (Err (stop.Refused (refusal.Report report.Flavour))) reads a =
      record { votes = votes; rest = rest; consensus = consensus; reads = reads; says = a }
  of_reading bytes (Err (stop.Refused refusal.Verifier)) reads a =
      record { votes = votes; rest = rest; consensus = consensus; reads = reads; says = a }
  of_reading bytes (Err (stop.Refused (refusal.Votes fault))) reads a = absurd a
  of_reading bytes (Err (stop.Refused (refusal.Consensus fault))) reads a = absurd a
  of_reading bytes (Err (stop.Refused (refusal.Report (report.Missing place)))) reads a = absurd a

-- the votes are not read
pub of_votes : (rules : Rules) (wanted : Report) (bytes : List ℕ) (why : Stop InputRefusal)
    → ReadsVotes (votes_of bytes) (Err why) → Answered (ReportAnswers rules wanted bytes) (Err (of_input why))
of_votes rules wanted bytes stop.Memory a = tt
of_votes rules wanted bytes (stop.Refused (input.Fault fault)) a = a
of_votes rules wanted bytes (stop.Refused (input.Missing place)) a = a

-- the consensus is not read
pub of_consensus : (rules : Rules) (wanted : Report) (bytes rest : List ℕ) (votes : List ReadVote) (at : ℕ)
    (why : Stop FrameFault) → votes_of bytes ≡ Ok (votes, at) → rest ≡ rest_from at bytes
    → ReadsConsensusAt at rest (Err why) → Answered (ReportAnswers rules wanted bytes) (Err (of_fault why))
of_consensus rules wanted bytes rest votes at stop.Memory read is a = tt
of_consensus rules wanted bytes rest votes at (stop.Refused fault) read is a = record {
  votes = votes;
  at = at;
  own = a.own;
  votes_are = read;
  fails = subst (λ (r : List ℕ). consensus_of r ≡ failed a.own) is a.fails;
  fault_is = a.fault_is;
}

-- ---- what is asked
