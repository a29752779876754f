-- How a refusal of a call is told as the command's.
use Rattle.frame_terms.specs.declared.fault.FrameFault.{FrameFault}
use Rattle.daemon_words.specs.{Stops.told_as, declared.stop.Stop.Stop}
use Rattle.compute_command.specs.declared.refusal.AcceptRefusal.{AcceptRefusal}
use Rattle.compute_command.specs.declared.refusal.AcceptRefusal.TheVariants as accept
use Rattle.report_command.specs.declared.refusal.{InputRefusal.InputRefusal, ReportRefusal.ReportRefusal}
use Rattle.report_command.specs.declared.refusal.InputRefusal.TheVariants as input
use Rattle.report_command.specs.declared.refusal.NoReport.TheVariants as report
use Rattle.report_command.specs.declared.refusal.ReportRefusal.TheVariants as refusal

-- that the input begins with no votes and the line behind them
abbrev pub by_input : InputRefusal → ReportRefusal
by_input (input.Fault fault) = refusal.Votes fault
by_input (input.Missing place) = refusal.Report (report.Missing place)

abbrev pub of_input : Stop InputRefusal → Stop ReportRefusal
of_input given = told_as by_input given

-- that it ends with no consensus
abbrev pub by_fault : FrameFault → ReportRefusal
by_fault fault = refusal.Consensus fault

-- the stop of a reading of the consensus, as the command is told it
abbrev pub of_fault : Stop FrameFault → Stop ReportRefusal
of_fault given = told_as by_fault given

-- that its votes are not held
abbrev pub by_accept : AcceptRefusal → ReportRefusal
by_accept (accept.Vote number word) = refusal.Vote number word
by_accept accept.Verifier = refusal.Verifier

abbrev pub of_accept : Stop AcceptRefusal → Stop ReportRefusal
of_accept given = told_as by_accept given
