-- How each command's refusal is told as the program's.
use Rattle.frame_terms.specs.declared.fault.FrameFault.{FrameFault}
use Rattle.daemon_words.specs.declared.command.Kind.{Kind}
use Rattle.daemon_words.specs.declared.command.Kind.TheVariants as kinds
use Rattle.document_commands.specs.declared.refusal.SubjectRefusal.{SubjectRefusal}
use Rattle.document_commands.specs.declared.refusal.SubjectRefusal.TheVariants as subject
use Rattle.compute_command.specs.declared.refusal.ComputeRefusal.{ComputeRefusal}
use Rattle.compute_command.specs.declared.refusal.ComputeRefusal.TheVariants as compute
use Rattle.compute_command.specs.declared.refusal.VoteListRefusal.TheVariants as list
use Rattle.report_command.specs.declared.refusal.ReportRefusal.{ReportRefusal}
use Rattle.report_command.specs.declared.refusal.ReportRefusal.TheVariants as report
use Rattle.station_commands.specs.declared.refusal.MakeVoteRefusal.{MakeVoteRefusal}
use Rattle.station_commands.specs.declared.file_refusal.FileVoteRefusal.{FileVoteRefusal}
use Rattle.station_commands.specs.declared.refusal.MakeVoteRefusal.TheVariants as vote
use Rattle.station_commands.specs.declared.file_refusal.BandwidthRefusal.TheVariants as bandwidth
use Rattle.station_commands.specs.declared.file_refusal.FileVoteRefusal.TheVariants as file
use Rattle.serve_command.specs.declared.refusal.ServeRefusal.{ServeRefusal}
use Rattle.serve_command.specs.declared.refusal.ServeRefusal.TheVariants as serve
use Rattle.exit_status.specs.declared.status.Refusal.{Refusal}
use Rattle.exit_status.specs.declared.status.Refusal.TheVariants as refusal

-- that the input is no document of a kind, or no list of them
abbrev pub document : Kind → FrameFault → Refusal
document kind fault = refusal.Document (record { kind = kind; fault = fault })

-- why `check` or `show` gives no text
abbrev pub by_subject : SubjectRefusal → Refusal
by_subject (subject.Document why) = refusal.Document why
by_subject (subject.File fault) = refusal.Bandwidth (bandwidth.Fault fault)

-- why `compute` gives no text
abbrev pub by_compute : ComputeRefusal → Refusal
by_compute (compute.Fault fault) = document kinds.Vote fault
by_compute (compute.Votes why) = refusal.Votes why
by_compute compute.Verifier = refusal.Verifier

-- why `make-vote` gives no vote
abbrev pub by_make_vote : MakeVoteRefusal → Refusal
by_make_vote (vote.Station why) = refusal.Station why
by_make_vote vote.MadeVote = refusal.MadeVote
by_make_vote vote.Verifier = refusal.Verifier
by_make_vote vote.Signer = refusal.Signer

-- why `make-vote --bandwidth` gives no vote
abbrev pub by_file_vote : FileVoteRefusal → Refusal
by_file_vote (file.File why) = refusal.Bandwidth why
by_file_vote (file.Vote why) = by_make_vote why

-- why `report` gives no report
abbrev pub by_report : ReportRefusal → Refusal
by_report (report.Votes fault) = document kinds.Vote fault
by_report (report.Consensus fault) = document kinds.Consensus fault
by_report (report.Vote number word) = refusal.Votes (list.Vote number word)
by_report (report.Report why) = refusal.Report why
by_report report.Verifier = refusal.Verifier

-- why `serve` starts no authority
abbrev pub by_serve : ServeRefusal → Refusal
by_serve (serve.File why) = refusal.Bandwidth why
by_serve (serve.Station why) = refusal.Station why
by_serve serve.Verifier = refusal.Verifier
