-- What is answered, told as the program's.
use Rattle.std.proofs.Common.{◌≡◌, refl}
use Rattle.daemon_words.specs.declared.command.Command.TheVariants as command
use Rattle.daemon_words.specs.declared.stop.Stop.TheVariants as stop
use Rattle.document_commands.specs.declared.refusal.SubjectRefusal.TheVariants as subject
use Rattle.report_command.specs.Answers as documents
use Rattle.report_command.specs.declared.refusal.NoReport.TheVariants as none
use Rattle.report_command.specs.declared.refusal.ReportRefusal.TheVariants as report
use Rattle.station_commands.specs.Voting as station
use Rattle.station_commands.specs.declared.refusal.MakeVoteRefusal.TheVariants as vote
use Rattle.station_commands.specs.WithFile as behind
use Rattle.station_commands.specs.declared.file_refusal.FileVoteRefusal.TheVariants as file
use Rattle.serve_command.specs.declared.refusal.ServeRefusal.{ServeRefusal}
use Rattle.serve_command.specs.declared.refusal.ServeRefusal.TheVariants as serve
use Rattle.exit_status.specs.Told.{by_serve}
use Rattle.exit_status.specs.declared.status.Refusal.TheVariants as refusal

-- ---- whose fault is told

pub serve_verifier : (own : ServeRefusal) → by_serve own ≡ refusal.Verifier → own ≡ serve.Verifier
serve_verifier (serve.File why) told = absurd (cc told)
serve_verifier (serve.Station why) told = absurd (cc told)
serve_verifier serve.Verifier told = refl

pub serve_no_gate : (own : ServeRefusal) → by_serve own ≡ refusal.Gate → ⊥
serve_no_gate (serve.File why) told = cc told
serve_no_gate (serve.Station why) told = cc told
serve_no_gate serve.Verifier told = cc told

pub serve_no_signer : (own : ServeRefusal) → by_serve own ≡ refusal.Signer → ⊥
serve_no_signer (serve.File why) told = cc told
serve_no_signer (serve.Station why) told = cc told
serve_no_signer serve.Verifier told = cc told
