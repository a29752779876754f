-- Why an input gives no report: the line and the number of each reason.
use Rattle.std.specs.Prelude.{ℕ, List, [], ◌∷◌, codes}
use Rattle.exit_status.specs.Parts.{at_place, end}
use Rattle.report_command.specs.declared.refusal.NoReport.{NoReport}
use Rattle.report_command.specs.declared.refusal.NoReport.TheVariants as report

-- why an input gives no report
abbrev pub report_parts : NoReport → List (List ℕ)
report_parts (report.Missing place) = at_place place (codes "missing ") (codes "report-consensus")
report_parts (report.Period valid_after) = codes "consensus of another period: " ∷ valid_after.text ∷ end ∷ []
report_parts report.Flavour = codes "consensus of another flavour" ∷ end ∷ []

-- the number of each reason
abbrev pub report_number : NoReport → ℕ
report_number (report.Missing place) = 5
report_number (report.Period valid_after) = 16
report_number report.Flavour = 17
