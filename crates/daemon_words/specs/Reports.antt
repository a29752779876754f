-- What a report is of.
use Rattle.std.specs.Prelude.{ℕ, List, Option, Some, None, codes}
use Rattle.clap.specs.Words.{Row, first_of}
use Rattle.dir_values.specs.declared.digest.Fingerprint.{Fingerprint}
use Rattle.daemon_words.specs.{Values.{roster, moment}, declared.report.Report.Report}

-- the report of a roster at a moment, where both were read
abbrev pub roster_report : Option (List Fingerprint) → Option ℕ → Option Report
roster_report (Some members) (Some valid_after) = Some (record { roster = members; valid_after = valid_after })
roster_report _ _ = None

-- the report that the texts of two options tell
abbrev pub report_of : List ℕ → List ℕ → Option Report
report_of authorities valid_after = roster_report (roster authorities) (moment valid_after)

-- the same, where both options stand there
abbrev pub report_with : Option (List ℕ) → Option (List ℕ) → Option Report
report_with (Some authorities) (Some valid_after) = report_of authorities valid_after
report_with _ _ = None

-- the report that stands among the values
abbrev pub report_in : List Row → Option Report
report_in values = report_with (first_of (codes "authorities") values) (first_of (codes "valid-after") values)
