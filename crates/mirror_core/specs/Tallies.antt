-- How many documents a report tells of.
use Rattle.std.specs.Prelude.{ℕ, ◌+◌}
use Rattle.mirror_core.specs.declared.report.{CertReport.CertReport, MicroReport.MicroReport}

-- of how many microdescriptors
abbrev pub total : MicroReport → ℕ
total report = report.kept + report.had + report.unwanted

-- of how many certificates
abbrev pub cert_total : CertReport → ℕ
cert_total report = report.kept + report.skipped + report.refused
