use Rattle.std.proofs.Common.{◌≡◌, ◌++◌, drop}
use Rattle.health_report.specs.Signers.{sha1_lines}
use Rattle.health_report.proofs.signing.sha1_lines.Given as goal

abbrev pub invariant-lines : goal.invariant-lines
invariant-lines l = l.found.items ++ sha1_lines (drop l.line-index l.lines) ≡ sha1_lines l.fn.lines
