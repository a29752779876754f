use Rattle.std.proofs.Common.{◌≡◌, ◌++◌, drop}
use Rattle.mirror_core.specs.Signers.{sha256_lines}
use Rattle.mirror_core.proofs.signing.sha256_lines.Given as goal

abbrev pub invariant-lines : goal.invariant-lines
invariant-lines l = l.found.items ++ sha256_lines (drop l.line-index l.lines) ≡ sha256_lines l.fn.lines
