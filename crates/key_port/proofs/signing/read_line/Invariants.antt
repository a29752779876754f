use Rattle.std.{proofs.Common.{◌≡◌, ◌≤◌, ◌-◌, true, length}, specs.Io.KnownBytes.Consumes}
use Rattle.key_port.specs.{Requests.line_limit, SignedLines.has_no_end}
use Rattle.key_port.proofs.signing.read_line.Given as goal

abbrev pub invariant-bytes : goal.invariant-bytes
invariant-bytes g l = record {
  taken : Consumes (g.S.Source.left l.fn.source) (g.S.Source.left l.source) l.line;
  within : length l.line ≤ line_limit;
  one_line : has_no_end l.line ≡ true;
  faults : g.S.Source.faults l.fn.source ≤ g.S.Source.faults l.source;
}

abbrev pub decreases-bytes : goal.decreases-bytes
decreases-bytes g l = line_limit - length l.line
