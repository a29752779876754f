use Rattle.std.proofs.Common.{◌≡◌, ◌≤◌, ◌-◌, length}
use Rattle.blank_lines.specs.Blanks.{after_blanks}
use Rattle.blank_lines.proofs.blanks.after_blanks.Given as goal

abbrev pub invariant-lines : goal.invariant-lines
invariant-lines l = record {
  within : l.place ≤ length l.bytes;
  same : after_blanks l.place l.bytes ≡ after_blanks l.fn.start l.bytes;
}

abbrev pub decreases-lines : goal.decreases-lines
decreases-lines l = length l.bytes - l.place
