use Rattle.std.proofs.Common.{◌≡◌, ◌++◌, length}
use Rattle.serve_work.specs.Reports.{change_lines}
use Rattle.serve_work.proofs.writing.push_changes.Given as goal

abbrev pub invariant-changes : goal.invariant-changes
invariant-changes l =
    l.out.items ++ change_lines l.front l.rest ≡ l.fn.out.items ++ change_lines l.front l.changes

abbrev pub decreases-changes : goal.decreases-changes
decreases-changes l = length l.rest
