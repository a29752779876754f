use Rattle.std.proofs.Common.{rules}
use Rattle.serve_work.proofs.Lines.{no_lines, one_line}
use Rattle.serve_work.proofs.writing.push_changes.Goals as goal

pub changes-preserved : goal.changes-preserved
changes-preserved c =
    one_line c.args.front c.saturating_sub-number.result c.changes.out.items c.push_change.new.out.items _
    c.changes.rest.now c.in-Some.later.now c.in-Some.change.now c.in-Some.ensures.cases.0 (search rules)
    c.in_ok-push_change.ensures c.changes.invariant

pub returns : goal.returns
returns c = no_lines c.args.front c.changes.out.items _ c.changes.rest.now c.in_default.ensures.cases c.changes.invariant
