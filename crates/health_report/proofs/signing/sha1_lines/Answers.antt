use Rattle.health_report.{specs.Signers.is_sha1, proofs.Loops.{at_item, filter_more}}
use Rattle.health_report.proofs.signing.sha1_lines.Goals as goal

pub lines-preserved : goal.lines-preserved
lines-preserved c =
    filter_more is_sha1 c.lines.found.items c.push_sha1.new.found.items c.line-item.result _ _ _
    (at_item c.args.lines.now c.lines.line-index c.line-item.result c.lines-test.true c.line-item.is)
    c.in_ok-push_sha1.ensures c.lines.invariant
