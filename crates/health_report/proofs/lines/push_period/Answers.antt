use Rattle.health_report.proofs.Wholes.{period_more}
use Rattle.health_report.proofs.lines.push_period.Goals as goal

pub returns : goal.returns
returns c =
    period_more c.args.out.now.items _ _ _ c.args.valid_after c.in_ok-extend_from_slice.ensures.items
    c.in_ok-push_time.ensures.ok c.in_ok-push.ensures.items
