use Rattle.health_report.proofs.Wholes.{head_more}
use Rattle.health_report.proofs.lines.push_head.Goals as goal

pub returns : goal.returns
returns c =
    head_more c.args.out.now.items _ _ _ c.args.valid_after c.args.authorities c.args.votes
    c.in_ok-push_period.ensures c.in_ok-push_number.ensures c.in_ok-push_number-2.ensures
