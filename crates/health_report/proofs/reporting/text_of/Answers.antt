use Rattle.health_report.proofs.Wholes.{text_from}
use Rattle.health_report.proofs.reporting.text_of.Goals as goal

pub returns : goal.returns
returns c =
    text_from _ _ _ _ _ _ _ _ c.args.roster.now c.args.votes.now.votes c.args.consensus.now c.args.signers.now
    c.new-out.ensures.items c.len-authorities.ensures.value c.len-held.ensures c.as_slice-routers.ensures
    c.in_ok-push_head.ensures c.in_ok-push_members.ensures c.in_ok-push_params.ensures c.in_ok-push_relays.ensures
