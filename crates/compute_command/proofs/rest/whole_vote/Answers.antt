use Rattle.vote_feed.proofs.FedVotes.{never_refused, whole_read}
use Rattle.compute_command.proofs.rest.whole_vote.Goals as goal

pub unreachable-requires : goal.unreachable-requires
unreachable-requires c =
    never_refused c.args.feeder c.finish.result c.in-Err-Frame.field-0 c.in-Err-Frame.field-0-0 c.in-Err-Frame.is
    c.in-Err-Frame.field-0-is c.requires c.finish.ensures

pub returns-in-Ok : goal.returns-in-Ok
returns-in-Ok c = whole_read c.args.feeder c.in-Ok.read c.requires c.in-Ok.ensures
