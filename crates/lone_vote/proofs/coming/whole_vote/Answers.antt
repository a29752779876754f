use Rattle.vote_feed.proofs.FedVotes.{never_refused}
use Rattle.lone_vote.proofs.KnownVotes.{vote_of_whole}
use Rattle.lone_vote.proofs.coming.whole_vote.Goals as goal

pub unreachable-requires : goal.unreachable-requires
unreachable-requires c =
    never_refused c.args.feeder c.finish.result c.in-Err-Frame.field-0 c.in-Err-Frame.field-0-0 c.in-Err-Frame.is
    c.in-Err-Frame.field-0-is c.requires c.finish.ensures

pub returns-in-Ok : goal.returns-in-Ok
returns-in-Ok c = vote_of_whole c.args.feeder c.in-Ok.vote c.in-Ok.field-0-1 c.requires c.in-Ok.ensures
