use Rattle.lone_vote.proofs.KnownVotes.{all_open, begins_whole, faulty_none}
use Rattle.lone_vote.proofs.coming.read_on.Goals as goal

pub returns-in-All : goal.returns-in-All
returns-in-All c =
    all_open c.args.feeder c.args.piece.now c.feed.new.self c.in_ok-feed.field-0 c.in_ok-feed.ensures.fed c.in-All.is

pub returns-in_ok-vote-in-Whole : goal.returns-in_ok-vote-in-Whole
returns-in_ok-vote-in-Whole c =
    begins_whole c.args.feeder c.args.piece.now c.feed.new.self c.in_ok-feed.field-0 c.in-Whole.taken
    c.in_ok-vote-in-Whole.vote c.blank_behind-behind.result c.in_ok-feed.ensures.fed c.in-Whole.is
    c.in_ok-vote-in-Whole.ensures c.blank_behind-behind.ensures

pub returns-in-Fault : goal.returns-in-Fault
returns-in-Fault c =
    faulty_none c.args.feeder c.args.piece.now c.feed.new.self c.in_ok-feed.field-0 c.in-Fault.taken
    c.in_ok-feed.ensures.fed c.in-Fault.is
