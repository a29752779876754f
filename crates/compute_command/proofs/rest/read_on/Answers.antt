use Rattle.compute_command.proofs.Turning.{all_turns, faulted_none, faulty_turns, whole_turns}
use Rattle.compute_command.proofs.rest.read_on.Goals as goal

pub vote_fault-requires-clause-none : goal.vote_fault-requires-clause-none
vote_fault-requires-clause-none c =
    faulted_none c.args.start 0 c.args.feeder c.args.piece.now c.feed.new.self c.in_ok-feed.field-0
    c.in_ok-feed.ensures.fed c.in-Fault.taken c.in-Fault.is

pub returns-in-All : goal.returns-in-All
returns-in-All c =
    λ room some is.
    all_turns c.args.start room c.args.feeder c.args.piece.now c.feed.new.self c.in_ok-feed.field-0
    c.in_ok-feed.ensures.fed c.args.tail c.on.result c.in-All.is some is c.on.ensures

pub returns-in_ok-vote-in-Whole : goal.returns-in_ok-vote-in-Whole
returns-in_ok-vote-in-Whole c =
    λ room some is.
    whole_turns c.args.start room c.args.feeder c.args.piece.now c.feed.new.self c.in_ok-feed.field-0
    c.in_ok-feed.ensures.fed c.in-Whole.taken c.in_ok-vote-in-Whole.length c.in_ok-vote-in-Whole.vote c.in-Whole.is
    c.requires.open_ c.in_ok-vote-in-Whole.ensures some

pub returns-in_ok-fault-in-Fault : goal.returns-in_ok-fault-in-Fault
returns-in_ok-fault-in-Fault c =
    λ room some is.
    faulty_turns c.args.start room c.args.feeder c.args.piece.now c.feed.new.self c.in_ok-feed.field-0
    c.in_ok-feed.ensures.fed c.in-Fault.taken c.args.tail c.in_ok-fault-in-Fault.fault c.on-in-Fault.result c.in-Fault.is
    c.requires.open_ c.in_ok-fault-in-Fault.ensures some is c.on-in-Fault.ensures
