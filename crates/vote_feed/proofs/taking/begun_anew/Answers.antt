use Rattle.std.proofs.Common.{◌∙◌, Ok, ap}
use Rattle.vote_feed.{specs.declared.machine.Reached.Reached, proofs.Votes.never_whole}
use Rattle.vote_feed.proofs.taking.begun_anew.Goals as goal

pub read_on-requires-clause-so_far : goal.read_on-requires-clause-so_far
read_on-requires-clause-so_far c = c.in_ok-machine.ensures c.args.bytes.now

pub unreachable-requires : goal.unreachable-requires
unreachable-requires c =
    let machine = c.read_on.new.machine in
    never_whole 0 c.args.bytes.now machine.cursor machine.reader.across machine.reader.state machine.kept
    c.in-Ok-Whole.field-0-0
    c.read_on.result (c.in-Ok-Whole.is ∙ ap (λ (r : Reached). Ok r) c.in-Ok-Whole.field-0-is)
    c.read_on.ensures c.requires.open_
