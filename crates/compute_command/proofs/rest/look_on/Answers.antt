use Rattle.compute_command.proofs.Turning.{look_turns}
use Rattle.compute_command.proofs.rest.look_on.Goals as goal

pub returns-in-Some : goal.returns-in-Some
returns-in-Some c =
    λ is.
    look_turns c.args.start c.args.beyond c.feed.new.self c.args.piece.now c.args.tail c.in_ok-fault.field-0
    c.in-Some.fault c.on.result is c.in_ok-fault.ensures.bytes c.in_ok-fault.ensures.fault c.in-Some.is c.on.ensures
