use Rattle.vote_feed.proofs.Feeding.{nothing_kept}
use Rattle.vote_feed.proofs.feeder.VoteFeeder.new.Goals as goal

pub invariant_of-result : goal.invariant_of-result
invariant_of-result c =
    let machine = c.in_ok-machine.machine in
    nothing_kept c.new-2.result.items c.new-3.result machine.cursor machine.reader.across machine.reader.state
    machine.kept c.new-2.ensures.items c.new-3.ensures
