use Rattle.checked_sigs.proofs.Written.{written}
use Rattle.checked_sigs.proofs.next.next_signatures.Goals as goal

pub returns-in_ok-write-in-Some : goal.returns-in_ok-write-in-Some
returns-in_ok-write-in-Some g c = written c.args.state.now c.in-Some.made.now c.in_ok-detached-in-Some.detached
    c.in_ok-write-in-Some.field-0.items c.new.result c.in-Some.ensures c.in_ok-detached-in-Some.ensures
    c.in_ok-write-in-Some.ensures c.new.ensures
