use Rattle.std.proofs.Common.{arith, ◌∙◌}
use Rattle.period_lock.proofs.Turning.{give_allowed, put_in}
use Rattle.period_lock.proofs.steps.give_back.Goals as goal

pub store-requires : goal.store-requires
store-requires g c =
    let start = g.T.Storied.start_of c.args.table.now.shared.key.begun.value in
    let own = c.args.seat.now.me.0.own in
    let count = c.args.table.now.shared.key.passes in (
      c.exchange.ensures.0 ∙ c.requires.fits,
      omega (arith, c.requires.table.0),
      rw c.requires.table.1
          (give_allowed g.T.Storied.stands (g.T.Storied.front_of start) start count c.exchange.new.seat.id own
          c.args.value c.exchange.new.seat.me
          (put_in g.T.Storied.stands (g.T.Storied.front_of start) start count own c.args.seat.now.me
          c.exchange.new.seat.me c.args.value c.requires.holding c.exchange.ensures.3) c.requires.stands),
    )
