use Rattle.std.proofs.Common.{arith, ◌∙◌}
use Rattle.period_lock.proofs.Turning.{try_allowed, took, out_slot}
use Rattle.period_lock.proofs.steps.try_take.Goals as goal

pub compare_exchange-found-requires : goal.compare_exchange-found-requires
compare_exchange-found-requires g c =
    let start = g.T.Storied.start_of c.args.table.now.shared.key.begun.value in (
      c.requires.fits,
      omega (arith, c.requires.table.0),
      rw c.requires.table.1
          (try_allowed g.T.Storied.stands (g.T.Storied.front_of start) start c.args.table.now.shared.key.passes
          c.args.seat.now.id c.args.seat.now.me.0.own c.args.seat.now.me c.requires.free),
    )

pub exchange-requires : goal.exchange-requires
exchange-requires g c =
    let start = g.T.Storied.start_of c.args.table.now.shared.key.begun.value in
    let try = c.compare_exchange-found in (
      try.ensures.0 ∙ c.requires.fits,
      out_slot g.T.Storied.stands (g.T.Storied.front_of start) start c.args.table.now.shared.key.passes
          c.args.seat.now.me.0.own c.args.seat.now.me try.new.seat.me c.requires.free
          (took g.T.Storied.stands (g.T.Storied.front_of start) start c.args.table.now.shared.key.passes try.result
          c.args.seat.now.me try.new.seat.me c.if-found-eq0.true try.ensures.2),
    )
