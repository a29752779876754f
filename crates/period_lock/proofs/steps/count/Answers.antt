use Rattle.std.{proofs.Common.{arith, ◌∙◌, ◌≡◌, ap, sym, length, None}, specs.Prelude.option_to_list}
use Rattle.period_lock.proofs.Turning.{count_allowed}
use Rattle.period_lock.proofs.steps.count.Goals as goal

pub fetch_add-requires : goal.fetch_add-requires
fetch_add-requires g c =
    let start = g.T.Storied.start_of c.args.table.now.shared.key.begun.value in
    let changes : c.args.changes ≡ length (option_to_list g.N.Adding.entry) = c.requires.changes
    ∙ ap (λ e. length (option_to_list e)) (sym c.requires.entry) in (
      c.requires.fits,
      omega (arith, c.requires.table.0),
      rw c.requires.table.1
          (count_allowed g.T.Storied.stands (g.T.Storied.front_of start) start c.args.table.now.shared.key.passes
          c.args.seat.now.id c.args.seat.now.me.0.own None g.N.Adding.entry c.args.changes c.args.seat.now.me
          c.requires.holding changes c.requires.room),
    )
