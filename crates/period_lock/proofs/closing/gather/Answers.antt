use Rattle.std.proofs.Common.{[], ◌∷◌, ◌++◌, ap, sym, ◌∙◌, arith, map}
use Rattle.period_lock.{specs.{Kept.{gathered_view, part_of}, Turns.IsOf}, proofs.Parting.join_allowed}
use Rattle.period_lock.proofs.Meeting.{free_of, all_but_last, parts_shift, joined_is}
use Rattle.period_lock.proofs.closing.gather.Goals as goal

pub join_seat-requires : goal.join_seat-requires
join_seat-requires g c =
    let key = c.args.table.now.shared.key in
    let start = g.T.Storied.start_of key.begun.value in
    let here = all_but_last
    (IsOf record {
      table = c.args.table.now.shared.table_id;
      start = start;
      passes =
          c.args.table.now.shared.key.passes;
    }) c.loop-pass.left.items c.pop.new.self.items c.in-Some.pass
    c.in-Some.ensures.items c.loop-pass.invariant.passes in
    let inside = c.pass.inside in
    let free = free_of start inside.seat.me c.pass.invariant.0 (ap (λ p. p.start) c.pass.view_is ∙ here.1.1) in
    let all = c.loop-pass.all in (
      ap (λ p. p.table) c.pass.view_is ∙ here.1.0,
      c.loop-pass.invariant.fits,
      ap (λ m. m.1) c.loop-pass.invariant.seat,
      omega (arith, c.requires.table.0),
      join_allowed g.T.Storied.stands (g.T.Storied.front_of start) start key.passes inside.seat.id inside.seat.me.0
          inside.seat.me.0.own all.id all.me.0 all.me.0.own all.me.0.others
          (ap (λ m. m.0) free) (ap (λ m. m.0) c.loop-pass.invariant.seat),
    )

pub loop-pass-preserved : goal.loop-pass-preserved
loop-pass-preserved g c =
    let start = g.T.Storied.start_of c.args.table.now.shared.key.begun.value in
    let here = all_but_last
    (IsOf record {
      table = c.args.table.now.shared.table_id;
      start = start;
      passes =
          c.args.table.now.shared.key.passes;
    }) c.loop-pass.left.items c.pop.new.self.items c.in-Some.pass
    c.in-Some.ensures.items c.loop-pass.invariant.passes in
    let inside = c.pass.inside in
    let free = free_of start inside.seat.me c.pass.invariant.0 (ap (λ p. p.start) c.pass.view_is ∙ here.1.1) in
    let all = c.loop-pass.all in
    let after = joined_is start inside.seat.me.0.own all.me.0.own all.me.0.others inside.seat.me all.me
    c.join_seat.new.seat.me
    free c.loop-pass.invariant.seat c.join_seat.ensures.2 in
    record {
      fits = c.join_seat.ensures.0 ∙ ap (λ p. p.table) c.pass.view_is ∙ here.1.0;
      seat = after ∙ ap (λ m. (gathered_view start m.0.own m.0.others, [])) (sym after);
      parts = ap (λ m. map part_of c.pop.new.self.items ++ m.0.own ∷ m.0.others) after
          ∙ ap (λ p. map part_of c.pop.new.self.items ++ part_of p ∷ all.me.0.own ∷ all.me.0.others) c.pass.view_is
          ∙ parts_shift c.loop-pass.left.items c.pop.new.self.items c.in-Some.pass (all.me.0.own ∷ all.me.0.others)
          c.in-Some.ensures.items
          ∙ c.loop-pass.invariant.parts;
      passes = here.0;
    }
