use Rattle.std.proofs.Common.{◌≡◌, ap, sym, ◌∙◌, subst, Some, None}
use Rattle.period_lock.{specs.{Kept.part_of, Turns.EndsIn}, proofs.Ending.ends_with}
use Rattle.period_lock.proofs.closing.finish.Goals as goal

none_is : {T : Type 0} (x : T) → None ≡ Some x → ⊥
none_is x e = cc

some_is : {T : Type 0} (x y : T) → Some x ≡ Some y → x ≡ y
some_is x y e = cc

pub unreachable-requires-in-None : goal.unreachable-requires-in-None
unreachable-requires-in-None g c =
    let key = c.args.table.shared.key in
    let start = g.T.Storied.start_of key.begun.value in
    let all = c.gather-all.result in
    let end = ends_with g.T.Storied.stands (g.T.Storied.front_of start) record
    { table = c.args.table.shared.table_id; start = start; passes = key.passes } all.id all.me.0
    c.pass.inside.seat.me.0 c.pop.new.self.items
    c.args.passes.items c.in-Some.pass _ _ c.take-found.result c.close_with-closed.ensures.values.2
    (ap (λ m. m.0) c.gather-all.ensures.seat) c.gather-all.ensures.parts (ap part_of c.pass.view_is)
    (ap (λ m. m.0.others) c.pass.invariant.0) c.in-Some.ensures.items c.requires.all c.take-found.ensures.value in
    none_is end.0 (sym c.in-None.is ∙ end.1)

pub returns : goal.returns
returns g c =
    let key = c.args.table.shared.key in
    let start = g.T.Storied.start_of key.begun.value in
    let all = c.gather-all.result in
    let end = ends_with g.T.Storied.stands (g.T.Storied.front_of start) record
    { table = c.args.table.shared.table_id; start = start; passes = key.passes } all.id all.me.0
    c.pass.inside.seat.me.0 c.pop.new.self.items
    c.args.passes.items c.in-Some.pass _ _ c.take-found.result c.close_with-closed.ensures.values.2
    (ap (λ m. m.0) c.gather-all.ensures.seat) c.gather-all.ensures.parts (ap part_of c.pass.view_is)
    (ap (λ m. m.0.others) c.pass.invariant.0) c.in-Some.ensures.items c.requires.all c.take-found.ensures.value in
    subst (λ v. EndsIn g.T.Storied.stands record
    { table = c.args.table.shared.table_id; start = start; passes = key.passes } c.args.passes.items v)
    (some_is end.0 c.in-Some-found.value (sym end.1 ∙ c.in-Some-found.is)) end.2
