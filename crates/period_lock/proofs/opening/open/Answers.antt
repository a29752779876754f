use Rattle.std.proofs.Common.{[], ◌∷◌, ◌++◌, Some, ap, sym, ◌∙◌, subst}
use Rattle.atomic_table.specs.Table.{opening}
use Rattle.period_lock.{specs.Kept.{Kept, first_view}, proofs.Parting.opening_is_kept}
use Rattle.period_lock.proofs.opening.open.Goals as goal

pub new-requires : goal.new-requires
new-requires g c =
    let start = g.T.Storied.start_of c.args.about.now.begun.value in
    let front = g.T.Storied.front_of start in
    let count = c.args.about.now.passes in
    let items = c.push_reserved.ensures.items ∙ ap (λ l. l ++ Some c.args.value ∷ []) c.in_ok-slots.ensures.items in
    subst
    (λ slots. Kept g.T.Storied.stands front start count
    (opening (c.args.front ∷ 0 ∷ []) slots (first_view start count)))
    (sym items)
    (opening_is_kept g.T.Storied.stands front start count c.args.value c.args.front c.requires.passes c.requires.front
    c.requires.stands)
