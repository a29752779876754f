use Rattle.std.{proofs.Common.{◌≡◌, ◌+◌, ◌-◌, length, Some, ◌∙◌, rules}, specs.Prelude.slice_get}
use Rattle.vote_entries.proofs.RowOrder.{last_decides}
use Rattle.vote_entries.proofs.rows.Rows.is_after.Goals as goal

pub returns-in-Some : goal.returns-in-Some
returns-in-Some c =
    let rows = c.self.inside.rows.items in
    let found : slice_get rows (length rows - 1) ≡ Some c.in-Some.row.now = search rules in
    let count : length rows ≡ (length rows - 1) + 1 = search rules in
    rw (← c.self.view_is) (
    c.is_below.ensures
    ∙ last_decides c.self.inside.addresses.items c.self.inside.micros.items rows (length rows - 1) c.in-Some.row.now c.args.identity.now c.self.invariant.ascend count found
    )
