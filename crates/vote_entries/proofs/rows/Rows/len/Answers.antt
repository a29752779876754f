use Rattle.vote_entries.proofs.RowOrder.{entries_ascend}
use Rattle.vote_entries.proofs.rows.Rows.len.Goals as goal

pub returns-clause-ascending : goal.returns-clause-ascending
returns-clause-ascending c bytes =
    rw (← c.self.view_is) (entries_ascend bytes c.self.inside.addresses.items c.self.inside.micros.items c.self.inside.rows.items c.self.invariant.ascend)
