use Rattle.std.proofs.Common.{◌≡◌, ◌-◌, ◌≤◌, [], vec_capacity}
use Rattle.period_lock.specs.{Turns.AreDealt, Kept.{gathered_view, fresh_part, fresh_parts}}
use Rattle.period_lock.proofs.opening.deal.Given as goal

abbrev pub invariant-loop-number : goal.invariant-loop-number
invariant-loop-number g l =
    let start = g.T.Storied.start_of l.table.shared.key.begun.value in record {
      fits : l.first.table_id ≡ l.fn.first.table_id;
      seat : l.first.me ≡ (
        gathered_view start (fresh_part (l.count - 1)) (fresh_parts l.number (l.count - 1 - l.number)),
        [],
      );
      dealt : AreDealt (record { table = l.table.shared.table_id; start = start; passes = l.table.shared.key.passes })
          l.number l.passes.items;
      room : l.count ≤ vec_capacity l.passes;
    }
