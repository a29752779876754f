use Rattle.std.proofs.Common.{◌≡◌, [], ◌∷◌, ◌++◌, map, vec_len}
use Rattle.period_lock.specs.{Turns.AreOf, Kept.{gathered_view, part_of}}
use Rattle.period_lock.proofs.closing.gather.Given as goal

abbrev pub invariant-loop-pass : goal.invariant-loop-pass
invariant-loop-pass g l = record {
  fits : l.all.table_id ≡ l.fn.table.shared.table_id;
  seat : l.all.me ≡ (
    gathered_view (g.T.Storied.start_of l.table.shared.key.begun.value) l.all.me.0.own l.all.me.0.others,
    [],
  );
  parts : map part_of l.left.items ++ l.all.me.0.own ∷ l.all.me.0.others ≡ map part_of
      l.fn.passes.items ++ l.fn.last.me.0.own ∷ l.fn.last.me.0.others;
  passes : AreOf (record {
    table = l.table.shared.table_id;
    start = g.T.Storied.start_of l.table.shared.key.begun.value;
    passes =
        l.table.shared.key.passes;
  }) l.left.items;
}

abbrev pub decreases-loop-pass : goal.decreases-loop-pass
decreases-loop-pass g l = vec_len l.left
