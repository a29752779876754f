use Rattle.std.proofs.Common.{List, ℕ}
use Rattle.dir_values.specs.FlagSets.{has_flag}
use Rattle.consensus_calc.proofs.Picks.{map_more_at}
use Rattle.consensus_calc.proofs.known.known_in.Goals as goal

pub flags-preserved : goal.flags-preserved
flags-preserved c =
    map_more_at (λ (flag : List ℕ). has_flag c.args.set.now flag) c.args.known.now c.flags.i c.flag.result.now c.flags.row.items c.push.new.self.items c.contains.result
    c.flag.ensures c.flags.invariant c.contains.ensures c.in_ok-push.ensures.items
