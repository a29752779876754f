use Rattle.std.proofs.Common.{◌∙◌, arith}
use Rattle.consensus_calc.proofs.Picks.{picked_more}
use Rattle.consensus_calc.proofs.setting.set_flags.Goals as goal

pub flags-preserved : goal.flags-preserved
flags-preserved c =
    picked_more c.args.part.now c.args.known.now c.args.counts.now c.args.needed.now c.flags.i c.flag-flag.result.now c.flags.set c.insert_if.new.set c.is_set.result (omega arith) (omega arith) c.flag-flag.ensures c.is_set.ensures c.in_ok-insert_if.ensures ∙ c.flags.invariant
