use Rattle.std.proofs.Common.{◌∙◌}
use Rattle.compute_terms.specs.RelayFlags.{suits_middle}
use Rattle.consensus_calc.proofs.Picks.{filter_more}
use Rattle.consensus_calc.proofs.setting.suiting.Goals as goal

pub flags-preserved : goal.flags-preserved
flags-preserved c =
    filter_more suits_middle c.args.set.now c.flags.i c.flag-flag.result.now c.flags.after c.insert_if.new.set c.suits_middle.result c.flag-flag.ensures c.suits_middle.ensures c.in_ok-insert_if.ensures ∙ c.flags.invariant
