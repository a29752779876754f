use Rattle.std.proofs.Common.{rules, ◌∙◌}
use Rattle.consensus_calc.proofs.Picks.{has_behind}
use Rattle.consensus_calc.proofs.marks.place_of.Goals as goal

pub flags-preserved : goal.flags-preserved
flags-preserved c = has_behind c.args.known.now c.flags.i c.flag.result.now c.args.word.now c.flag.ensures (search rules) ∙ c.flags.invariant
