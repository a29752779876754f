use Rattle.health_report.proofs.Loops.{at_place, flag_more}
use Rattle.health_report.proofs.opinions.add_flags.Goals as goal

pub flags-preserved : goal.flags-preserved
flags-preserved c =
    flag_more c.flags.words c.insert.new.self c.flag.result.now _ _ _
    (at_place c.args.flags.now c.flags.i c.flag.result.now c.flag.ensures) c.in_ok-insert.ensures.ok c.flags.invariant
