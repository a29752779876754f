use Rattle.field_votes.{specs.Flags.suits_middle, proofs.KeptFlags.kept_step}
use Rattle.field_votes.proofs.majorities.middle_flags.Goals as goal

pub flags-preserved : goal.flags-preserved
flags-preserved c =
    kept_step suits_middle _ c.flags.left c.insert_if.new.set c.args.chosen.now c.flag-flag.result.now c.flags.i c.suits_middle.result c.flag-flag.ensures c.suits_middle.ensures
    c.in_ok-insert_if.ensures c.flags.invariant
