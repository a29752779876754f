use Rattle.field_votes.{specs.Flags.is_majority_flag, proofs.KeptFlags.kept_step}
use Rattle.field_votes.proofs.majorities.flags_of_most.Goals as goal

pub flags-preserved : goal.flags-preserved
flags-preserved c =
    kept_step (is_majority_flag c.args.known.now c.args.set.now) _ c.flags.chosen c.insert_if.new.set c.args.listed.now c.flag-flag.result.now c.flags.i c.is_majority_flag-wanted.result
    c.flag-flag.ensures c.is_majority_flag-wanted.ensures c.in_ok-insert_if.ensures c.flags.invariant
