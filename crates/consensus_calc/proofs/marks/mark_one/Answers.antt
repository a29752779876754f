use Rattle.consensus_calc.proofs.Marking.{marked_at, marked_absent}
use Rattle.consensus_calc.proofs.marks.mark_one.Goals as goal

pub returns-in-Some : goal.returns-in-Some
returns-in-Some c = marked_at c.args.known.now c.args.marks.now.items c.in-Some.i c.args.word.now c.place_of.ensures.ascend c.requires c.in-Some.ensures.found

pub returns-in_default : goal.returns-in_default
returns-in_default c = marked_absent c.args.known.now c.args.marks.now.items c.args.word.now c.requires c.in_default.ensures.found
