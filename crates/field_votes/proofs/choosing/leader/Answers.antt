use Rattle.std.proofs.Common.{rules, Some}
use Rattle.field_votes.proofs.Leaders.{leader_more}
use Rattle.field_votes.proofs.choosing.leader.Goals as goal

pub values-preserved : goal.values-preserved
values-preserved g c = record {
  value = leader_more g.T.Ballot.order c.args.values.now c.values.best (Some c.after.result) c.values.i (search rules) c.values.invariant.value c.after.ensures.value;
  within = search rules;
  none = search rules;
}
