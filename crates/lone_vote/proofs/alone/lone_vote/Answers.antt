use Rattle.std.proofs.Common.{[]}
use Rattle.lone_vote.proofs.alone.lone_vote.Goals as goal

pub returns : goal.returns
returns c = c.end.ensures c.args.bytes.now (c.in_ok-lone.ensures [] c.in_ok-new.ensures)
