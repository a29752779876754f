use Rattle.computed_laws.proofs.VoteLines.{readable_fill}
use Rattle.computed_laws.proofs.laws.readable_votes_fill_lines.Goals as goal

pub returns : goal.returns
returns c = readable_fill
