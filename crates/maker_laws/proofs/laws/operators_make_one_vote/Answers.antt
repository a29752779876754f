use Rattle.maker_laws.proofs.RulingLaws.{one_vote}
use Rattle.maker_laws.proofs.laws.operators_make_one_vote.Goals as goal

pub returns : goal.returns
returns c = one_vote
