use Rattle.answer_laws.proofs.FewRelays.{relays_of_votes}
use Rattle.answer_laws.proofs.laws.relays_of_votes_are_few.Goals as goal

pub returns : goal.returns
returns c = relays_of_votes
