use Rattle.answer_laws.proofs.FewRelays.{relays_of_inputs}
use Rattle.answer_laws.proofs.laws.relays_of_inputs_are_few.Goals as goal

pub returns : goal.returns
returns c = relays_of_inputs c.inputs_are_votes.ensures
