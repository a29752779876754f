use Rattle.headline.proofs.Deliveries as law
use Rattle.headline.proofs.deliveries_are_accepted.Goals as goal

pub returns : goal.returns
returns c = law.deliveries
