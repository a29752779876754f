use Rattle.headline.proofs.Listing as law
use Rattle.headline.proofs.deliveries_are_right.Goals as goal

pub returns : goal.returns
returns c = law.are_right
