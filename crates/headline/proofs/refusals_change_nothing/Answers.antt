use Rattle.headline.proofs.Listing as law
use Rattle.headline.proofs.refusals_change_nothing.Goals as goal

pub returns : goal.returns
returns c = law.refusals_change_nothing
