use Rattle.headline.proofs.Listing as law
use Rattle.headline.proofs.lists_agree.Goals as goal

pub returns : goal.returns
returns c = law.agree
