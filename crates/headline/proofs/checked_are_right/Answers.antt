use Rattle.headline.proofs.Right as law
use Rattle.headline.proofs.checked_are_right.Goals as goal

pub returns : goal.returns
returns c = law.are_right
