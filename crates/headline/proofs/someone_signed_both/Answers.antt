use Rattle.headline.proofs.Right as law
use Rattle.headline.proofs.someone_signed_both.Goals as goal

pub returns : goal.returns
returns c = law.someone_signed_both
