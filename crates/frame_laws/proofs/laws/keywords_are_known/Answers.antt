use Rattle.frame_laws.proofs.KnownWords.{known}
use Rattle.frame_laws.proofs.laws.keywords_are_known.Goals as goal

pub returns : goal.returns
returns c = known
