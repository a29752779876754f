use Rattle.compute_terms.proofs.FlagLaw as law
use Rattle.compute_terms.proofs.laws.knows_flags.Goals as goal

pub returns : goal.returns
returns c = law.knows_flags
