use Rattle.answer_laws.proofs.ListedLaw as law
use Rattle.answer_laws.proofs.compute_laws.listed_relays_are_listed.Goals as goal

pub returns : goal.returns
returns c = law.listed_law
