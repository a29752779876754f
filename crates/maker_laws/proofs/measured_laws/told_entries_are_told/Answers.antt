use Rattle.maker_laws.proofs.FileTelling.{file_entries_told}
use Rattle.maker_laws.proofs.measured_laws.told_entries_are_told.Goals as goal

pub returns : goal.returns
returns c = file_entries_told
