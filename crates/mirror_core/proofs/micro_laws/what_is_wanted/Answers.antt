use Rattle.mirror_core.proofs.WantedLaws.{missing_once, wanted_are}
use Rattle.mirror_core.proofs.micro_laws.what_is_wanted.Goals as goal

pub returns-clause-are : goal.returns-clause-are
returns-clause-are c = wanted_are

pub returns-clause-once : goal.returns-clause-once
returns-clause-once c = missing_once
