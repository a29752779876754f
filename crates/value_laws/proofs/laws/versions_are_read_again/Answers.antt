use Rattle.value_laws.proofs.VersionsAgain.{versions_again, versions_fill, versions_right}
use Rattle.value_laws.proofs.laws.versions_are_read_again.Goals as goal

pub returns-clause-read : goal.returns-clause-read
returns-clause-read c = versions_again

pub returns-clause-right : goal.returns-clause-right
returns-clause-right c = versions_right

pub returns-clause-fill : goal.returns-clause-fill
returns-clause-fill c = versions_fill
