use Rattle.mirror_core.proofs.RowLaws.{rows_are, rows_have, taken_are, taken_have}
use Rattle.mirror_core.proofs.micro_laws.rows_are_of_digests.Goals as goal

pub returns-clause-rows : goal.returns-clause-rows
returns-clause-rows c = rows_are

pub returns-clause-digests : goal.returns-clause-digests
returns-clause-digests c = rows_have

pub returns-clause-taken : goal.returns-clause-taken
returns-clause-taken c = taken_are

pub returns-clause-has : goal.returns-clause-has
returns-clause-has c = taken_have
