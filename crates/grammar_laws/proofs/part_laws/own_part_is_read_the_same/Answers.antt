use Rattle.grammar_laws.proofs.OwnPart.{own_part_same}
use Rattle.grammar_laws.proofs.part_laws.own_part_is_read_the_same.Goals as goal

pub returns : goal.returns
returns g c tables = own_part_same tables
