use Rattle.dir_values.proofs.Flags.{Ascend-as_set}
use Rattle.dir_values.proofs.flag_set.sets_ascend.Goals as goal

pub returns : goal.returns
returns c = Ascend-as_set
